-- A call more in the list, and the totals of the run. Assumes nothing.
use mathlib.Core.Path.{◌≡◌, refl, sym, ap, ◌∙◌}
use mathlib.Core.Bool.{Bool, true, false, cond, not, true≢false}
use mathlib.Core.List.{List, ◌∷◌}
use native.Mathlib.Nat.{mod-add-mod, add_comm}
use Prim.Native.Nat.{ℕ, zero, suc, ◌+◌, ◌<◌, ◌≤◌, ◌^◌, ◌%◌}
use native.Mathlib.Numerals.{add-one}
use native.Mathlib.Omega.{arith}
use borrow.Author.Tests.{lt-ltb, le-ltb, lt-leb, eqb-true}
use lib.Dec.{eqb, ltb}
use lib.ListN.{get_or, set, replicate}
use Rattle.flow.specs.Flow.{dims, upto}
use Rattle.flow.proofs.Parts.{upto_at}
use Rattle.fair.specs.Calls as calls
use Rattle.fair.specs.Calls.{State, Call, Event, event, events, by}
use Rattle.fair.specs.Runs.{sum}
use Rattle.fair_row.specs.declared.Call as given
use Rattle.fair_row.specs.Replay.{amounts, sums, counts, totals, over_share, ends_over_share, run, run_after}

-- two functions that agree at each dimension give the same list
pub same_parts : (f g : ℕ → ℕ) (n : ℕ) (xs : List ℕ) → ((d : ℕ) → d < n → f d ≡ g d) → upto f n xs ≡ upto g n xs
unfolding upto
same_parts f g zero xs e = refl
same_parts f g (suc n) xs e = ap (λ (ys : List ℕ). set ys n (f n)) (same_parts f g n xs (λ d h. e d (omega arith))) ∙ ap (λ (x : ℕ). set (upto g n xs) n x) (e n (omega arith))

pub parts_at : (f : ℕ → ℕ) (d : ℕ) → d < dims → get_or (upto f dims (replicate dims 0)) d 0 ≡ f d
parts_at f d h = upto_at 0 f dims (replicate dims 0) d h (omega arith)

pub zeros_parts : replicate {A = ℕ} dims 0 ≡ upto (λ (d : ℕ). 0) dims (replicate dims 0)
unfolding upto
zeros_parts = refl

-- ---- a call more
-- refused by number or not, as the program asks it
refused_is : (n : ℕ) (b : Bool) → eqb n 0 ≡ b → ltb 0 n ≡ not b
refused_is n true e = le-ltb 0 n (omega (arith, eqb-true n 0 e))
refused_is zero false e = absurd (true≢false e)
refused_is (suc n) false e = lt-ltb 0 (suc n) (omega arith)

-- before call `from` the run has none
pub taken_before : (first : State) (from : ℕ) (page : List ℕ) (list : List given.Call) (i : ℕ) → i ≤ from → (run first from page list i).taken ≡ 0
unfolding run run_after counts
taken_before first from page list zero l = refl
taken_before first from page list (suc i) l = rw (lt-leb from i (omega arith)) (taken_before first from page list i (omega arith))

-- a function of the run that is the same for every run of no call
grown_by : {A : Type 0} (f : ℕ → List Event → A) → ((es ds : List Event) → f 0 es ≡ f 0 ds) → (first : State) (h : List Call) (c : Call) (inside b : Bool) (n : ℕ)
    → eqb (calls.number (calls.state first h) c) 0 ≡ b → calls.refused (calls.state first h) c ≡ not b → (inside ≡ false → n ≡ 0)
    → f (cond (counts inside (calls.number (calls.state first h) c)) (suc n) n) (events first (c ∷ h)) ≡ cond (counts inside (calls.number (calls.state first h) c)) (f (suc n) (event (calls.state first h) c ∷ events first h)) (f n (events first h))
unfolding counts events
grown_by f z first h c false b n e r o = rw (o refl) (z _ _)
grown_by f z first h c true true n e r o = rw (e, r) refl
grown_by f z first h c true false n e r o = rw (e, r) refl

module _ (first s : State) (h k : List Call) (c : Call) (m n n' : ℕ) (inside : Bool) (ek : c ∷ h ≡ k) (es : s ≡ calls.state first h) (em : m ≡ calls.number s c) (o : inside ≡ false → n ≡ 0) (en : cond (counts inside (calls.number (calls.state first h) c)) (suc n) n ≡ n') where
  number_is : m ≡ calls.number (calls.state first h) c
  number_is = em ∙ ap (λ (z : State). calls.number z c) es

  -- what a call that does not count amounts to does not matter
  only_counted : {A : Type 0} (x y x' : A) (a b : Bool) → inside ≡ a → eqb m 0 ≡ b → (m ≡ 0 → x' ≡ y) → cond (counts inside m) x' x ≡ cond (counts inside m) y x
  unfolding counts
  only_counted x y x' false b ei e f = rw ei refl
  only_counted x y x' true true ei e f = rw (ei, e) (f (eqb-true m 0 e))
  only_counted x y x' true false ei e f = rw (ei, e) refl

  pub counted_next : {A : Type 0} (f : ℕ → List Event → A) (x y x' : A) → ((es ds : List Event) → f 0 es ≡ f 0 ds) → x ≡ f n (events first h) → (m ≡ 0 → x' ≡ f (suc n) (event s c ∷ events first h))
      → y ≡ cond (counts inside m) x' x → y ≡ f n' (events first k)
  counted_next {A = A} f x y x' z ex ef ey =
      ey ∙ only_counted x (f (suc n) (event s c ∷ events first h)) x' _ _ refl refl ef
      ∙ ap (λ (w : A). cond (counts inside m) (f (suc n) (event s c ∷ events first h)) w) ex
      ∙ ap (λ (w : State). cond (counts inside m) (f (suc n) (event w c ∷ events first h)) (f n (events first h))) es
      ∙ ap (λ (w : ℕ). cond (counts inside w) (f (suc n) (event (calls.state first h) c ∷ events first h)) (f n (events first h))) number_is
      ∙ sym (grown_by f z first h c inside _ n refl (refused_is (calls.number (calls.state first h) c) _ refl) o)
      ∙ ap (λ (w : ℕ). f w (events first (c ∷ h))) en
      ∙ ap (λ (w : List Call). f n' (events first w)) ek

-- ---- the totals
pub totals_none : (w : ℕ → State → Call → ℕ) (es : List Event) → replicate dims 0 ≡ totals w 0 es
unfolding totals sum upto
totals_none w es = refl

added_up : (a b m : ℕ) → (a % m + b) % m ≡ (b + a) % m
added_up a b m = mod-add-mod a m b ∙ ap (λ (x : ℕ). x % m) (add_comm a b)

pub totals_more : (w : ℕ → State → Call → ℕ) (n : ℕ) (s : State) (c : Call) (es : List Event) → sums (totals w n es) (amounts w s c) ≡ totals w (suc n) (event s c ∷ es)
unfolding totals sums amounts sum
totals_more w n s c es =
    same_parts _ _ dims (replicate dims 0)
    (λ d l. ap (λ (x : ℕ). (x + get_or (upto (λ (d : ℕ). w d s c) dims (replicate dims 0)) d 0) % 2 ^ 64) (parts_at (λ (d : ℕ). sum (by (w d)) n es % 2 ^ 64) d l)
    ∙ ap (λ (x : ℕ). (sum (by (w d)) n es % 2 ^ 64 + x) % 2 ^ 64) (parts_at (λ (d : ℕ). w d s c) d l)
    ∙ added_up (sum (by (w d)) n es) (w d s c) (2 ^ 64))

-- ---- how many, and the last call
pub taken_more : (n x : ℕ) → x ≡ n % 2 ^ 64 → (x + 1) % 2 ^ 64 ≡ suc n % 2 ^ 64
taken_more n x e = ap (λ (z : ℕ). (z + 1) % 2 ^ 64) e ∙ mod-add-mod n (2 ^ 64) 1 ∙ ap (λ (z : ℕ). z % 2 ^ 64) (add-one n)

pub over_none : (es ds : List Event) → ends_over_share 0 es ≡ ends_over_share 0 ds
unfolding ends_over_share
over_none es ds = refl

pub over_more : (n : ℕ) (s : State) (c : Call) (es : List Event) → over_share s c ≡ ends_over_share (suc n) (event s c ∷ es)
unfolding ends_over_share
over_more n s c es = refl
