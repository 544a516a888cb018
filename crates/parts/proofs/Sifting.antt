-- A pass that drops the stale entries of a part, turn by turn: those that stay, in their order, and the slots that go. Assumes nothing.
use mathlib.Core.Path.{◌≡◌, refl, sym, ap, subst, ◌∙◌}
use mathlib.Core.Bool.{Bool, true, false, cond, not, true≢false}
use mathlib.Core.List.{List, [], ◌∷◌, ◌++◌, append-nil}
use Prim.Native.Nat.{ℕ, zero, suc, ◌+◌, ◌-◌, ◌<◌, ◌≤◌}
use native.Mathlib.Nat.{add-zero, add-sub_of_le}
use native.Mathlib.Omega.{arith}
use lib.ListN.{length, get_or, set, length-append}
use Rattle.std.proofs.lemmas.List.{set-get_or}
use Rattle.shifting.specs.Shifting.{over, part}
use Rattle.shifting.proofs.Laying.{over_nil, over_snoc, over_beyond, part_none, part_more, part_length}
use Rattle.parts.specs.Parts.{those, stays, goes, is_stale, sifting, Sifting, sift_one, sifted}

-- ---- those that pass
pub those_end : {A : Type 0} (p : ℕ → Bool) (i : ℕ) (xs : List A) (x : A) → those p i (xs ++ (x ∷ [])) ≡ those p i xs ++ cond (p (i + length xs)) (x ∷ []) []
unfolding those
those_end p i [] x = ap (λ (k : ℕ). cond (p k) (x ∷ []) []) (sym (add-zero i))
those_end {A} p i (y ∷ xs) x = go (those_end p (suc i) xs x ∙ ap (λ (k : ℕ). those p (suc i) xs ++ cond (p k) (x ∷ []) []) (omega arith)) (p i)
  where
    go : those p (suc i) (xs ++ (x ∷ [])) ≡ those p (suc i) xs ++ cond (p (i + suc (length xs))) (x ∷ []) [] → (b : Bool)
        → cond b (y ∷ those p (suc i) (xs ++ (x ∷ []))) (those p (suc i) (xs ++ (x ∷ []))) ≡ cond b (y ∷ those p (suc i) xs) (those p (suc i) xs) ++ cond (p (i + suc (length xs))) (x ∷ []) []
    go r true = ap (λ (l : List A). y ∷ l) r
    go r false = r

-- the places passed decide how many pass
pub those_both : {A B : Type 0} (p q : ℕ → Bool) → ((k : ℕ) → q k ≡ not (p k)) → (i : ℕ) (xs : List A) (ys : List B) → length xs ≡ length ys → length (those q i xs) + length (those p i ys) ≡ length xs
unfolding those
those_both p q w i [] [] e = refl
those_both p q w i [] (y ∷ ys) e = absurd (omega arith)
those_both p q w i (x ∷ xs) [] e = absurd (omega arith)
those_both {A} {B} p q w i (x ∷ xs) (y ∷ ys) e = go (those_both p q w (suc i) xs ys (omega arith)) (p i) (q i) (w i)
  where
    go : length (those q (suc i) xs) + length (those p (suc i) ys) ≡ length xs → (b c : Bool) → c ≡ not b
        → length (cond c (x ∷ those q (suc i) xs) (those q (suc i) xs)) + length (cond b (y ∷ those p (suc i) ys) (those p (suc i) ys)) ≡ suc (length xs)
    go r true true h = absurd (true≢false h)
    go r true false h = omega arith
    go r false true h = omega arith
    go r false false h = absurd (true≢false (sym h))

tri : (a a' : ℕ) (t t' b b' c c' : List ℕ) → a ≡ a' → t ≡ t' → b ≡ b' → c ≡ c' → sifting a t b c ≡ sifting a' t' b' c'
tri a a' t t' b b' c c' p o q r = cc

-- one more that stays, or that goes
step : (ts xs fs T K D : List ℕ) (b : Bool) (from f t t' x y i : ℕ) → t' ≡ t → y ≡ x → length T ≡ length K → length K + length D ≡ i - from → from ≤ i → i < length xs → i < length ts → f + (i - from) < length fs
    → cond b (sifting (from + length K) (over ts from T) (over xs from K) (set (over fs f D) (f + (i - (from + length K))) y))
    (sifting (from + length K + 1) (set (over ts from T) (from + length K) t') (set (over xs from K) (from + length K) y) (over fs f D))
    ≡ sifting (from + length (K ++ cond (not b) (x ∷ []) [])) (over ts from (T ++ cond (not b) (t ∷ []) [])) (over xs from (K ++ cond (not b) (x ∷ []) [])) (over fs f (D ++ cond b (x ∷ []) []))
step ts xs fs T K D true from f t t' x y i d e g s h l u m =
    let z : f + (i - (from + length K)) ≡ f + length D = omega arith in
    let w : f + length D < length fs = omega arith in
    tri _ _ _ _ _ _ _ _ (ap (λ (k : List ℕ). from + length k) (sym (append-nil K))) (ap (over ts from) (sym (append-nil T))) (ap (over xs from) (sym (append-nil K)))
    (ap (λ (k : ℕ). set (over fs f D) k y) z ∙ ap (set (over fs f D) (f + length D)) e ∙ over_snoc 0 fs f D x w)
step ts xs fs T K D false from f t t' x y i d e g s h l u m =
    let w : from + length K < length xs = omega arith in
    let v : from + length T < length ts = omega arith in
    let z : from + length K ≡ from + length T = omega arith in
    tri _ _ _ _ _ _ _ _ (omega (arith, length-append K (x ∷ []))) (ap (λ (k : ℕ). set (over ts from T) k t') z ∙ ap (set (over ts from T) (from + length T)) d ∙ over_snoc 0 ts from T t v)
    (ap (set (over xs from K) (from + length K)) e ∙ over_snoc 0 xs from K x w) (ap (over fs f) (sym (append-nil D)))

pub stays_not : (xs : List ℕ) (units : List (List ℕ)) (now k : ℕ) → stays xs units now k ≡ not (goes xs units now k)
unfolding stays
stays_not xs units now k = refl

module _ (ts xs fs : List ℕ) (units : List (List ℕ)) (from f now : ℕ) where
  -- those that stay of the part up to i, and those that go
  abbrev T : ℕ → List ℕ
  T i = those (stays xs units now) from (part ts from i)

  abbrev K : ℕ → List ℕ
  K i = those (stays xs units now) from (part xs from i)

  abbrev D : ℕ → List ℕ
  D i = those (goes xs units now) from (part xs from i)

  pub both : (i : ℕ) → from ≤ i → i ≤ length xs → length (K i) + length (D i) ≡ i - from
  both i h l = those_both (goes xs units now) (stays xs units now) (stays_not xs units now) from (part xs from i) (part xs from i) refl ∙ part_length xs from i l

  pub like : (i : ℕ) → from ≤ i → i ≤ length xs → i ≤ length ts → length (T i) ≡ length (K i)
  like i h l u = omega (arith, both i h l, part_length ts from i u, part_length xs from i l, those_both (goes xs units now) (stays xs units now) (stays_not xs units now) from (part ts from i) (part xs from i) (omega (arith, part_length ts from i u, part_length xs from i l)))

  empty : (p : ℕ → Bool) (ys : List ℕ) → those p from (part ys from from) ≡ []
  empty p ys = ap (those p from) (part_none ys from) ∙ (unfold those in refl)

  pub sifted_none : sifting from ts xs fs ≡ sifted ts xs fs units from from f now
  unfolding sifted
  sifted_none =
      sym (tri _ _ _ _ _ _ _ _ (ap (λ (z : List ℕ). from + length z) (empty (stays xs units now) xs) ∙ add-zero from) (ap (over ts from) (empty (stays xs units now) ts) ∙ over_nil ts from)
      (ap (over xs from) (empty (stays xs units now) xs) ∙ over_nil xs from) (ap (over fs f) (empty (goes xs units now) xs) ∙ over_nil fs f))

  module _ (i : ℕ) (h : from ≤ i) (l : i < length xs) (u : i < length ts) (m : f + (i - from) < length fs) where
    here : from + length (part xs from i) ≡ i
    here = omega (arith, part_length xs from i (omega arith))

    there : from + length (part ts from i) ≡ i
    there = omega (arith, part_length ts from i (omega arith))

    pub sifted_next : sift_one (sifted ts xs fs units from i f now) units i f now ≡ sifted ts xs fs units from (i + 1) f now
    unfolding sift_one sifted
    sifted_next =
        let e : get_or (over xs from (K i)) i 0 ≡ get_or xs i 0 = over_beyond 0 xs from (K i) i (omega arith) (omega (arith, both i h (omega arith))) in
        let g : get_or (over ts from (T i)) i 0 ≡ get_or ts i 0 = over_beyond 0 ts from (T i) i (omega arith) (omega (arith, both i h (omega arith), like i h (omega arith) (omega arith))) in
        let c = from + length (K i) in
        let t = over ts from (T i) in
        let x = over xs from (K i) in
        let d = over fs f (D i) in
        ap (λ (b : Bool). cond b (sifting c t x (set d (f + (i - c)) (get_or x i 0))) (sifting (c + 1) (set t c (get_or t i 0)) (set x c (get_or x i 0)) d)) (ap (is_stale units now) e)
        ∙ step ts xs fs (T i) (K i) (D i) (is_stale units now (get_or xs i 0)) from f (get_or ts i 0) (get_or (over ts from (T i)) i 0) (get_or xs i 0) (get_or (over xs from (K i)) i 0) i g e (like i h (omega arith) (omega arith)) (both i h (omega arith)) h l u m
        ∙ sym (tri _ _ _ _ _ _ _ _ (ap (λ (z : List ℕ). from + length z) kept) (ap (over ts from) tagged) (ap (over xs from) kept) (ap (over fs f) went))
      where
        kept : K (i + 1) ≡ K i ++ cond (not (is_stale units now (get_or xs i 0))) (get_or xs i 0 ∷ []) []
        kept =
            ap (those (stays xs units now) from) (part_more 0 xs from i h l) ∙ those_end (stays xs units now) from (part xs from i) (get_or xs i 0)
            ∙ ap (λ (k : ℕ). K i ++ cond (stays xs units now k) (get_or xs i 0 ∷ []) []) here ∙ (unfold stays goes in refl)

        tagged : T (i + 1) ≡ T i ++ cond (not (is_stale units now (get_or xs i 0))) (get_or ts i 0 ∷ []) []
        tagged =
            ap (those (stays xs units now) from) (part_more 0 ts from i h u) ∙ those_end (stays xs units now) from (part ts from i) (get_or ts i 0)
            ∙ ap (λ (k : ℕ). T i ++ cond (stays xs units now k) (get_or ts i 0 ∷ []) []) there ∙ (unfold stays goes in refl)

        went : D (i + 1) ≡ D i ++ cond (is_stale units now (get_or xs i 0)) (get_or xs i 0 ∷ []) []
        went =
            ap (those (goes xs units now) from) (part_more 0 xs from i h l) ∙ those_end (goes xs units now) from (part xs from i) (get_or xs i 0)
            ∙ ap (λ (k : ℕ). D i ++ cond (goes xs units now k) (get_or xs i 0 ∷ []) []) here ∙ (unfold goes in refl)

    pub sifted_turn : (s t : Sifting) → t ≡ sift_one s units i f now → s ≡ sifted ts xs fs units from i f now → t ≡ sifted ts xs fs units from (i + 1) f now
    sifted_turn s t p q = p ∙ ap (λ (r : Sifting). sift_one r units i f now) q ∙ sifted_next

  -- ---- before the first entry that goes nothing is written
  one_stays : (k : ℕ) → goes xs units now k ≡ false → sift_one (sifting k ts xs fs) units k f now ≡ sifting (k + 1) ts xs fs
  unfolding sift_one goes
  one_stays k e = simp e (tri _ _ _ _ _ _ _ _ refl (set-get_or ts k 0) (set-get_or xs k 0) refl)

  pub stay_still : (d : ℕ) → from + d ≤ length xs → from + d ≤ length ts → f + d ≤ length fs → ((k : ℕ) → from ≤ k → k < from + d → goes xs units now k ≡ false)
      → sifting (from + d) ts xs fs ≡ sifted ts xs fs units from (from + d) f now
  stay_still zero h l m e = ap (λ (k : ℕ). sifting k ts xs fs) (add-zero from) ∙ sifted_none ∙ sym (ap (λ (k : ℕ). sifted ts xs fs units from k f now) (add-zero from))
  stay_still (suc d) h l m e =
      let z : from + suc d ≡ from + d + 1 = omega arith in
      ap (λ (k : ℕ). sifting k ts xs fs) z ∙ sym (one_stays (from + d) (e (from + d) (omega arith) (omega arith)))
      ∙ ap (λ (r : Sifting). sift_one r units (from + d) f now) (stay_still d (omega arith) (omega arith) (omega arith) (λ k a b. e k a (omega arith)))
      ∙ sifted_next (from + d) (omega arith) (omega arith) (omega arith) (omega arith)
      ∙ sym (ap (λ (k : ℕ). sifted ts xs fs units from k f now) z)

-- a pass that begins at an entry before which none goes
pub same_end : (ts xs fs : List ℕ) (units : List (List ℕ)) (from i f now d : ℕ) → from ≤ i → i + d ≤ length xs → i + d ≤ length ts → f + (i + d - from) ≤ length fs
    → sifting i ts xs fs ≡ sifted ts xs fs units from i f now → sifted ts xs fs units i (i + d) f now ≡ sifted ts xs fs units from (i + d) f now
same_end ts xs fs units from i f now zero h l u m e =
    ap (λ (k : ℕ). sifted ts xs fs units i k f now) (add-zero i) ∙ sym (sifted_none ts xs fs units i f now) ∙ e ∙ sym (ap (λ (k : ℕ). sifted ts xs fs units from k f now) (add-zero i))
same_end ts xs fs units from i f now (suc d) h l u m e =
    let z : i + suc d ≡ i + d + 1 = omega arith in
    ap (λ (k : ℕ). sifted ts xs fs units i k f now) z ∙ sym (sifted_next ts xs fs units i f now (i + d) (omega arith) (omega arith) (omega arith) (omega arith))
    ∙ ap (λ (r : Sifting). sift_one r units (i + d) f now) (same_end ts xs fs units from i f now d h (omega arith) (omega arith) (omega arith) e)
    ∙ sifted_next ts xs fs units from f now (i + d) (omega arith) (omega arith) (omega arith) (omega arith)
    ∙ sym (ap (λ (k : ℕ). sifted ts xs fs units from k f now) z)

pub past : (ts xs fs : List ℕ) (units : List (List ℕ)) (from i to f now : ℕ) → from ≤ i → i ≤ to → to ≤ length xs → to ≤ length ts → f + (to - from) ≤ length fs
    → ((k : ℕ) → from ≤ k → k < i → goes xs units now k ≡ false) → sifted ts xs fs units i to f now ≡ sifted ts xs fs units from to f now
past ts xs fs units from i to f now h l u v m e =
    let z : from + (i - from) ≡ i = add-sub_of_le h in
    let y : i + (to - i) ≡ to = add-sub_of_le l in
    let b = stay_still ts xs fs units from f now (i - from) (omega arith) (omega arith) (omega arith) (λ k a b. e k a (omega arith)) in
    let c : sifting i ts xs fs ≡ sifted ts xs fs units from i f now = subst (λ (k : ℕ). sifting k ts xs fs ≡ sifted ts xs fs units from k f now) z b in
    subst (λ (k : ℕ). sifted ts xs fs units i k f now ≡ sifted ts xs fs units from k f now) y (same_end ts xs fs units from i f now (to - i) h (omega arith) (omega arith) (omega arith) c)

-- a turn of the pass, which leaves the records
pub turn : (ts xs fs : List ℕ) (units units' : List (List ℕ)) (from i f now : ℕ) → from ≤ i → i < length xs → i < length ts → f + (i - from) < length fs → (s t : Sifting) → units' ≡ units
    → t ≡ sift_one s units' i f now → s ≡ sifted ts xs fs units from i f now → t ≡ sifted ts xs fs units from (i + 1) f now
turn ts xs fs units units' from i f now h l u m s t e p q =
    p ∙ ap (λ (v : List (List ℕ)). sift_one s v i f now) e ∙ ap (λ (r : Sifting). sift_one r units i f now) q ∙ sifted_next ts xs fs units from f now i h l u m
