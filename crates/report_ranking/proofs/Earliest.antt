-- The earliest of those that come after a place, compared by some tags. Assumes nothing.
use mathlib.Core.Path.{◌≡◌, refl, sym, ap, ◌∙◌}
use mathlib.Core.Bool.{Bool, true, false, false≢true}
use mathlib.Core.Logic.{◌⊎◌, inl, inr}
use mathlib.Core.List.{List}
use Prim.Native.Nat.{ℕ, zero, suc, ◌≤◌, ◌<◌}
use native.Mathlib.Decide.{dec_lt}
use native.Mathlib.Omega.{arith}
use borrow.Author.Tests.{eq-eqb, ne_eqb}
use Rattle.report_ranking.specs.Sources.{precedes, is_after, earlier, better, first_after}
use Rattle.report_ranking.specs.Taken.{better_taken, first_taken}
use Rattle.report_ranking.proofs.Ordering.{order}

-- b is the earliest of those among the first m that come after p, compared by the tags `by`, or n where none does
pub data Best (by tags : List ℕ) (rows : List (List ℕ)) (n p m b : ℕ) : Type 0 where
  none : b ≡ n → ((i : ℕ) → i < m → is_after tags rows n p i ≡ false) → Best by tags rows n p m b
  some : b < m → is_after tags rows n p b ≡ true → ((i : ℕ) → i < m → is_after tags rows n p i ≡ true → (i ≡ b) ⊎ (precedes by rows b i ≡ true)) → Best by tags rows n p m b

-- one more place: an earlier one, or the last
last : {A : Type 0} (i m : ℕ) → i < suc m → (i < m → A) → (i ≡ m → A) → A
last i m h f g = elim (dec_lt i m) [ yes p ↦ f p | no p ↦ g (omega arith) ]

module _ (by tags : List ℕ) (rows : List (List ℕ)) (n p : ℕ) where
  -- ---- one source looked at
  better_skip : (b m : ℕ) → is_after tags rows n p m ≡ false → better_taken by tags rows n p b m ≡ b
  unfolding better_taken
  better_skip b m e = simp e

  better_first : (b m : ℕ) → is_after tags rows n p m ≡ true → b ≡ n → better_taken by tags rows n p b m ≡ m
  unfolding better_taken earlier
  better_first b m e f = simp (e, eq-eqb b n f)

  better_new : (b m : ℕ) → is_after tags rows n p m ≡ true → (b ≡ n → ⊥) → precedes by rows m b ≡ true → better_taken by tags rows n p b m ≡ m
  unfolding better_taken earlier
  better_new b m e f g = simp (e, ne_eqb b n f, g)

  better_old : (b m : ℕ) → is_after tags rows n p m ≡ true → (b ≡ n → ⊥) → precedes by rows m b ≡ false → better_taken by tags rows n p b m ≡ b
  unfolding better_taken earlier
  better_old b m e f g = simp (e, ne_eqb b n f, g)

  other : (b m : ℕ) → b < m → precedes by rows m b ≡ false → (t : Bool) → precedes by rows b m ≡ t → precedes by rows b m ≡ true
  other b m h e true f = f
  other b m h e false f = absurd (omega (arith, (order by rows).connected b m f e))

  no_more : (m b : ℕ) → is_after tags rows n p m ≡ false → Best by tags rows n p m b → Best by tags rows n p (suc m) b
  no_more m b e (none f g) = none f (λ i h. last i m h (g i) (λ q. ap (is_after tags rows n p) q ∙ e))
  no_more m b e (some f a g) =
      some (omega arith) a (λ i h x. last i m h (λ q. g i q x) (λ q. absurd (false≢true (sym e ∙ ap (is_after tags rows n p) (sym q) ∙ x))))

  one_more : (m b : ℕ) → m < n → is_after tags rows n p m ≡ true → Best by tags rows n p m b → (t : Bool) → precedes by rows m b ≡ t → Best by tags rows n p (suc m) (better_taken by tags rows n p b m)
  one_more m b h e (none f g) t r =
      rw (better_first b m e f) (some (omega arith) e (λ i k x. last i m k (λ q. absurd (false≢true (sym (g i q) ∙ x))) (λ q. inl q)))
  one_more m b h e (some f a g) true r =
      rw (better_new b m e (λ q. omega arith) r)
      (some (omega arith) e (λ i k x. last i m k (λ q. further i (g i q x)) (λ q. inl q)))
    where
      further : (i : ℕ) → (i ≡ b) ⊎ (precedes by rows b i ≡ true) → (i ≡ m) ⊎ (precedes by rows m i ≡ true)
      further i (inl q) = inr (ap (precedes by rows m) q ∙ r)
      further i (inr q) = inr ((order by rows).transitive m b i r q)
  one_more m b h e (some f a g) false r =
      rw (better_old b m e (λ q. omega arith) r)
      (some (omega arith) a (λ i k x. last i m k (λ q. g i q x) (λ q. inr (ap (precedes by rows b) q ∙ other b m f r (precedes by rows b m) refl))))

  step : (m b : ℕ) → m < n → Best by tags rows n p m b → (t : Bool) → is_after tags rows n p m ≡ t → Best by tags rows n p (suc m) (better_taken by tags rows n p b m)
  step m b h w true e = one_more m b h e w (precedes by rows m b) refl
  step m b h w false e = rw (better_skip b m e) (no_more m b e w)

  pub best_taken : (m : ℕ) → m ≤ n → Best by tags rows n p m (first_taken by tags rows n p m)
  unfolding first_taken
  best_taken zero h = none refl (λ i k. absurd (omega arith))
  best_taken (suc m) h = step m (first_taken by tags rows n p m) (omega arith) (best_taken m (omega arith)) (is_after tags rows n p m) refl

-- ---- by the tags themselves
first_same : (tags : List ℕ) (rows : List (List ℕ)) (n p m : ℕ) → first_taken tags tags rows n p m ≡ first_after tags rows n p m
unfolding first_taken first_after better_taken better
first_same tags rows n p zero = refl
first_same tags rows n p (suc m) = rw (first_same tags rows n p m) refl

pub taken_first : (tags : List ℕ) (rows : List (List ℕ)) (n p : ℕ) → first_taken tags tags rows n p n ≡ first_after tags rows n p n
taken_first tags rows n p = first_same tags rows n p n

pub best : (tags : List ℕ) (rows : List (List ℕ)) (n p : ℕ) → Best tags tags rows n p n (first_after tags rows n p n)
best tags rows n p = rw (sym (first_same tags rows n p n)) (best_taken tags tags rows n p n (omega arith))

-- there is one earliest
pub alone : (tags : List ℕ) (rows : List (List ℕ)) (n p a b : ℕ) → Best tags tags rows n p n a → Best tags tags rows n p n b → a ≡ b
alone tags rows n p a b (none e f) (none g h) = e ∙ sym g
alone tags rows n p a b (none e f) (some g h i) = absurd (false≢true (sym (f b g) ∙ h))
alone tags rows n p a b (some g h i) (none e f) = absurd (false≢true (sym (f a g) ∙ h))
alone tags rows n p a b (some g h i) (some e f j) = by (i b e f) (j a g h)
  where
    by : (b ≡ a) ⊎ (precedes tags rows a b ≡ true) → (a ≡ b) ⊎ (precedes tags rows b a ≡ true) → a ≡ b
    by (inl q) r = sym q
    by (inr q) (inl r) = r
    by (inr q) (inr r) = absurd (false≢true (sym ((order tags rows).irreflexive a) ∙ (order tags rows).transitive a b a q r))
