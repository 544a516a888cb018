-- Laws of `same` and `less`: what `==` and `<` say, that `same` is equality, and that `less` is a strict and total order. Assumes nothing.
use mathlib.Core.Path.{◌≡◌, refl, sym, ap, ◌∙◌}
use mathlib.Core.Bool.{Bool, true, false, ◌&&◌, false≢true}
use mathlib.Core.List.{List, [], ◌∷◌}
use Prim.Native.Nat.{ℕ, ◌<◌}
use native.Mathlib.Decide.{ℕ_discrete}
use native.Mathlib.Omega.{arith}
use borrow.Author.Tests.{eq-eqb, ne_eqb, eqb-true, ltb-true, ltb-false, lt-ltb}
use lib.Dec.{eqb, ltb}
use Rattle.std.proofs.Common.{Some}
use Rattle.std.proofs.lemmas.Cmp.{same_from_slice_cmp_tested}
use Rattle.std.proofs.lemmas.Bool.{and_parts}
use Rattle.std.proofs.lemmas.Bool.Decides.{nat_tests}
use Rattle.std.specs.Cmp.Lexicographic.{pointwise, slice_partial_cmp}
use Rattle.std.specs.Ordering.{nat_cmp, is_lt, is_some_and}
use Rattle.text.specs.Order.{same, less}

-- `==` of byte strings
pub same_is : (a b : List ℕ) → pointwise eqb a b ≡ same a b
unfolding same
same_is [] [] = refl
same_is [] (y ∷ b) = refl
same_is (x ∷ a) [] = refl
same_is (x ∷ a) (y ∷ b) = ap (λ (t : Bool). eqb x y && t) (same_is a b)

-- `<` of byte strings
pub less_is : (a b : List ℕ) (r : Bool) → r ≡ is_some_and is_lt (slice_partial_cmp (λ x y. Some (nat_cmp x y)) a b) → r ≡ less a b
unfolding less
less_is = same_from_slice_cmp_tested nat_cmp is_lt less refl (λ _ _. refl) (λ _ _. refl) (λ x y a b o h. grind (arith, nat_tests))

pub same_refl : (a : List ℕ) → same a a ≡ true
unfolding same
same_refl [] = refl
same_refl (x ∷ a) = simp (eq-eqb x x refl) (same_refl a)

pub same_eq : (a b : List ℕ) → same a b ≡ true → a ≡ b
unfolding same
same_eq [] [] e = refl
same_eq [] (y ∷ b) e = absurd (false≢true e)
same_eq (x ∷ a) [] e = absurd (false≢true e)
same_eq (x ∷ a) (y ∷ b) e =
    let w = and_parts (eqb x y) (same a b) e in
    let h = same_eq a b w.1 in
    let k = eqb-true x y w.0 in
    cc

-- the order is strict and total
pub less_irrefl : (a : List ℕ) → less a a ≡ false
unfolding less
less_irrefl [] = refl
less_irrefl (x ∷ a) = simp (eq-eqb x x refl) (less_irrefl a)

-- strings whose first bytes are the same, and not
less_same : (a b : List ℕ) {x y : ℕ} → x ≡ y → less (x ∷ a) (y ∷ b) ≡ less a b
unfolding less
less_same a b {x} {y} e = simp (eq-eqb x y e)

less_other : (a b : List ℕ) {x y : ℕ} → (x ≡ y → ⊥) → less (x ∷ a) (y ∷ b) ≡ ltb x y
unfolding less
less_other a b {x} {y} n = simp (ne_eqb x y n)

pub less_total : (a b : List ℕ) → less a b ≡ false → less b a ≡ false → a ≡ b
unfolding less
less_total [] [] h k = refl
less_total [] (y ∷ b) h k = absurd (false≢true (sym h))
less_total (x ∷ a) [] h k = absurd (false≢true (sym k))
less_total (x ∷ a) (y ∷ b) h k =
    elim (ℕ_discrete x y) [
      | yes e ↦ let t = less_total a b (sym (less_same a b e) ∙ h) (sym (less_same b a (sym e)) ∙ k) in cc
      | no n ↦
          absurd (n (omega (arith, ltb-false x y (sym (less_other a b n) ∙ h), ltb-false y x (sym (less_other b a (λ e. n (sym e))) ∙ k))))
    ]

pub less_trans : (a b c : List ℕ) → less a b ≡ true → less b c ≡ true → less a c ≡ true
unfolding less
less_trans [] [] [] h k = h
less_trans [] [] (z ∷ c) h k = refl
less_trans [] (y ∷ b) [] h k = k
less_trans [] (y ∷ b) (z ∷ c) h k = refl
less_trans (x ∷ a) [] [] h k = h
less_trans (x ∷ a) [] (z ∷ c) h k = absurd (false≢true h)
less_trans (x ∷ a) (y ∷ b) [] h k = k
less_trans (x ∷ a) (y ∷ b) (z ∷ c) h k =
    elim (ℕ_discrete x y) [
      | yes e ↦
          elim (ℕ_discrete y z) [
            | yes f ↦ less_same a c (e ∙ f) ∙ less_trans a b c (sym (less_same a b e) ∙ h) (sym (less_same b c f) ∙ k)
            | no m ↦ before (omega (arith, ltb-true y z (sym (less_other b c m) ∙ k)))
          ]
      | no n ↦
          elim (ℕ_discrete y z) [
            | yes f ↦ before (omega (arith, ltb-true x y (sym (less_other a b n) ∙ h)))
            | no m ↦ before (omega (arith, ltb-true x y (sym (less_other a b n) ∙ h), ltb-true y z (sym (less_other b c m) ∙ k)))
          ]
    ]
  where
    before : x < z → less (x ∷ a) (z ∷ c) ≡ true
    before l = less_other a c (λ (e : x ≡ z). omega arith) ∙ lt-ltb x z l
