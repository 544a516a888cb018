-- The first place at which two tests pass, found by the first test. Assumes nothing.
use Rattle.std.proofs.Common.{◌≡◌, ℕ, ◌<◌, Bool, true, false, ◌&&◌, refl, sym, ap, ◌∙◌, arith, Option, Some, None, MatchOption, IfSome}
use Rattle.store.specs.Store.{first}
use Rattle.store.specs.Found.{found}
use Rattle.store.proofs.Found.{some_found, none_found}
use Rattle.store.proofs.Steps.{first_all, first_found}

fails : (b c : Bool) → (b ≡ true → c ≡ false) → b && c ≡ false
fails true c f = f refl
fails false c f = refl

-- what `find_tagged` gives: t is the test of the tag, s that of the place; f and g tell what its answer says of them
module _ (t s : ℕ → Bool) (n : ℕ) where
  abbrev pub both : ℕ → Bool
  both k = t k && s k

  -- of the first r places that pass t none passes s
  abbrev pub Lacks : ℕ → Type 0
  Lacks r = (k : ℕ) → k < r → t k ≡ true → s k ≡ false

  lacking : (r : ℕ) → Lacks r → first both r ≡ r
  lacking r f = first_all both r (λ k a b. fails (t k) (s k) (f k b))

  pub first_of : {P : Type 0} {Q : ℕ → Type 0} (r : Option ℕ) → MatchOption r P Q → IfSome r (λ i. i < n)
      → (P → Lacks n) → ((i : ℕ) → i < n → Q i → ((t i ≡ true) × (s i ≡ true)) × Lacks i) → r ≡ found n (first both n)
  first_of None w l f g = sym (none_found n (first both n) (omega (arith, lacking n (f w))))
  first_of (Some i) w l f g =
      let h = g i l w in
      let e = first_found both n i l (lacking i h.1) (simp (h.0.0, h.0.1)) in
      sym (ap (found n) e ∙ some_found n i l)
