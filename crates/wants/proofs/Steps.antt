-- A turn of each loop, and that a walk that has stopped stays so. Assumes nothing.
use Rattle.std.proofs.Common.{◌≡◌, ℕ, zero, suc, ◌+◌, ◌-◌, ◌≤◌, true, false, List, get_or, sym, refl, ap, subst, add-zero, add-suc, add-sub_of_le, add-one, eq-eqb, ne_eqb}
use lib.Ieee as Ieee
use lib.Ieee.{Float, binary64}
use Rattle.ieee.specs.Doubles.{whole}
use Rattle.wants.specs.Wants.{Walk, fits, stopped, next, walked, found}

-- a bucket: empty, within what is left, or not
pub empty : (n : ℕ) (sum left remaining : Float) → n ≡ 0 → next n sum (fits left remaining) ≡ fits left remaining
unfolding next
empty n sum left remaining z = rw (eq-eqb n 0 z)

module _ (n : ℕ) (sum left remaining count : Float) (some : n ≡ 0 → ⊥) (is : count ≡ whole n) where
  pub fitting : Ieee.le (Ieee.mul binary64 (Ieee.div binary64 sum count) remaining) left ≡ true
      → next n sum (fits left remaining) ≡ fits (Ieee.sub binary64 left sum) (Ieee.sub binary64 remaining count)
  unfolding next
  fitting h = rw (ne_eqb n 0 some, ← is, h)

  pub stopping : Ieee.le (Ieee.mul binary64 (Ieee.div binary64 sum count) remaining) left ≡ false → next n sum (fits left remaining) ≡ stopped (Ieee.div binary64 left remaining)
  unfolding next
  stopping h = rw (ne_eqb n 0 some, ← is, h)

-- a turn of the walk, from what it came to
pub walked_next : (cs : List ℕ) (ss : List Float) (rate units : Float) (b : ℕ) {w : Walk} → walked cs ss rate units b ≡ w → walked cs ss rate units (b + 1) ≡ next (get_or cs b 0) (get_or ss b Ieee.nan) w
unfolding walked
walked_next cs ss rate units b e = rw (add-one, e)

still : (cs : List ℕ) (ss : List Float) (rate units l : Float) (b k : ℕ) → walked cs ss rate units b ≡ stopped l → walked cs ss rate units (b + k) ≡ stopped l
unfolding walked next
still cs ss rate units l b zero e = rw (add-zero, e)
still cs ss rate units l b (suc k) e = rw (add-suc, still cs ss rate units l b k e)

pub stays : (cs : List ℕ) (ss : List Float) (rate units l : Float) {b n : ℕ} → b ≤ n → walked cs ss rate units b ≡ stopped l → walked cs ss rate units n ≡ stopped l
stays cs ss rate units l {b} {n} h e = subst (λ (i : ℕ). walked cs ss rate units i ≡ stopped l) (add-sub_of_le h) (still cs ss rate units l b (n - b) e)

pub found_level : (cs : List ℕ) (ss : List Float) (rate units l : Float) {b : ℕ} → b ≤ 768 → walked cs ss rate units b ≡ stopped l → l ≡ found (walked cs ss rate units 768)
unfolding found
found_level cs ss rate units l h e = sym (ap found (stays cs ss rate units l h e))
