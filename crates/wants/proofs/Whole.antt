-- Counts are whole numbers, and as doubles their sum is exact up to 2 ^ 53. Assumes nothing.
use Rattle.std.proofs.Common.{◌≡◌, ℕ, ◌+◌, ◌*◌, ◌^◌, ◌<◌, ◌≤◌, sym, ap, ◌∙◌, subst, ap₂, mul-lt-mul_of_pos_right, arith, lit≤}
use native.Mathlib.Decide.{dec_lt}
use lib.Ieee.{binary64, add}
use Rattle.ieee.specs.Doubles.{nothing, whole}
use Rattle.ieee.specs.Units.{units, power, Is}
use Rattle.ieee.proofs.Power.{power-is, power_pos, power_add, power_lt}
use Rattle.ieee.proofs.Value.{same_units, zero_is}
use Rattle.ieee.proofs.Laws.{add_exact, int_is}

pub within : (k : ℕ) → k ≤ 2 ^ 53 → k ≤ power 53
within k h = subst (λ (p : ℕ). k ≤ p) (power-is 53) h

pub sum_of : (m n : ℕ) → m + n ≤ 2 ^ 53 → add binary64 (whole m) (whole n) ≡ whole (m + n)
sum_of m n h = same_units (add binary64 (whole m) (whole n)) (whole (m + n)) sum.amount joint.amount (sum.worth ∙ total ∙ sym joint.worth)
  where
    most : m + n ≤ power 53
    most = within (m + n) h

    left : Is (whole m) (m * power 1074)
    left = int_is m (omega (arith, most))

    right : Is (whole n) (n * power 1074)
    right = int_is n (omega (arith, most))

    joint : Is (whole (m + n)) ((m + n) * power 1074)
    joint = int_is (m + n) most

    total : units (whole m) + units (whole n) ≡ (m + n) * power 1074
    total = ap₂ (λ (a b : ℕ). a + b) left.worth right.worth ∙ omega arith

    below : m + n < power 53 → units (whole m) + units (whole n) < power (53 + 1074)
    below small = rw (total, power_add 53 1074) (mul-lt-mul_of_pos_right small (power_pos 1074))

    -- 2 ^ 53 itself is 2 ^ 52 times 2
    top : m + n ≡ power 53 → units (whole m) + units (whole n) ≡ power 52 * power 1075
    top e = total ∙ ap (λ (k : ℕ). k * power 1074) e ∙ sym (power_add 53 1074) ∙ power_add 52 1075

    sum : Is (add binary64 (whole m) (whole n)) (units (whole m) + units (whole n))
    sum = elim (dec_lt (m + n) (power 53)) [
      | yes small ↦ add_exact (whole m) (whole n) left.amount right.amount 1074 (lit≤ tt) (record { count = m + n; is = total }) (below small)
      | no large ↦
          let e : m + n ≡ power 53 = omega (arith, most) in
          add_exact (whole m) (whole n) left.amount right.amount 1075 (lit≤ tt) (record { count = power 52; is = top e })
          (rw (top e, ← power_add 52 1075) (power_lt {i = 1127} {j = 1128} (omega arith)))
    ]

pub number_zero : whole 0 ≡ nothing
number_zero = same_units (whole 0) nothing (int_is 0 (omega arith)).amount zero_is.amount ((int_is 0 (omega arith)).worth ∙ omega arith ∙ sym zero_is.worth)
