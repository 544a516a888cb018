-- A whole number taken off an amount up to 2 ^ 46: the difference is exact. Assumes nothing.
use Rattle.std.proofs.Common.{ℕ, ◌+◌, ◌-◌, ◌*◌, ◌<◌, ◌≤◌, sym, subst, le_trans, le_of_eq, le_of_lt, mul-lt-mul_of_pos_right, lt_of_not-le, le_of_mul-le-mul_right, arith, lit<, lit≤}
use native.Mathlib.Decide.{dec_le}
use lib.Ieee.{Float, binary64, sub}
use Rattle.ieee.specs.Doubles.{whole}
use Rattle.ieee.specs.Units.{power, units, Amount, Is, Digits, OnGrid}
use Rattle.ieee.proofs.Power.{power_pos, power_lt, power_add, grid_finer}
use Rattle.ieee.proofs.Value.{amount_digits}
use Rattle.ieee.proofs.Order.{recount}
use Rattle.ieee.proofs.Laws.{sub_exact, int_is}

pub sub_whole : (x : Float) (n : ℕ) → Amount x → units x ≤ power 1120 → n * power 1074 ≤ units x → Is (sub binary64 x (whole n)) (units x - n * power 1074)
sub_whole x n a small h = go (amount_digits x a)
  where
    top : power 1120 < power 1127
    top = power_lt (lit< tt)

    few : n ≤ power 53
    few = le_of_mul-le-mul_right {k = power 1074} (le_trans h (le_trans small (le_trans (le_of_lt top) (le_of_eq (power_add 53 1074))))) (power_pos 1074)

    i : Is (whole n) (n * power 1074)
    i = int_is n few

    on : OnGrid 1074 (units (whole n))
    on = record { count = n; is = i.worth }

    go : Digits (units x) → Is (sub binary64 x (whole n)) (units x - n * power 1074)
    go d = elim (dec_le d.place 1074) [
      | yes l ↦ recount (sub_exact x (whole n) a i.amount (le_trans (le_of_eq i.worth) h) d.place (omega arith) (record { count = d.digits; is = d.is }) (grid_finer l on)
          (let under : units x < power (53 + d.place) = subst (λ (z : ℕ). units x < z) (sym (power_add 53 d.place)) (subst (λ (z : ℕ). z < power 53 * power d.place) (sym d.is) (mul-lt-mul_of_pos_right d.few (power_pos d.place))) in omega arith))
          (omega (arith, i.worth))
      | no l ↦ recount (sub_exact x (whole n) a i.amount (le_trans (le_of_eq i.worth) h) 1074 (lit≤ tt) (grid_finer (le_of_lt (lt_of_not-le l)) (record { count = d.digits; is = d.is })) on (omega (arith, top)))
          (omega (arith, i.worth))
    ]
