-- The rank's exact value, and that the Rust's table, taken from the rank in doubles, is the table.
use mathlib.Core.Path.{◌≡◌, refl, sym, ap, ◌∙◌, subst}
use Prim.Native.Nat.{ℕ, ◌+◌, ◌*◌, ◌-◌, ◌/◌, ◌^◌, ◌<◌, min}
use native.Mathlib.Nat.{le_of_lt, le_trans, le_of_eq, min-eq_left, mul-le-mul_right, mul_assoc, mul_comm, one-mul, mul-div-mul_right}
use native.Mathlib.Omega.{arith}
use mathlib.Core.Bool.{true, false}
use lib.Dec.{lit≤}
use lib.Ieee as Ieee
use lib.Ieee.{Float, nan, inf, fin, binary64, of_bits, fits, to_unsigned, up, down}
use lib.Ieee.Fits.{down_pos}
use lib.Ieee.Nearest.{div_same}
use lib.IntN.{pos}
use lib.Pow.{shr_lt}
use Rattle.ieee.specs.Doubles.{whole}
use Rattle.ieee.specs.Units.{power, units, Is, Amount}
use Rattle.ieee.proofs.Power.{power-is, power_pos, power_mono, power_add}
use Rattle.ieee.proofs.Value.{whole_is, amount_value}
use Rattle.ieee.proofs.Laws.{int_is, div_exact, mul_up}
use Rattle.sender.specs.Sender.{rank_of_hash, table_of_hash, rust_table, rank, table_of, hash_of}
use Rattle.sender.specs.declared.Unit as unit
use Rattle.sender.proofs.Feeding.{hash_below}
use Rattle.sender.proofs.Ranking.{table_is}

-- a cast to a whole number of w bits takes the whole part
cast_is : (w : ℕ) (x : Float) → Amount x → to_unsigned w x ≡ min (units x / power 1074) (2 ^ w - 1)
unfolding to_unsigned
cast_is w nan a = absurd a.sign
cast_is w (inf s) a = absurd a.sign
cast_is w (fin true m e) a = absurd a.sign
cast_is w (fin false m e) a =
    ap (λ (n : ℕ). min n (2 ^ w - 1)) (div_same (m * up e) (down e) (units (fin false m e)) (power 1074) (down_pos e) (power_pos 1074) (amount_value (fin false m e) a).1)

two_53_is : Is (of_bits binary64 0x4340_0000_0000_0000) (power 1127)
unfolding of_bits fits
two_53_is = subst (Is (fin false 1 (pos 53))) (one-mul (power 1127)) (whole_is 1 53 tt)

sixty_four_is : Is (of_bits binary64 0x4050_0000_0000_0000) (power (1074 + 6))
unfolding of_bits fits
sixty_four_is = subst (Is (fin false 1 (pos 6))) (one-mul (power 1080)) (whole_is 1 6 tt)

-- the quotient is exact: n / 2^53, in units of 2^-1074
part_is : (n : ℕ) → n < power 53 → Is (Ieee.div binary64 (whole n) (of_bits binary64 0x4340_0000_0000_0000)) (n * power 1021)
part_is n h =
    div_exact (whole n) (of_bits binary64 0x4340_0000_0000_0000) i.amount two_53_is.amount (subst (λ (u : ℕ). 0 < u) (sym two_53_is.worth) (power_pos 1127))
    (n * power 1021) (record { digits = n; place = 1021; few = h; is = refl })
    (le_trans (mul-le-mul_right (power 1021) (le_of_lt h)) (le_trans (le_of_eq (sym (power_add 53 1021))) (power_mono (lit≤ tt))))
    (ap (λ (u : ℕ). u * power 1074) i.worth ∙ mul_assoc n (power 1074) (power 1074) ∙ ap (λ (u : ℕ). n * u) (sym (power_add 1074 1074) ∙ power_add 1021 1127) ∙ sym (mul_assoc n (power 1021) (power 1127)) ∙ ap (λ (u : ℕ). n * power 1021 * u) (sym two_53_is.worth))
  where
    i : Is (whole n) (n * power 1074)
    i = int_is n (le_of_lt h)

-- 64 times that, in whole ones
whole_part : (n : ℕ) → n * power 1021 * power 6 / power 1074 ≡ 64 * n / 2 ^ 53
whole_part n =
    ap (λ (u : ℕ). u / power 1074) (mul_assoc n (power 1021) (power 6) ∙ ap (λ (u : ℕ). n * u) (sym (power_add 1021 6) ∙ power_add 6 1021) ∙ sym (mul_assoc n (power 6) (power 1021)))
    ∙ ap (λ (u : ℕ). n * power 6 * power 1021 / u) (power_add 53 1021)
    ∙ mul-div-mul_right (n * power 6) (power 53) (power_pos 1021)
    ∙ ap (λ (u : ℕ). n * power 6 / u) (sym (power-is 53))
    ∙ ap (λ (u : ℕ). n * u / 2 ^ 53) (sym (power-is 6))
    ∙ ap (λ (u : ℕ). u / 2 ^ 53) (mul_comm n 64)

module _ (hash : ℕ) (below : hash < 2 ^ 64) where
  high : hash / 2 ^ 11 < power 53
  high = subst (λ (u : ℕ). hash / 2 ^ 11 < u) (power-is 53) (shr_lt 53 11 below)

  pub rank_is : Is (rank_of_hash hash) (hash / 2 ^ 11 * power 1021)
  unfolding rank_of_hash
  rank_is = part_is (hash / 2 ^ 11) high

  product_is : Is (Ieee.mul binary64 (rank_of_hash hash) (of_bits binary64 0x4050_0000_0000_0000)) (hash / 2 ^ 11 * power 1021 * power 6)
  product_is =
      subst (λ (u : ℕ). Is (Ieee.mul binary64 (rank_of_hash hash) (of_bits binary64 0x4050_0000_0000_0000)) (u * power 6)) rank_is.worth
      (mul_up (rank_of_hash hash) (of_bits binary64 0x4050_0000_0000_0000) rank_is.amount sixty_four_is.amount 6 sixty_four_is.worth
      (le_trans (le_of_eq (ap (λ (u : ℕ). u * power 6) rank_is.worth))
      (le_trans (mul-le-mul_right (power 6) (mul-le-mul_right (power 1021) (le_of_lt high)))
      (le_trans (le_of_eq (ap (λ (u : ℕ). u * power 6) (sym (power_add 53 1021)) ∙ sym (power_add 1074 6))) (power_mono (lit≤ tt))))))

  pub rust_table_is_hash : rust_table (rank_of_hash hash) ≡ table_of_hash hash
  unfolding rust_table
  rust_table_is_hash =
      ap (λ (n : ℕ). min n 63) (cast_is 64 (Ieee.mul binary64 (rank_of_hash hash) (of_bits binary64 0x4050_0000_0000_0000)) product_is.amount
      ∙ ap (λ (n : ℕ). min n (2 ^ 64 - 1)) (ap (λ (n : ℕ). n / power 1074) product_is.worth ∙ whole_part (hash / 2 ^ 11) ∙ defined)
      ∙ min-eq_left (omega (arith, small)))
      ∙ min-eq_left (omega (arith, small))
    where
      defined : 64 * (hash / 2 ^ 11) / 2 ^ 53 ≡ table_of_hash hash
      defined = unfold table_of_hash in refl

      small : table_of_hash hash < 64
      small = rw table_is (shr_lt 6 58 below)

pub rust_table_is : (u : unit.Unit) → rust_table (rank u) ≡ table_of u
rust_table_is u = rust_table_is_hash (hash_of u) (hash_below u)
