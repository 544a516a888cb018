-- A result that is rounded once: which one it is, and how far it is off.
-- A bound 2 ^ (54 + g) on the exact result gives an error of at most 2 ^ g units: at 2 ^ k, the bound is 54 + g = 1074 + k. Assumes nothing.
use mathlib.Core.Path.{◌≡◌, sym, ap, ◌∙◌, subst}
use Prim.Native.Nat.{ℕ, suc, ◌+◌, ◌-◌, ◌*◌, ◌^◌, ◌≤◌, ◌<◌}
use native.Mathlib.Nat.{le_trans, le_of_eq, le_of_lt, lt_of_le_of_lt, mul-one, mul_assoc, mul-le-mul_right, lt_of_mul-lt-mul_right, lt_of_not-le, eq_of_mul-eq-mul_right, le-mul_of_pos_right}
use native.Mathlib.Omega.{arith}
use native.Mathlib.Decide.{dec_le}
use mathlib.Core.Bool.{false}
use lib.Dec.{ltb, lit<}
use lib.Arith.{le→nltb}
use lib.Ieee as Ieee
use lib.Ieee.{Float, inf, Format, prec, low, binary64, round}
use lib.Ieee.Fits.{round-fits, round_is}
use lib.Ieee.Bits.{cond_no}
use lib.Ieee.Order.{drop, kept}
use lib.Ieee.Exact.{HasValue}
use lib.Ieee.Scale.{round_val, grid, overflow}
use Rattle.ieee.specs.Units.{power, rounded, Is, Rounds, Near, Digits, OnGrid}
use Rattle.ieee.proofs.Power.{power_pos, power_mono, power_lt, power_add, power_split, power_zero}
use Rattle.ieee.proofs.Rounding.{rounded_near, rounded_exact, rounded_most, rounded_least}
use Rattle.ieee.proofs.Value.{value_amount}

-- ---- numbers of at most 53 digits and zeros behind them
pub power_digits : (k : ℕ) → Digits (power k)
power_digits k = record { digits = 1; place = k; few = subst (λ (x : ℕ). x < power 53) power_zero (power_lt (lit< tt)); is = omega arith }

pub grid_digits : (g n : ℕ) → OnGrid g n → n < power (53 + g) → Digits n
grid_digits g n o h = go o.count o.is
  where
    go : (q : ℕ) → n ≡ q * power g → Digits n
    go q p = record { digits = q; place = g; few = lt_of_mul-lt-mul_right (power g) (subst (λ (x : ℕ). x < power 53 * power g) p (subst (λ (x : ℕ). n < x) (power_add 53 g) h)); is = p }

-- 2 ^ i / 2 ^ j times a number of at most 53 digits, where that is a whole number
pub scale_digits : (m n i j : ℕ) → Digits m → m * power i ≡ n * power j → Digits n
scale_digits m n i j d e = go d.digits d.place d.few d.is (dec_le j (d.place + i))
  where
    both : (q t : ℕ) → m ≡ q * power t → n * power j ≡ q * power (t + i)
    both q t is = sym e ∙ ap (λ (x : ℕ). x * power i) is ∙ mul_assoc q (power t) (power i) ∙ ap (λ (x : ℕ). q * x) (sym (power_add t i))

    go : (q t : ℕ) → q < power 53 → m ≡ q * power t → Dec (j ≤ t + i) → Digits n
    go q t few is (yes h) = record {
      digits = q;
      place = t + i - j;
      few = few;
      is = eq_of_mul-eq-mul_right (power j) (power_pos j) n (q * power (t + i - j))
          (both q t is ∙ ap (λ (x : ℕ). q * x) (power_split h) ∙ sym (mul_assoc q (power (t + i - j)) (power j)));
    }
    go q t few is (no k) =
        let l = j - (t + i) in
        let p : n * power l ≡ q = eq_of_mul-eq-mul_right (power (t + i)) (power_pos (t + i)) (n * power l) q
        (mul_assoc n (power l) (power (t + i)) ∙ ap (λ (x : ℕ). n * x) (sym (power_split (le_of_lt (lt_of_not-le k)))) ∙ both q t is) in
        record { digits = n; place = 0; few = lt_of_le_of_lt (le_trans (le-mul_of_pos_right n (power_pos l)) (le_of_eq p)) few; is = sym (ap (λ (x : ℕ). n * x) power_zero ∙ mul-one n) }

pub rounded_digits : (n c : ℕ) → 0 < c → Digits n → rounded (n * c) c ≡ n
rounded_digits n c C d = rounded_exact (n * c) c C d.digits d.place d.few (ap (λ (x : ℕ). x * c) d.is) ∙ sym d.is

-- ---- any result that is rounded once: what is known of every operation
round_value : (w c : ℕ) → rounded w c < power 2098 → HasValue (round binary64 false w (c * power 1074)) false (rounded w c) (power 1074)
unfolding rounded power
round_value w c l = round_val binary64 w (c * power 1074) l

-- up to 2 ^ 1023 it is an amount
pub rounds_is : {r : Float} {w c : ℕ} → Rounds r w c → w ≤ power 2097 * c → Is r (rounded w c)
rounds_is {w = w} {c = c} R h =
    subst (λ (x : Float). Is x (rounded w c)) (sym R.is_round)
    (value_amount (round binary64 false w (c * power 1074)) (rounded w c) (round-fits binary64 false w (c * power 1074))
    (round_value w c (lt_of_le_of_lt (rounded_most w c R.positive 2097 h) (power_lt (lit< tt)))))

round_inf : (f : Format) (a c : ℕ) → overflow f ≤ grid f a c → round f false a c ≡ inf false
unfolding Ieee.units
round_inf f a c h =
    let q = kept (prec f) (a * 2 ^ low f) c in
    let k = drop (prec f) (a * 2 ^ low f) c in
    round_is f false a c ∙ cond_no (ltb (q * 2 ^ k) (overflow f)) (Ieee.odd (suc (prec f)) false q k (low f)) (inf false) (le→nltb (q * 2 ^ k) (overflow f) h)

-- from 2 ^ 1024 on it is the infinity
pub rounds_inf : {r : Float} {w c : ℕ} → Rounds r w c → power 2098 * c ≤ w → r ≡ inf false
rounds_inf {w = w} {c = c} R h = R.is_round ∙ over (rounded_least w c R.positive 2098 h)
  where
    over : power 2098 ≤ rounded w c → round binary64 false w (c * power 1074) ≡ inf false
    over l = unfold rounded power in round_inf binary64 w (c * power 1074) l

module _ {r : Float} {w c : ℕ} (R : Rounds r w c) where
  -- up to 2 ^ (54 + g) units it is off by at most 2 ^ g
  pub rounds_near : (g : ℕ) → g ≤ 2043 → w ≤ power (54 + g) * c → Near r w c (power g)
  rounds_near g small h =
      let i = rounds_is R (le_trans h (mul-le-mul_right c (power_mono (omega arith)))) in
      let n = rounded_near w c R.positive g h in
      record { amount = i.amount; most = subst (λ (u : ℕ). u * c ≤ w + power g * c) (sym i.worth) n.0; least = subst (λ (u : ℕ). w ≤ u * c + power g * c) (sym i.worth) n.1 }
