-- What is known of a result that is rounded once, and so of each operation on amounts: how far it is off, its order, where it is exact, and what it cannot cross.
-- Assumes nothing.
use mathlib.Core.Path.{◌≡◌, refl, sym, ap, ◌∙◌, subst}
use Prim.Native.Nat.{ℕ, suc, ◌+◌, ◌-◌, ◌*◌, ◌≤◌, ◌<◌}
use native.Mathlib.Nat.{le_trans, le_of_eq, le_of_lt, lt_of_lt_of_le, mul-le-mul_right, le_of_mul-le-mul_right, lt_of_mul-lt-mul_right, eq-or-lt_of_le, mul-le-mul, le_of_suc-le-suc, lt_of_not-le}
use native.Mathlib.Omega.{arith}
use mathlib.Core.Logic.{◌⊎◌, inl, inr}
use lib.IntN.{pos}
use lib.Dec.{lit≤}
use lib.Ieee.{Float, binary64, add, sub, mul, div, of_int}
use Rattle.ieee.specs.Units.{power, units, rounded, Amount, Is, Rounds, Near, Within, Digits, OnGrid}
use Rattle.ieee.proofs.Power.{power_mono, power_suc, power_add, grid_sub}
use Rattle.ieee.proofs.Rounding.{rounded_relative, rounded_mono}
use Rattle.ieee.proofs.Value.{amount_digits, on_grid}
use Rattle.ieee.proofs.Operations.{add_rounds, sub_rounds, mul_rounds, div_rounds, int_rounds}
pub use Rattle.ieee.proofs.Near.{power_digits, grid_digits, scale_digits, rounds_is, rounds_inf, rounds_near}
use Rattle.ieee.proofs.Near.{rounded_digits}

module _ {r : Float} {w c : ℕ} (R : Rounds r w c) where
  -- from 2 ^ 52 units on, where the results have all their digits, it is off by at most one part in 2 ^ 53
  pub rounds_relative : power 52 * c ≤ w → w ≤ power 2097 * c → (units r * c * power 53 ≤ w * power 53 + w) × (w * power 53 ≤ units r * c * power 53 + w)
  rounds_relative b small =
      subst (λ (u : ℕ). (u * c * power 53 ≤ w * power 53 + w) × (w * power 53 ≤ u * c * power 53 + w)) (sym (rounds_is R small).worth) (rounded_relative w c R.positive b)

  -- an exact result of at most 53 digits is the result
  pub rounds_exact : (n : ℕ) → Digits n → n ≤ power 2097 → w ≡ n * c → Is r n
  rounds_exact n d small e =
      let i = rounds_is R (le_trans (le_of_eq e) (mul-le-mul_right c small)) in
      record { amount = i.amount; worth = i.worth ∙ ap (λ (x : ℕ). rounded x c) e ∙ rounded_digits n c R.positive d }

  -- of two exact results the larger has the result that is no smaller
  pub rounds_mono : {s : Float} {v d : ℕ} → Rounds s v d → w * d ≤ v * c → v ≤ power 2097 * d → units r ≤ units s
  rounds_mono {s} {v} {d} S h small =
      let under : w ≤ power 2097 * c = le_of_mul-le-mul_right {k = d} (let m = mul-le-mul_right c small in omega arith) S.positive in
      let m : rounded w c ≤ rounded v d = rounded_mono w c R.positive v d S.positive h in
      omega (arith, (rounds_is R under).worth, (rounds_is S small).worth)

  -- it does not cross a number of at most 53 digits, so no amount
  pub rounds_most : (n : ℕ) → Digits n → n ≤ power 2097 → w ≤ n * c → units r ≤ n
  rounds_most n d small h =
      let m = rounded_mono w c R.positive (n * c) c R.positive (mul-le-mul_right c h) in
      omega (arith, (rounds_is R (le_trans h (mul-le-mul_right c small))).worth, rounded_digits n c R.positive d)

  pub rounds_least : (n : ℕ) → Digits n → w ≤ power 2097 * c → n * c ≤ w → n ≤ units r
  rounds_least n d small h =
      let m = rounded_mono (n * c) c R.positive w c R.positive (mul-le-mul_right c h) in
      omega (arith, (rounds_is R small).worth, rounded_digits n c R.positive d)

  -- less than half of the last digit above 2 ^ (53 + g): it goes back there
  pub rounds_stays : (g : ℕ) → g ≤ 2043 → w < (power (53 + g) + power g) * c → units r ≤ power (53 + g)
  rounds_stays g small h = le_of_suc-le-suc (lt_of_not-le (λ (o : power (53 + g) < units r). over o))
    where
      double : power (54 + g) ≡ 2 * power (53 + g)
      double = ap power (omega arith) ∙ power_suc (53 + g)

      last : power (53 + g) ≡ power 52 * power (suc g)
      last = ap power (omega arith) ∙ power_add 52 (suc g)

      near : Near r w c (power g)
      near = rounds_near R g small (let m : power g * c ≤ power (53 + g) * c = mul-le-mul_right c (power_mono (omega arith)) in omega (arith, ap (λ (x : ℕ). x * c) double))

      under : units r < power (53 + g) + power (suc g)
      under = lt_of_mul-lt-mul_right c (omega (arith, near.most, ap (λ (x : ℕ). x * c) (power_suc g)))

      over : power (53 + g) < units r → ⊥
      over o =
          let grid = on_grid r (suc g) near.amount (le_trans (le_of_eq (ap power (omega arith))) (le_of_lt o)) in
          let more : power 52 < grid.count = lt_of_mul-lt-mul_right (power (suc g)) (omega (arith, last, grid.is)) in
          omega (arith, mul-le-mul_right (power (suc g)) more, under, last, grid.is)

-- ---- a result over 1 unit
within : {r : Float} {w e : ℕ} → Near r w 1 e → Within r w e
within n = record { amount = n.amount; most = omega (arith, n.most); least = omega (arith, n.least) }

-- ---- addition
module _ (x y : Float) (a : Amount x) (b : Amount y) where
  pub add_within : (g : ℕ) → g ≤ 2043 → units x + units y ≤ power (54 + g) → Within (add binary64 x y) (units x + units y) (power g)
  add_within g small h = within (rounds_near (add_rounds x y a b) g small (omega arith))

  -- the sum is a multiple of 2 ^ g, as where both are (`grid_add`)
  pub add_exact : (g : ℕ) → g ≤ 2044 → OnGrid g (units x + units y) → units x + units y < power (53 + g) → Is (add binary64 x y) (units x + units y)
  add_exact g small p h =
      rounds_exact (add_rounds x y a b) (units x + units y) (grid_digits g (units x + units y) p h) (le_trans (le_of_lt h) (power_mono (omega arith))) (omega arith)

  -- y is below half of the last digit of 2 ^ (53 + g)
  pub add_stays : (g : ℕ) → g ≤ 2043 → units x ≤ power (53 + g) → units y < power g → units (add binary64 x y) ≤ power (53 + g)
  add_stays g small h k = rounds_stays (add_rounds x y a b) g small (omega arith)

  -- a sum is no less than either part
  pub add_least : units x + units y ≤ power 2097 → (units x ≤ units (add binary64 x y)) × (units y ≤ units (add binary64 x y))
  add_least h =
      (rounds_least (add_rounds x y a b) (units x) (amount_digits x a) (omega arith) (omega arith), rounds_least (add_rounds x y a b) (units y) (amount_digits y b) (omega arith) (omega arith))

pub add_mono : (x y x' y' : Float) → Amount x → Amount y → Amount x' → Amount y' → units x ≤ units x' → units y ≤ units y' → units x' + units y' ≤ power 2097
    → units (add binary64 x y) ≤ units (add binary64 x' y')
add_mono x y x' y' a b a' b' h k small = rounds_mono (add_rounds x y a b) (add_rounds x' y' a' b') (omega arith) (omega arith)

-- ---- subtraction, where y is not above x
module _ (x y : Float) (a : Amount x) (b : Amount y) (o : units y ≤ units x) where
  pub sub_within : (g : ℕ) → g ≤ 2043 → units x - units y ≤ power (54 + g) → Within (sub binary64 x y) (units x - units y) (power g)
  sub_within g small h = within (rounds_near (sub_rounds x y a b o) g small (omega arith))

  pub sub_exact : (g : ℕ) → g ≤ 2044 → OnGrid g (units x) → OnGrid g (units y) → units x - units y < power (53 + g) → Is (sub binary64 x y) (units x - units y)
  sub_exact g small p q h =
      rounds_exact (sub_rounds x y a b o) (units x - units y) (grid_digits g (units x - units y) (grid_sub p q) h) (le_trans (le_of_lt h) (power_mono (omega arith))) (omega arith)

  pub sub_most : units x ≤ power 2097 → units (sub binary64 x y) ≤ units x
  sub_most h = rounds_most (sub_rounds x y a b o) (units x) (amount_digits x a) h (omega arith)

pub sub_mono : (x y x' y' : Float) → Amount x → Amount y → Amount x' → Amount y' → units y ≤ units x → units x ≤ units x' → units y' ≤ units y → units x' ≤ power 2097
    → units (sub binary64 x y) ≤ units (sub binary64 x' y')
sub_mono x y x' y' a b a' b' o h k small = rounds_mono (sub_rounds x y a b o) (sub_rounds x' y' a' b' (omega arith)) (omega arith) (omega arith)

-- ---- multiplication: the exact product is units x * units y / 2 ^ 1074 units
module _ (x y : Float) (a : Amount x) (b : Amount y) where
  pub mul_near : (g : ℕ) → g ≤ 2043 → units x * units y ≤ power (54 + g) * power 1074 → Near (mul binary64 x y) (units x * units y) (power 1074) (power g)
  mul_near g small h = rounds_near (mul_rounds x y a b) g small h

  -- n units are the exact product, and have at most 53 digits
  pub mul_exact : (n : ℕ) → Digits n → n ≤ power 2097 → units x * units y ≡ n * power 1074 → Is (mul binary64 x y) n
  mul_exact n d small e = rounds_exact (mul_rounds x y a b) n d small e

  -- y is a power of two, and n units are the exact product: so x * 4.0 is exact, and x * 0.5 for an even number of units
  pub mul_power : (i n : ℕ) → units y ≡ power i → n ≤ power 2097 → units x * power i ≡ n * power 1074 → Is (mul binary64 x y) n
  mul_power i n p small e = mul_exact n (scale_digits (units x) n i 1074 (amount_digits x a) e) small (ap (λ (u : ℕ). units x * u) p ∙ e)

  pub mul_up : (k : ℕ) → units y ≡ power (1074 + k) → units x * power k ≤ power 2097 → Is (mul binary64 x y) (units x * power k)
  mul_up k p small = mul_power (1074 + k) (units x * power k) p small (ap (λ (z : ℕ). units x * z) (power_add 1074 k) ∙ omega arith)

pub mul_mono : (x y x' y' : Float) → Amount x → Amount y → Amount x' → Amount y' → units x ≤ units x' → units y ≤ units y' → units x' * units y' ≤ power 2097 * power 1074
    → units (mul binary64 x y) ≤ units (mul binary64 x' y')
mul_mono x y x' y' a b a' b' h k small = rounds_mono (mul_rounds x y a b) (mul_rounds x' y' a' b') (mul-le-mul_right (power 1074) (mul-le-mul h k)) small

-- ---- division: the exact quotient is units x * 2 ^ 1074 / units y units
module _ (x y : Float) (a : Amount x) (b : Amount y) (o : 0 < units y) where
  pub div_near : (g : ℕ) → g ≤ 2043 → units x * power 1074 ≤ power (54 + g) * units y → Near (div binary64 x y) (units x * power 1074) (units y) (power g)
  div_near g small h = rounds_near (div_rounds x y a b o) g small h

  pub div_exact : (n : ℕ) → Digits n → n ≤ power 2097 → units x * power 1074 ≡ n * units y → Is (div binary64 x y) n
  div_exact n d small e = rounds_exact (div_rounds x y a b o) n d small e

pub div_mono : (x y x' y' : Float) → Amount x → Amount y → Amount x' → Amount y' → 0 < units y' → units x ≤ units x' → units y' ≤ units y → units x' * power 1074 ≤ power 2097 * units y'
    → units (div binary64 x y) ≤ units (div binary64 x' y')
div_mono x y x' y' a b a' b' o h k small =
    rounds_mono (div_rounds x y a b (lt_of_lt_of_le o k)) (div_rounds x' y' a' b' o)
    (let m : units x * units y' ≤ units x' * units y = mul-le-mul h k in let n = mul-le-mul_right (power 1074) m in omega arith) small

-- ---- a whole number: exact up to 2 ^ 53
pub int_is : (n : ℕ) → n ≤ power 53 → Is (of_int binary64 (pos n)) (n * power 1074)
int_is n h = rounds_exact (int_rounds n) (n * power 1074) (digits (eq-or-lt_of_le h)) (le_trans (mul-le-mul_right (power 1074) h) (le_trans (le_of_eq (sym (power_add 53 1074))) (power_mono (lit≤ tt)))) (omega arith)
  where
    digits : (n ≡ power 53) ⊎ (n < power 53) → Digits (n * power 1074)
    digits (inl e) = subst Digits (power_add 53 1074 ∙ ap (λ (x : ℕ). x * power 1074) (sym e)) (power_digits 1127)
    digits (inr l) = record { digits = n; place = 1074; few = l; is = refl }
