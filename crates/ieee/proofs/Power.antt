-- The laws of `power`, 2 ^ k, and of multiples of it. Assumes nothing.
use mathlib.Core.Path.{◌≡◌, refl, sym, ap, ◌∙◌}
use Prim.Native.Nat.{ℕ, suc, ◌+◌, ◌-◌, ◌*◌, ◌^◌, ◌≤◌, ◌<◌}
use native.Mathlib.Nat.{mul_assoc, not-le_of_lt, lt_of_not-le, le_of_suc-le-suc, mul-sub, pow-succ'}
use native.Mathlib.Omega.{arith}
use lib.Pow as Pow
use Rattle.ieee.specs.Units.{power, OnGrid}

-- at a small k the left side is a numeral
pub power-is : (k : ℕ) → 2 ^ k ≡ power k
unfolding power
power-is k = refl

pub power_pos : (k : ℕ) → 0 < power k
unfolding power
power_pos k = Pow.pow_pos k

pub power_mono : {i j : ℕ} → i ≤ j → power i ≤ power j
unfolding power
power_mono h = Pow.pow_mono h

pub power_lt : {i j : ℕ} → i < j → power i < power j
unfolding power
power_lt h = Pow.pow-lt h

pub power_add : (i j : ℕ) → power (i + j) ≡ power i * power j
unfolding power
power_add i j = Pow.pow-add 2 i j

pub power_suc : (k : ℕ) → power (suc k) ≡ 2 * power k
unfolding power
power_suc k = pow-succ' 2 k

-- at a small k, `2 ^ k` is a numeral, and `omega` can use this: `power_times 40 1074` says power 1114 ≡ 1099511627776 * power 1074
pub power_times : (k j : ℕ) → power (k + j) ≡ 2 ^ k * power j
unfolding power
power_times k j = Pow.pow-add 2 k j

pub power_zero : power 0 ≡ 1
unfolding power
power_zero = refl

-- the exponents are in the powers' order
pub power_le_back : {i j : ℕ} → power i ≤ power j → i ≤ j
power_le_back {i} {j} h = le_of_suc-le-suc (lt_of_not-le (λ (g : suc j ≤ i). not-le_of_lt (power_lt g) h))

pub power_lt_back : {i j : ℕ} → power i < power j → i < j
power_lt_back {i} {j} h = lt_of_not-le (λ (g : j ≤ i). not-le_of_lt h (power_mono g))

-- 2 ^ k as 2 ^ (k - j) * 2 ^ j
pub power_split : {j k : ℕ} → j ≤ k → power k ≡ power (k - j) * power j
power_split {j} {k} h = let e : k ≡ k - j + j = omega arith in ap power e ∙ power_add (k - j) j

-- ---- multiples of 2 ^ g
pub grid_add : {g m n : ℕ} → OnGrid g m → OnGrid g n → OnGrid g (m + n)
grid_add {g} a b = record { count = a.count + b.count; is = omega (arith, a.is, b.is) }

pub grid_sub : {g m n : ℕ} → OnGrid g m → OnGrid g n → OnGrid g (m - n)
grid_sub {g} {m} {n} a b = record { count = a.count - b.count; is = rest a.count b.count a.is b.is }
  where
    rest : (p q : ℕ) → m ≡ p * power g → n ≡ q * power g → m - n ≡ (p - q) * power g
    rest p q e f = let h : power g * (p - q) ≡ power g * p - power g * q = mul-sub (power g) p q in omega arith

-- a multiple of a larger power is one of a smaller
pub grid_finer : {g j n : ℕ} → j ≤ g → OnGrid g n → OnGrid j n
grid_finer {g} {j} h a = record {
  count = a.count * power (g - j);
  is = a.is ∙ ap (λ (x : ℕ). a.count * x) (power_split h) ∙ sym (mul_assoc a.count (power (g - j)) (power j));
}
