-- An amount and its units: `units` is exact, tells amounts apart, and has at most 53 digits and zeros behind them. Assumes nothing.
use mathlib.Core.Path.{◌≡◌, refl, sym, ap, ◌∙◌, subst}
use Prim.Native.Nat.{ℕ, zero, suc, ◌+◌, ◌-◌, ◌*◌, ◌/◌, ◌%◌, ◌^◌, ◌≤◌, ◌<◌}
use native.Mathlib.Nat.{zero-mul, mul-one, one-mul, mul_assoc, mul-div_cancel, le_trans, le_of_eq, lt_of_le_of_lt, mul-lt-mul_of_pos_right}
use native.Mathlib.Omega.{arith}
use mathlib.Core.Bool.{Bool, true, false, ◌&&◌, true≢false}
use lib.IntN.{ℤ, pos, negsuc}
use lib.Dec.{T, leb, ltb, eqb, leb→le, ltb→lt, lit<}
use lib.Ieee.{Float, nan, inf, fin, Format, binary64, prec, low, emax, up, down, fits, size, hid, to_bits, of_bits}
use lib.Ieee.Fits.{and_l, and_r, down_pos}
use lib.Ieee.Bits.{of_bits-to_bits}
use lib.Ieee.Exact.{HasValue}
use Rattle.ieee.specs.Units.{power, units, Amount, Is, Digits, OnGrid}
use Rattle.ieee.proofs.Power.{power-is, power_pos, power_add, power_split, power_le_back, power_lt_back, grid_finer}

-- ---- what `fits` says
pub fits_says : (f : Format) (s : Bool) (m : ℕ) (e : ℤ) → T (fits f (fin s (suc m) e)) → (suc m < 2 ^ prec f) × (down e ≤ 2 ^ low f)
unfolding fits
fits_says f s m e t =
    let a : Bool = eqb (suc m % 2) 1 in
    let b : Bool = ltb (suc m) (2 ^ prec f) in
    let c : Bool = leb (down e) (2 ^ low f) in
    let d : Bool = ltb (suc m * up e) (2 ^ suc (emax f) * down e) in
    (ltb→lt (suc m) (2 ^ prec f) (and_r a b (and_l (a && b) c (and_l (a && b && c) d t))), leb→le (down e) (2 ^ low f) (and_r (a && b) c (and_l (a && b && c) d t)))

-- in units: m < 2 ^ 53, and 2 ^ 1074 / down e is whole
fit_few : (s : Bool) (m : ℕ) (e : ℤ) → T (fits binary64 (fin s m e)) → m < power 53
unfolding power
fit_few s zero e t = lit< tt
fit_few s (suc m) e t = (fits_says binary64 s m e t).0

fit_down : (s : Bool) (m : ℕ) (e : ℤ) → T (fits binary64 (fin s (suc m) e)) → down e ≤ power 1074
unfolding power
fit_down s m e t = (fits_says binary64 s m e t).1

-- 2 ^ 1074 times 2 ^ e is a power of two
place_of : (e : ℤ) → down e ≤ power 1074 → (t : ℕ) × (up e * power 1074 ≡ power t * down e)
place_of (pos k) h = (k + 1074, ap (λ (x : ℕ). x * power 1074) (power-is k) ∙ sym (power_add k 1074) ∙ sym (mul-one (power (k + 1074))))
place_of (negsuc k) h = (
  1074 - suc k,
  one-mul (power 1074) ∙ power_split (power_le_back (le_trans (le_of_eq (sym (power-is (suc k)))) h)) ∙ ap (λ (x : ℕ). power (1074 - suc k) * x) (sym (power-is (suc k))),
)

shape_of : (s : Bool) (m : ℕ) (e : ℤ) → T (fits binary64 (fin s m e)) → (t : ℕ) × (m * up e * power 1074 ≡ m * power t * down e)
shape_of s zero e h = (0, omega arith)
shape_of s (suc m) e h =
    let p = place_of e (fit_down s m e h) in
    (p.0, mul_assoc (suc m) (up e) (power 1074) ∙ ap (λ (x : ℕ). suc m * x) p.1 ∙ sym (mul_assoc (suc m) (power p.0) (down e)))

-- ---- `units` is the u of which x is u / 2 ^ 1074
pub value_units : (x : Float) (s : Bool) (u : ℕ) → HasValue x s u (power 1074) → units x ≡ u
unfolding units
value_units nan s u h = absurd h
value_units (inf t) s u h = absurd h
value_units (fin t m e) s u h = ap (λ (n : ℕ). n / down e) h.1 ∙ mul-div_cancel u (down_pos e)

pub amount_value : (x : Float) → Amount x → HasValue x false (units x) (power 1074)
amount_value nan a = absurd a.sign
amount_value (inf s) a = absurd a.sign
amount_value (fin true m e) a = absurd a.sign
amount_value (fin false m e) a =
    let p = shape_of false m e a.fit in
    (refl, p.1 ∙ ap (λ (n : ℕ). n * down e) (sym (value_units (fin false m e) false (m * power p.0) (refl, p.1))))

pub value_amount : (x : Float) (u : ℕ) → T (fits binary64 x) → HasValue x false u (power 1074) → Is x u
value_amount nan u f h = absurd h
value_amount (inf s) u f h = absurd h
value_amount (fin true m e) u f h = absurd (true≢false h.0)
value_amount (fin false m e) u f h = record { amount = record { fit = f; sign = tt }; worth = value_units (fin false m e) false u h }

-- a value that is written out: m * 2 ^ k
pub whole_is : (m k : ℕ) → T (fits binary64 (fin false m (pos k))) → Is (fin false m (pos k)) (m * power (k + 1074))
whole_is m k f = value_amount (fin false m (pos k)) (m * power (k + 1074)) f
    (refl, mul_assoc m (2 ^ k) (power 1074) ∙ ap (λ (x : ℕ). m * x) (ap (λ (x : ℕ). x * power 1074) (power-is k) ∙ sym (power_add k 1074)) ∙ sym (mul-one (m * power (k + 1074))))

-- an amount has at most 53 digits and zeros behind them
pub amount_digits : (x : Float) → Amount x → Digits (units x)
amount_digits nan a = absurd a.sign
amount_digits (inf s) a = absurd a.sign
amount_digits (fin s m e) a =
    let p = shape_of s m e a.fit in
    record { digits = m; place = p.0; few = fit_few s m e a.fit; is = value_units (fin s m e) s (m * power p.0) (refl, p.1) }

-- the last digit: from 2 ^ (52 + g) units on an amount is a multiple of 2 ^ g units
pub digits_grid : (g n : ℕ) → Digits n → power (52 + g) ≤ n → OnGrid g n
digits_grid g n d h = grid_finer (go d.digits d.place d.few d.is) (record { count = d.digits; is = d.is })
  where
    go : (m t : ℕ) → m < power 53 → n ≡ m * power t → g ≤ t
    go m t l e =
        let under : power (52 + g) < power (53 + t) =
        lt_of_le_of_lt h (subst (λ (x : ℕ). n < x) (sym (power_add 53 t)) (subst (λ (x : ℕ). x < power 53 * power t) (sym e) (mul-lt-mul_of_pos_right l (power_pos t)))) in
        let k : 52 + g < 53 + t = power_lt_back under in
        omega arith

pub on_grid : (x : Float) (g : ℕ) → Amount x → power (52 + g) ≤ units x → OnGrid g (units x)
on_grid x g a h = digits_grid g (units x) (amount_digits x a) h

-- the constants of the code, by their bit patterns
pub zero_is : Is (of_bits binary64 0) 0
unfolding of_bits fits
zero_is = subst (Is (fin false 0 (pos 0))) (zero-mul (power 1074)) (whole_is 0 0 tt)

pub one_is : Is (of_bits binary64 0x3ff0_0000_0000_0000) (power 1074)
unfolding of_bits fits
one_is = subst (Is (fin false 1 (pos 0))) (one-mul (power 1074)) (whole_is 1 0 tt)

pub four_is : Is (of_bits binary64 0x4010_0000_0000_0000) (power 1076)
unfolding of_bits fits
four_is = subst (Is (fin false 1 (pos 2))) (one-mul (power 1076)) (whole_is 1 2 tt)

-- amounts of as many units are the same value: they have the same bit pattern
pattern : ℕ → ℕ
pattern n = let k = size n - 53 in 0 + k * hid binary64 + n / 2 ^ k

bits_of : (x : Float) → Amount x → to_bits binary64 x ≡ pattern (units x)
unfolding to_bits units power pattern
bits_of nan a = absurd a.sign
bits_of (inf s) a = absurd a.sign
bits_of (fin true m e) a = absurd a.sign
bits_of (fin false m e) a = refl

pub same_units : (x y : Float) → Amount x → Amount y → units x ≡ units y → x ≡ y
same_units x y a b e =
    sym (of_bits-to_bits binary64 x a.fit) ∙ ap (of_bits binary64) (bits_of x a ∙ ap pattern e ∙ sym (bits_of y b)) ∙ of_bits-to_bits binary64 y b.fit
