-- A fill is lawful: min (level, rate) is a finite double from 1 to the rate, whatever double the level was made from by max (.., 1), a NaN and the infinities too. Assumes nothing.
use mathlib.Core.Path.{◌≡◌, refl, sym, ap, ◌∙◌, subst}
use Prim.Native.Nat.{ℕ, ◌+◌, ◌*◌, ◌^◌, ◌≤◌}
use native.Mathlib.Nat.{le_trans, le_of_eq, mul-le-mul_right}
use native.Mathlib.Omega.{arith}
use mathlib.Core.Bool.{Bool, true, false, cond}
use lib.Dec.{T}
use lib.IntN.{ℤ}
use lib.Ieee.{Float, nan, inf, fin, binary64, fits, lt, ne, eq, of_bits, up, down}
use lib.Ieee.Fits.{down_pos}
use borrow.Author.Tests.{lt-ltb, le-leb}
use Rattle.ieee.specs.Doubles.{whole, one, nothing}
use Rattle.ieee.specs.Units.{power, units, Amount}
use Rattle.ieee.proofs.Power.{power-is}
use Rattle.ieee.proofs.Value.{one_is, zero_is, amount_value}
use Rattle.ieee.proofs.Order.{self, lt_inf, le_is}
use Rattle.ieee.proofs.Laws.{int_is}
use Rattle.ieee.specs.Extremes.{least, most}
use Rattle.ieee.proofs.Extremes.{least-is, most_is}
use Rattle.fair.specs.Calls.{Valued}

-- a level: an amount of at least 1, or the infinity
pub data Level (x : Float) : Type 0 where
  finite : Amount x → power 1074 ≤ units x → Level x
  endless : x ≡ inf false → Level x

below_one : (m : ℕ) (e : ℤ) → lt (fin true m e) one ≡ true
unfolding lt of_bits
below_one m e = lt-ltb 0 (m * up e * 1 + 1 * down e) (omega (arith, down_pos e))

either : (b : Bool) → cond b one one ≡ one
either true = refl
either false = refl

at_one : {x : Float} → x ≡ one → Level x
at_one e = subst Level (sym e) (finite one_is.amount (le_of_eq (sym one_is.worth)))

of_nan : most nan one ≡ one
unfolding ne eq
of_nan = refl

of_inf : (s : Bool) → Level (most (inf s) one)
unfolding ne eq lt of_bits
of_inf true = at_one refl
of_inf false = endless refl

pub level_is : (x : Float) → T (fits binary64 x) → Level (most x one)
level_is nan f = at_one of_nan
level_is (inf s) f = of_inf s
level_is (fin true m e) f = at_one (rw (below_one m e) (either (ne (fin true m e) (fin true m e))))
level_is (fin false m e) f =
    let r = most_is (self (record { fit = f; sign = tt })) one_is in
    finite r.amount (omega (arith, r.worth))

-- the fill
pub record Fill (f : Float) (rate : ℕ) : Type 0 where
  pub amount : Amount f
  pub least : power 1074 ≤ units f
  pub most : units f ≤ rate * power 1074

endless_least : (y : Float) → Amount y → least (inf false) y ≡ y
unfolding ne eq
endless_least y a = rw (lt_inf y a)

pub fill_is : (x : Float) (rate : ℕ) → 1 ≤ rate → rate ≤ 2 ^ 40 → Level x → Fill (least x (whole rate)) rate
fill_is x rate low high (finite a h) =
    let i = int_is rate (le_trans (let w : rate ≤ 2 ^ 53 = omega arith in w) (le_of_eq (power-is 53))) in
    let r = least-is (self a) i in
    let m : 1 * power 1074 ≤ rate * power 1074 = mul-le-mul_right (power 1074) low in
    record { amount = r.amount; least = omega (arith, r.worth); most = omega (arith, r.worth) }
fill_is x rate low high (endless e) =
    let i = int_is rate (le_trans (let w : rate ≤ 2 ^ 53 = omega arith in w) (le_of_eq (power-is 53))) in
    let m : 1 * power 1074 ≤ rate * power 1074 = mul-le-mul_right (power 1074) low in
    subst (λ (f : Float). Fill f rate) (sym (ap (λ (z : Float). least z (whole rate)) e ∙ endless_least (whole rate) i.amount)) (record { amount = i.amount; least = omega (arith, i.worth); most = le_of_eq i.worth })

-- an amount has a value to count
pub valued : (x : Float) → Amount x → Valued x
valued x a = record { finite = lt_inf x a; not_negative = le_is nothing x zero_is.amount a ∙ le-leb (units nothing) (units x) (omega (arith, zero_is.worth)); exact = amount_value x a }
