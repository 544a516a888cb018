-- A whole cost is taken off what holds it. Assumes nothing.
use mathlib.Core.Path.{◌≡◌, sym}
use Prim.Native.Nat.{ℕ, ◌+◌, ◌*◌, ◌^◌, ◌≤◌, zero-le}
use native.Mathlib.Nat.{le_trans, le_of_eq, le_refl}
use native.Mathlib.Omega.{arith}
use mathlib.Core.Bool.{Bool, true, false, ◌&&◌, cond}
use lib.Dec.{T}
use lib.Ieee as Ieee
use lib.Ieee.{Float}
use Rattle.ieee.specs.Doubles.{whole}
use Rattle.ieee.specs.Units.{power, units, Amount}
use Rattle.ieee.proofs.Power.{power-is}
use Rattle.ieee.proofs.Order.{le_units}
use Rattle.ieee.proofs.Laws.{int_is}
use Rattle.fair.specs.Credit.{admits, paid}
use Rattle.flow.proofs.Difference.{sub_whole}

pub top : {n : ℕ} → n ≤ 2 ^ 53 → n ≤ power 53
top h = le_trans h (le_of_eq (power-is 53))

and_right : (a b : Bool) → T (a && b) → T b
and_right true b t = t
and_right false b t = absurd t

-- ---- a cost that the credit holds is taken off exactly
pub record Paid (r r' : Float) (x c : ℕ) : Type 0 where
  pub amount : Amount r'
  pub exact : units r' + x * power 1074 ≡ units r
  pub part : x ≤ c

pub paid_is : (r : Float) (c : ℕ) (ok : Bool) → Amount r → units r ≤ power 1120 → c ≤ 2 ^ 40 → Paid r (paid (admits r c ok) r c) (cond (admits r c ok) c 0) c
paid_is r c ok a small l = pay r c a small l (admits r c ok) (and_right ok (Ieee.le (whole c) r))
  where
    pay : (r : Float) (c : ℕ) → Amount r → units r ≤ power 1120 → c ≤ 2 ^ 40 → (a : Bool) → (T a → T (Ieee.le (whole c) r)) → Paid r (paid a r c) (cond a c 0) c
    pay r c a small l true f =
        let i = int_is c (top (omega arith)) in
        let h : c * power 1074 ≤ units r = le_trans (le_of_eq (sym i.worth)) (le_units (whole c) r i.amount a (f tt)) in
        let s = sub_whole r c a small h in
        record { amount = s.amount; exact = omega (arith, s.worth); part = le_refl c }
    pay r c a small l false f = record { amount = a; exact = omega arith; part = zero-le }
