-- The laws of spending and of the hand-back (specs/Laws.antt). Assumes nothing.
use Rattle.std.proofs.Common.{ℕ, ◌+◌, ◌-◌, ◌*◌, ◌^◌, ◌≤◌, sym, ap, ◌∙◌, subst, le_trans, le_of_eq, mul-le-mul_right, arith, lit≤}
use lib.Ieee as Ieee
use lib.Ieee.{Float, binary64}
use Rattle.ieee.specs.Doubles.{whole}
use Rattle.ieee.specs.Units.{power, units, Is, Within}
use Rattle.ieee.proofs.Power.{power-is, power_mono, power_suc, power_times}
use Rattle.ieee.proofs.Laws.{int_is, add_within}
use Rattle.flow.specs.Flow.{at, credit_back}
use Rattle.flow.specs.Laws.{Takes, Gives}
use Rattle.flow.proofs.Parts.{each_at}
use Rattle.flow.proofs.Difference.{sub_whole}

pub takes : Takes
takes = record {
  tokens = λ b n a top held. sub_whole b.tokens n a top held;
  credit = λ u cost d n wide small price a top held.
      let x = at u.credit d in
      subst (λ (y : Float). Is y (units x - n * power 1074))
      (sym (each_at (λ (d : ℕ). Ieee.sub binary64 (at u.credit d) (at cost d)) u.credit d small wide ∙ ap (Ieee.sub binary64 x) price))
      (sub_whole x n a top held);
}

pub gives : Gives
gives u cost wide d n small few price = record {
  credit = λ a top.
      let i = int_is n (le_trans (let w : n ≤ 2 ^ 53 = omega arith in w) (le_of_eq (power-is 53))) in
      let x = at u.credit d in
      let share : n * power 1074 ≤ 2 ^ 40 * power 1074 = mul-le-mul_right (power 1074) few in
      let w = add_within x (whole n) a i.amount 1063 (lit≤ tt) (omega (arith, i.worth, power_times 40 1074, power_mono (lit≤ {m = 1114} {n = 1116} tt), power_suc 1116)) in
      subst (λ (y : Float). Within y (units x + n * power 1074) (power 1063))
      (sym (each_at (λ (d : ℕ). credit_back (at u.credit d) (at cost d)) u.credit d small wide ∙ ap (credit_back x) price))
      (subst (λ (m : ℕ). Within (Ieee.add binary64 x (whole n)) (units x + m) (power 1063)) i.worth w);
}
