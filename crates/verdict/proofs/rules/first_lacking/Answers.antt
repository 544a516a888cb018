-- `verdict::rules::first_lacking` meets its contract. Assumes nothing.
use Rattle.std.proofs.Common.{refl, true, false}
use Rattle.std.proofs.lemmas.Iterator.{IsFirst-from_position, serves_from_Range, YieldsList-from_range}
use denote.Param.Members.{step_gives}
use Rattle.flow.specs.Flow.{dims}
use Rattle.verdict.proofs.Lacking.{position_first}
use Rattle.verdict.proofs.rules.first_lacking.Goals as goal

pub position-requires-clause-callable : goal.position-requires-clause-callable
position-requires-clause-callable g c = serves_from_Range (λ x q e. g.met.F.Fn.1.step_stays c.args.lacks (x, tt) false q e) (λ x low high. c.requires.callable x high)

pub returns : goal.returns
returns g c = record {
  value = λ p is. position_first g.F.Fn c.args.lacks p is c.position.result
      (IsFirst-from_position _ _ _ (λ d. g.F.Fn.post c.args.lacks (d, tt) true) (λ d. g.F.Fn.post c.args.lacks (d, tt) false) c.position.ensures.ran (YieldsList-from_range 0 dims dims refl refl)
      (λ d q k. step_gives g.F.Fn c.args.lacks (d, tt) true q g.met.F.FnMut.1 k)
      (λ d q k. (g.met.F.Fn.1.step_stays c.args.lacks (d, tt) false q k, step_gives g.F.Fn c.args.lacks (d, tt) false q g.met.F.FnMut.1 k)));
}
