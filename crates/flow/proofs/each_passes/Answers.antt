-- `flow::each_passes` meets its contract. Assumes nothing.
use Rattle.std.proofs.lemmas.Iterator.{cases_from_all, serves_from_Range, YieldsList-from_range}
use Rattle.std.proofs.Common.{refl, true, false}
use denote.Param.Members.{step_gives}
use Rattle.flow.specs.Flow.{dims}
use Rattle.flow.proofs.Parts.{passes_all}
use Rattle.flow.proofs.each_passes.Goals as goal

pub all-requires-clause-callable : goal.all-requires-clause-callable
all-requires-clause-callable g c = serves_from_Range (λ x q e. g.met.F.Fn.1.step_stays c.args.f (x, tt) true q e) (λ x low high. c.requires.callable x high)

pub returns : goal.returns
returns g c = record {
  value = λ p is. passes_all g.F.Fn c.args.f p is c.all.result
      (cases_from_all _ _ _ (λ d. g.F.Fn.post c.args.f (d, tt) true) (λ d. g.F.Fn.post c.args.f (d, tt) false) c.all.ensures.ran (YieldsList-from_range 0 dims dims refl refl)
      (λ d q k. (g.met.F.Fn.1.step_stays c.args.f (d, tt) true q k, step_gives g.F.Fn c.args.f (d, tt) true q g.met.F.FnMut.1 k))
      (λ d q k. step_gives g.F.Fn c.args.f (d, tt) false q g.met.F.FnMut.1 k));
}
