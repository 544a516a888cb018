-- `judge` meets its contract.
use borrow.Author.Tests.{not-false}
use Rattle.judge.specs.Lending.{lent_memory}
use Rattle.text.specs.Pages.{seen}
use Rattle.trial.specs.Trial.{state}
use Rattle.trial.proofs.Steps.{judge_step}
use Rattle.trial.proofs.judge.Goals as goal

pub returns-clause-value : goal.returns-clause-value
returns-clause-value c =
    judge_step (state c.args.t (lent_memory c.args.lent.now c.args.histogram.now) (seen c.args.page.now))
    c.args.l c.judge-j.result _ _ _ (not-false c.args.t.is_started c.if-not-t.false) c.into.ensures
    c.judge-j.ensures.same_but_nan_bits c.put_answer.ensures.value
