-- `cut` meets its contract.
use borrow.Author.Tests.{not-false}
use Rattle.store.specs.Held.{lent_rows}
use Rattle.judge.specs.Judging.{memory}
use Rattle.text.specs.Pages.{seen}
use Rattle.trial.specs.Trial.{state}
use Rattle.trial.proofs.Steps.{cut_step}
use Rattle.trial.proofs.cut.Goals as goal

pub returns-clause-value : goal.returns-clause-value
returns-clause-value c =
    λ g. cut_step (state c.args.t (memory (lent_rows c.args.lent.now) g c.args.lent.now.counted.now) (seen c.args.page.now)) c.args.l
    c.cut-c.result _ _ _ _ (not-false c.args.t.is_started c.if-not-t.false) c.into.ensures c.cut-c.ensures.same_but_nan_bits
    c.put_done.ensures.value
