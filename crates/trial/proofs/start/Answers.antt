-- `start` meets its contract.
use Rattle.std.proofs.Common.{◌≡◌, refl, rules}
use Rattle.judge.specs.Lending.{lent_memory}
use Rattle.text.specs.Pages.{seen}
use Rattle.trial.specs.Trial.{state}
use Rattle.trial.proofs.Steps.{start_step}
use Rattle.trial.proofs.start.Goals as goal

pub returns-clause-value : goal.returns-clause-value
returns-clause-value c =
    let same = c.start-s.ensures.slices in
    let free_are : c.lent-1.given.0 ≡ c.start-s.new.lent.free.now = search rules in
    rw free_are (start_step (state c.args.t (lent_memory c.args.lent.now c.args.histogram.now) (seen c.args.page.now))
    c.args.l c.start-s.result _ _ _ _ _ _ _ c.into.ensures c.into-2.ensures
    (rw (same.tags_same, same.slots_same, same.units_same, same.uses_same) at c.start-s.ensures.same_but_nan_bits) refl
    c.put_begin.ensures.value c.has_begun.ensures)
