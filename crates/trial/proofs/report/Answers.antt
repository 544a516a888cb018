-- `report` meets its contract.
use Rattle.std.proofs.Common.{refl, sym, ap, ◌∙◌, arith}
use borrow.Author.Rules.{rules}
use Rattle.head.specs.Answers.{answer_number}
use Rattle.head.proofs.Numbers.{number_some, answered_none}
use borrow.Author.Tests.{not-false}
use Rattle.store.specs.Held.{lent_rows}
use Rattle.judge.specs.Judging.{memory}
use Rattle.text.specs.Pages.{seen}
use Rattle.trial.specs.Trial.{state}
use Rattle.trial.proofs.Steps.{report_refused, report_step}
use Rattle.trial.proofs.report.Goals as goal

pub returns-in-Err-clause-value : goal.returns-in-Err-clause-value
unfolding answer_number
returns-in-Err-clause-value c =
    λ g. report_refused (state c.args.t (memory (lent_rows c.args.lent.now) g c.args.lent.now.counted.now) (seen c.args.page.now)) _ c.from.result _
    (not-false c.args.t.is_started c.if-not-t.false) (c.from.ensures ∙ ap answer_number (sym c.in-Err.is) ∙ (simp (c.read-rows.ensures.tags_read, c.read-rows.ensures.slots_read, c.read-rows.ensures.offsets_read, c.read-rows.ensures.free_read, c.read-rows.ensures.units_read, c.read-rows.ensures.uses_read, c.read-rows.ensures.counted_read) at c.report_refusal.ensures))
    (search rules) (λ z. absurd (omega (arith, number_some c.in-Err.refusal, c.from.ensures, z)))
    (c.refused-in-Err.ensures.value (memory (lent_rows c.args.lent.now) g c.args.lent.now.counted.now))

pub returns-clause-value : goal.returns-clause-value
returns-clause-value c =
    λ g. report_step (state c.args.t (memory (lent_rows c.args.lent.now) g c.args.lent.now.counted.now) (seen c.args.page.now)) _ _ _ _ _
    (not-false c.args.t.is_started c.if-not-t.false)
    (simp (c.read-rows.ensures.tags_read, c.read-rows.ensures.slots_read, c.read-rows.ensures.offsets_read, c.read-rows.ensures.free_read, c.read-rows.ensures.units_read, c.read-rows.ensures.uses_read, c.read-rows.ensures.counted_read) at c.report_refusal.ensures)
    (search rules) (search rules) (answered_none c.report_refusal.result _ _ c.in_default.is refl)
    (simp (c.read-rows.ensures.tags_read, c.read-rows.ensures.slots_read, c.read-rows.ensures.offsets_read, c.read-rows.ensures.free_read, c.read-rows.ensures.units_read, c.read-rows.ensures.uses_read, c.read-rows.ensures.counted_read) at c.report-front.ensures) c.put.ensures.value
