use Rattle.std.proofs.Common.{◌∙◌}
use Rattle.tankpost.proofs.Told.{refusal_tells}
use Rattle.tankpost.proofs.tankpost_report_refusal.Goals as goal

pub returns : goal.returns
returns c = λ g. refusal_tells _ _ g _ _ _ (c.answer_number.ensures ∙ c.report_refusal.ensures)
