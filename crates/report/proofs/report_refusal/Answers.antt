-- `report_refusal` meets its contract: the number of the answer composed. Assumes nothing.
use Rattle.std.proofs.Common.{◌≡◌, ap, ◌∙◌, Err, rules}
use Rattle.head.specs.Answers.{answer_number}
use Rattle.report.proofs.Asking.{answer_number as asked_number}
use Rattle.report.proofs.report_refusal.Goals as goal

pub returns-in_err-composed : goal.returns-in_err-composed
unfolding answer_number
returns-in_err-composed c =
    let q : c.from_residual.result ≡ Err c.in_err-composed.field-0.0 = search rules in
    ap answer_number q ∙ ap answer_number c.in_err-composed.ensures.value ∙ asked_number _ _ _ _

pub returns : goal.returns
unfolding answer_number
returns c = ap answer_number c.in_ok-composed.ensures.value ∙ asked_number _ _ _ _
