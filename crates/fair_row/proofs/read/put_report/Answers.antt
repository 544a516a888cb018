-- `put_report` meets its contract: the part that `report` returned is put into the buffer, or `write_report` has written it. Assumes nothing.
use mathlib.Core.Path.{sym, ap, ◌∙◌}
use borrow.Author.Rules.{rules}
use Rattle.report.specs.Report as reports
use Rattle.fair_row.proofs.Reported.{front_length, part_put}
use Rattle.fair_row.proofs.read.put_report.Goals as goal

pub slice_bounds-report-end : goal.slice_bounds-report-end
slice_bounds-report-end c =
    front_length _ _ c.if-room-le-PAGE.true

pub returns-then-room-le-PAGE : goal.returns-then-room-le-PAGE
returns-then-room-le-PAGE c = record {
  value = (λ g. c.answer_number.ensures ∙ c.report_refusal-refusal.ensures);
  out_after = (λ g. part_put _ _ _ _ _ _ _ c.put.new.self.at (sym (front_length _ _ c.if-room-le-PAGE.true)) c.report-part.ensures (search rules));
}

pub returns : goal.returns
returns c = record {
  value = (λ g. c.answer_number-2.ensures ∙ c.write_report.ensures.result_value);
  out_after = (λ g. ap (λ (y : reports.Ends). y.out) c.write_report.ensures.out_after);
}
