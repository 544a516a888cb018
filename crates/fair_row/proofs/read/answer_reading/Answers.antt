use Rattle.fair_row.specs.Replay.{reading_of}
use Rattle.fair_row.proofs.read.answer_reading.Goals as goal

pub returns-in-Report-clause-value : goal.returns-in-Report-clause-value
unfolding reading_of
returns-in-Report-clause-value c = rw c.in-Report.is c.put_report.ensures.value

pub returns-in-Report-clause-out_after : goal.returns-in-Report-clause-out_after
unfolding reading_of
returns-in-Report-clause-out_after c = rw c.in-Report.is c.put_report.ensures.out_after
