use Rattle.scan.specs.Scanning.{ended}
use Rattle.scan.proofs.Scanning.{scanned_on, scanned_off}
use Rattle.std.proofs.Common.{sym, ap, ◌∙◌}
use Rattle.scan.proofs.scanned.Goals as goal

pub returns-then-not-is_running-clause-sums_after : goal.returns-then-not-is_running-clause-sums_after
returns-then-not-is_running-clause-sums_after c =
    scanned_off c.args.h _ _ c.args.clock c.is_running.new.h _ c.is_running.ensures.sums_after (sym c.is_running.ensures.value ∙ c.if-not-is_running.true)

pub returns-clause-sums_after : goal.returns-clause-sums_after
returns-clause-sums_after c =
    scanned_on c.args.h _ _ c.args.clock c.is_running.new.h _ c.visit.new.h _ _ c.again.new.h _ _
    c.ended.result c.is_running.ensures.sums_after (sym c.is_running.ensures.value ∙ c.if-not-is_running.false) c.visit.ensures.sums_after c.again.ensures.sums_after
    (c.ended.ensures ∙ ap (ended c.again.new.h) c.read.ensures)
