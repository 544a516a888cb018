use Rattle.scan.specs.Scanning.{again}
use Rattle.std.proofs.Common.{le-leb}
use borrow.Author.Tests.{lt-leb}
use Rattle.scan.proofs.again.Goals as goal

pub returns-then-h-ge1-clause-sums_after : goal.returns-then-h-ge1-clause-sums_after
unfolding again
returns-then-h-ge1-clause-sums_after c = simp (le-leb _ _ c.if-h-ge1.true) c.visit.ensures.sums_after

pub returns-else-h-ge1-clause-sums_after : goal.returns-else-h-ge1-clause-sums_after
unfolding again
returns-else-h-ge1-clause-sums_after c = simp (lt-leb _ _ c.if-h-ge1.false)
