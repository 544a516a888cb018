use Rattle.cut_counts.specs.Counting.{count_verdict}
use Rattle.std.proofs.Common.{sym}
use Rattle.cut_counts.proofs.count_verdict.Goals as goal

pub returns-in_default-clause-counted_after : goal.returns-in_default-clause-counted_after
unfolding count_verdict
returns-in_default-clause-counted_after c = simp c.in_default.ensures

pub returns-clause-counted_after : goal.returns-clause-counted_after
unfolding count_verdict
returns-clause-counted_after c = simp (c.in-Some.ensures.0, sym c.in-Some.ensures.1) c.tallied.ensures.counted_after
