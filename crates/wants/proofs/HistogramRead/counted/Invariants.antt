-- `wants::HistogramRead::counted` meets its contract: the whole number summed so far is that of the buckets passed. Assumes nothing.
use Rattle.std.proofs.Common.{◌≡◌, ◌*◌, ◌≤◌}
use Rattle.wants.specs.Laws.{first_units}
use Rattle.wants.proofs.HistogramRead.counted.Given as goal

abbrev pub invariant-loop-n : goal.invariant-loop-n
invariant-loop-n l = (l.total ≤ l.n-index * 4294967296) × (l.total ≡ first_units l.n-items l.n-index)
