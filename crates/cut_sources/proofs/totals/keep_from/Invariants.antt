-- `cut_sources::totals::keep_from` meets its contract. Assumes nothing.
use Rattle.std.proofs.Common.{◌-◌, ◌<◌, ◌≤◌, length}
use Rattle.cut_sources.specs.Counted.{totals, keep_from}
use Rattle.cut_sources.proofs.totals.keep_from.Given as goal

abbrev pub invariant-loop-low : goal.invariant-loop-low
invariant-loop-low l = (l.n ≤ length l.counted) × (0 < l.n) × (l.low ≤ keep_from (totals l.counted l.n)) × (keep_from (totals l.counted l.n) ≤ l.high)

abbrev pub decreases-loop-low : goal.decreases-loop-low
decreases-loop-low l = l.high - l.low
