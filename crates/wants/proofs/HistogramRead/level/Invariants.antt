-- `wants::HistogramRead::level` meets its contract: so far every bucket fits, with what is left and who remains. Assumes nothing.
use Rattle.std.proofs.Common.{◌≡◌, [], get_or}
use Rattle.wants.specs.Wants.{fits, counted, walked}
use Rattle.wants.proofs.HistogramRead.level.Given as goal

abbrev pub invariant-loop-b : goal.invariant-loop-b
invariant-loop-b l = walked (get_or l.counts l.dim []) (get_or l.sums l.dim []) l.rate (counted (get_or l.counts l.dim []) 768 768) l.b ≡ fits l.left l.remaining
