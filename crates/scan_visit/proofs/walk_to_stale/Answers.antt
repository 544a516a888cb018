-- `scan_visit::walk_to_stale` meets its contract. Assumes nothing.
use Rattle.std.proofs.Common.{arith, rules}
use Rattle.scan_visit.proofs.Turns.{walk_none, walk_next}
use Rattle.scan_visit.proofs.walk_to_stale.Goals as goal

pub loop-i-init : goal.loop-i-init
loop-i-init c = record { none = λ k a b. absurd (omega arith); sums = walk_none _ _ _ _; arrays = search rules }

pub loop-i-preserved : goal.loop-i-preserved
loop-i-preserved c = record {
  none = search rules;
  sums = walk_next _ _ _ _ _ _ _ (omega arith) c.loop-i.invariant.sums c.walk_one.ensures.sums_after;
  arrays = search rules;
}
