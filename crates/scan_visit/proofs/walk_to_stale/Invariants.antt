-- `scan_visit::walk_to_stale` meets its contract. Assumes nothing.
use Rattle.std.proofs.Common.{◌≡◌, ◌-◌}
use Rattle.store.specs.Store.{None}
use Rattle.parts.specs.Held.{held}
use Rattle.parts.specs.Parts.{goes}
use Rattle.wants.specs.Held.{wants_held, SameArrays}
use Rattle.scan_visit.specs.Visiting.{walk}
use Rattle.scan_visit.proofs.walk_to_stale.Given as goal

abbrev pub invariant-loop-i : goal.invariant-loop-i
invariant-loop-i l = record {
  none : None (goes l.parts.slots.now l.parts.units.now l.at_ms) l.from l.i;
  sums : wants_held l.histogram ≡ walk (held l.parts) l.at_ms l.from (l.i - l.from) (wants_held l.initial.histogram);
  arrays : SameArrays l.initial.histogram l.histogram;
}
