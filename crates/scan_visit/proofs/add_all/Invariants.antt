-- `scan_visit::add_all` meets its contract. Assumes nothing.
use Rattle.wants.specs.Held.{wants_held, SameArrays}
use Rattle.scan_visit.specs.Walking.{adds}
use Rattle.std.proofs.Common.{◌≡◌}
use Rattle.scan_visit.proofs.add_all.Given as goal

abbrev pub invariant-loop-d : goal.invariant-loop-d
invariant-loop-d l =
    (wants_held l.histogram ≡ adds l.want l.d (wants_held l.initial.histogram)) × SameArrays l.initial.histogram l.histogram
