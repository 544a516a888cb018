-- `cut_sources::Sources::prune` meets its contract. Assumes nothing.
use Rattle.std.proofs.Common.{◌≡◌, ◌≤◌}
use Rattle.cut_sources.specs.Held.{SameSources}
use Rattle.cut_sources.specs.Counted.{sources, prune, prune_tags}
use Rattle.cut_sources.proofs.Sources.prune.Given as goal

abbrev pub invariant-loop-i : goal.invariant-loop-i
invariant-loop-i l =
    (l.j ≤ l.i) × SameSources l.initial.self l.self
    × (sources l.j l.self.counted.now ≡ prune l.initial.self.counted.now l.k l.i)
    × (l.self.tags.now ≡ prune_tags l.initial.self.tags.now l.initial.self.counted.now l.k l.i)
