-- `parts::drops::sift` meets its contract. Assumes nothing.
use Rattle.std.proofs.Common.{◌≡◌, ◌+◌, ◌≤◌}
use Rattle.parts.specs.Indexed.{SameIndex}
use Rattle.parts.specs.Parts.{sifting, sifted}
use Rattle.parts.proofs.drops.sift.Given as goal

abbrev pub invariant-loop-i : goal.invariant-loop-i
invariant-loop-i g l = record {
  low : l.from ≤ l.j;
  high : l.j ≤ l.i;
  slices : SameIndex l.initial.index l.index;
  cost : l.index.copies.now + l.from ≡ l.initial.index.copies.now + l.j;
  index : sifting l.j l.index.tags.now l.index.slots.now l.free
      ≡ sifted l.initial.index.tags.now l.initial.index.slots.now l.initial.free l.units l.from l.i l.f l.at_ms;
}
