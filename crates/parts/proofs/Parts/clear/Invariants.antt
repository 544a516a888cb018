-- `parts::Parts::clear` meets its contract. Assumes nothing.
use Rattle.std.proofs.Common.{◌≡◌}
use Rattle.parts.specs.Held.{held, SameParts}
use Rattle.parts.specs.Parts.{cleared_rows}
use Rattle.parts.proofs.Parts.clear.Given as goal

abbrev pub invariant-loop-k : goal.invariant-loop-k
invariant-loop-k l = record {
  slices : SameParts l.initial.self l.self;
  rows : held l.self ≡ cleared_rows (held l.initial.self) l.a l.k;
}
