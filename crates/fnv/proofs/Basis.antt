-- The offset basis is the FNV-0 hash that RFC 9923 has it from, computed. Assumes nothing.
use Rattle.std.proofs.Common.{refl}
use Rattle.fnv.specs.Fnv.{fnv0, Basis}

pub basis : Basis
unfolding fnv0
basis = refl
