-- `check_wants::double_of` is safe: a pattern up to that of an infinity, the sign aside, is no not-a-number's. Assumes nothing.
use Rattle.std.proofs.Common.{le-ltb}
use lib.Ieee.{binary64}
use lib.Ieee.Bits.{nan_bits_above}
use Rattle.check_wants.proofs.double_of.Goals as goal

pub float_from_bits-result : goal.float_from_bits-result
float_from_bits-result c = rw (nan_bits_above binary64 c.args.bits, le-ltb _ _ c.if-bits-le-INFINITE.true) tt
