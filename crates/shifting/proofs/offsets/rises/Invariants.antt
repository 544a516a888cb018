-- `shifting::rises` meets its contract. Assumes nothing.
use Rattle.std.proofs.Common.{◌≡◌}
use Rattle.shifting.specs.Offsets.{rising}
use Rattle.shifting.proofs.offsets.rises.Given as goal

abbrev pub invariant-loop-k : goal.invariant-loop-k
invariant-loop-k l = l.rises ≡ rising l.starts l.k
