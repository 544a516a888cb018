-- `shifting::clear` meets its contract. Assumes nothing.
use Rattle.std.proofs.Common.{arith}
use Rattle.shifting.proofs.Closing.{zero_none, zero_turn}
use Rattle.shifting.proofs.clear.Goals as goal

pub loop-i-init : goal.loop-i-init
loop-i-init g c = zero_none _ _ _

pub loop-i-preserved : goal.loop-i-preserved
loop-i-preserved g c = rw c.loop-i.invariant (zero_turn _ _ _ _ (omega arith) (omega arith))
