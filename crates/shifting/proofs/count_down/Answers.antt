-- `shifting::count_down` meets its contract. Assumes nothing.
use Rattle.std.proofs.Common.{◌∙◌, arith}
use Rattle.shifting.proofs.Down.{fill_none, fill_turn, fill_done}
use Rattle.shifting.proofs.count_down.Goals as goal

pub loop-k-init : goal.loop-k-init
loop-k-init c = fill_none _

pub loop-k-preserved : goal.loop-k-preserved
loop-k-preserved c = rw c.loop-k.invariant (fill_turn _ _ _ (omega arith) (omega arith))

pub returns : goal.returns
returns c = c.loop-k.invariant ∙ fill_done _ _ (omega arith)
