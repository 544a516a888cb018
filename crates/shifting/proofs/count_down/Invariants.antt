-- `shifting::count_down` meets its contract. Assumes nothing.
use Rattle.std.proofs.Common.{◌≡◌}
use Rattle.shifting.proofs.Down.{filling}
use Rattle.shifting.proofs.count_down.Given as goal

abbrev pub invariant-loop-k : goal.invariant-loop-k
invariant-loop-k l = l.numbers ≡ filling l.initial.numbers l.k
