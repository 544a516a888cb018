-- `shifting::clear` meets its contract. Assumes nothing.
use Rattle.std.proofs.Common.{◌≡◌}
use Rattle.shifting.specs.Shifting.{zeroed}
use Rattle.shifting.proofs.clear.Given as goal

abbrev pub invariant-loop-i : goal.invariant-loop-i
invariant-loop-i g l = l.entries ≡ zeroed l.initial.entries l.a l.i l.zero
