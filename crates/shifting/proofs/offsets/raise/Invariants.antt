-- `shifting::raise` meets its contract. Assumes nothing.
use Rattle.std.proofs.Common.{◌≡◌, ◌+◌}
use Rattle.shifting.proofs.Whole.{mapping}
use Rattle.shifting.proofs.offsets.raise.Given as goal

abbrev pub invariant-loop-k : goal.invariant-loop-k
invariant-loop-k l = l.starts ≡ mapping (λ o. o + 1) l.initial.starts l.i l.k
