-- `shifting::insert` meets its contract. Assumes nothing.
use Rattle.std.proofs.Common.{◌≡◌, ◌≤◌}
use Rattle.shifting.proofs.Entering.{coming, held}
use Rattle.shifting.proofs.insert.Given as goal

abbrev pub invariant-loop-i : goal.invariant-loop-i
invariant-loop-i g l =
    (l.p ≤ l.i) × (l.entries ≡ coming l.initial.entries l.p l.fn.entry l.i) × (l.held ≡ held l.initial.entries l.p l.fn.entry l.i)
