-- `store_search::skip` meets its contract: the places passed, STEP at a time. Assumes nothing.
use Prim.Native.Nat.{◌≤◌, ◌-◌}
use Rattle.store_search.specs.Passing.{None}
use Rattle.store_search.proofs.skip.Given as goal

abbrev pub invariant-loop-i : goal.invariant-loop-i
invariant-loop-i g l = (l.from ≤ l.i) × (l.i ≤ l.n) × None (goal.F-post g l.passes) l.tags l.from l.i

abbrev pub decreases-loop-i : goal.decreases-loop-i
decreases-loop-i g l = l.n - l.i
