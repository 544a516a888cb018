-- `store_search::next` meets its contract. Assumes nothing.
use Rattle.store_search.specs.Passing.{None}
use Rattle.store_search.proofs.next.Given as goal

abbrev pub invariant-loop-i : goal.invariant-loop-i
invariant-loop-i g l = None (goal.F-post g l.passes) l.tags l.from l.i
