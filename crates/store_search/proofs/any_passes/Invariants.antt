-- `store_search::any_passes` meets its contract: where none is met, no place passed has a tag that passes. Assumes nothing.
use mathlib.Core.Path.{◌≡◌}
use mathlib.Core.Bool.{false}
use Rattle.store_search.specs.Passing.{None}
use Rattle.store_search.proofs.any_passes.Given as goal

abbrev pub invariant-loop-k : goal.invariant-loop-k
invariant-loop-k g l = l.met ≡ false → None (goal.F-post g l.passes) l.tags l.i l.k
