-- `store_search::find_tagged` meets its contract. Assumes nothing.
use Rattle.std.proofs.Common.{◌≡◌, ◌-◌, ◌<◌, ◌≤◌, true}
use Rattle.store.specs.Store.{has_tag}
use Rattle.store_search.specs.Passing.{NoneSought}
use Rattle.store_search.proofs.find_tagged.Given as goal

abbrev pub invariant-loop-i : goal.invariant-loop-i
invariant-loop-i g l =
    (l.i ≤ l.n) × (l.i < l.n → has_tag l.tags l.tag l.i ≡ true) × NoneSought (goal.F-post g l.is_sought) l.tags l.tag l.i

abbrev pub decreases-loop-i : goal.decreases-loop-i
decreases-loop-i g l = l.n - l.i
