-- The wants of a use, and overflow's at table 0, added to the histogram. Definitions only.
-- Definitions are shut (`unfoldable`): a proof opens the one that it is about.
use Rattle.std.specs.Prelude.{ℕ, zero, suc, cond, List, ◌==◌, Float}
use Rattle.flow.specs.Flow as flow
use Rattle.flow.specs.Flow.{at, dims}
use Rattle.flow.specs.declared.Use.{Use}
use Rattle.wants.specs.Wants as wants
use Rattle.wants.specs.Wants.{Hist}

-- a want for each of the first n dimensions
unfoldable pub adds : List Float → ℕ → Hist → Hist
adds want zero g = g
adds want (suc d) g = wants.added (adds want d g) d (at want d)

-- what a unit attempts a second at the scan's stamp t
unfoldable pub walk_use : Use → ℕ → Hist → Hist
walk_use u t g = adds (flow.rates u t) dims g

-- overflow's at table 0, once it has been judged
unfoldable pub walk_overflow : Use → ℕ → ℕ → Hist → Hist
walk_overflow o table t g = cond (table == 0) (cond (flow.is_fresh o.fresh) g (walk_use o t g)) g
