-- The wants that a visit of a table adds to the histogram: overflow's at table 0, then those of the records in the table's part, in the order of the index.
-- A record is walked with the part that it stands in; its tag is not asked. Definitions only.
-- Definitions are shut (`unfoldable`): a proof opens the one that it is about.
use Rattle.std.specs.Prelude.{ℕ, zero, suc, ◌+◌, ◌-◌}
use Rattle.flow.specs.declared.Use.{Use}
use Rattle.parts.specs.Parts.{Rows, begin, end, use_of}
use Rattle.scan_visit.specs.Walking.{walk_use, walk_overflow}
use Rattle.wants.specs.Wants.{Hist}

-- so many records from the place a on, at the scan's stamp t
unfoldable pub walk : Rows → ℕ → ℕ → ℕ → Hist → Hist
walk m t a zero g = g
walk m t a (suc k) g = walk_use (use_of m (a + k)) t (walk m t a k g)

-- the records of a table's part
unfoldable pub walk_part : Rows → ℕ → ℕ → Hist → Hist
walk_part m table t g = walk m t (begin m table) (end m table - begin m table) g

-- with the rows that the drop leaves: overflow's want first at table 0, then those of the table's part
unfoldable pub visit_with : Rows → Use → ℕ → ℕ → Hist → Hist
visit_with m overflow table t g = walk_part m table t (walk_overflow overflow table t g)
