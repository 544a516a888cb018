-- Whose wants a visit adds: overflow's first at table 0, once it has been judged, then those of the records of the part that are not stale, in their
-- order. Statements only; proofs/Laws proves them. They refuse a definition that walks other records, or in another order, whatever the code does.
use Rattle.std.specs.Prelude.{ℕ, ◌+◌, ◌<◌, ◌≡◌, cond, ◌==◌, List, [], ◌∷◌, get_or}
use Rattle.flow.specs.Flow.{dims, is_fresh}
use Rattle.flow.specs.declared.Use.{Use}
use Rattle.shifting.specs.Offsets.{«PARTS»}
use Rattle.store.specs.Store.{Record, part}
use Rattle.parts.specs.Parts.{Rows, dropped}
use Rattle.parts.specs.Laws.{stale, without, part_of, Fits}
use Rattle.scan_visit.specs.Walking.{walk_use}
use Rattle.wants.specs.Wants.{Hist}
use Rattle.scan_visit.specs.Visiting.{visit_with}

-- overflow's want: at table 0, once it has been judged
abbrev pub overflow_first : Use → ℕ → ℕ → Hist → Hist
overflow_first overflow t table g = cond (table == 0) (cond (is_fresh overflow.fresh) g (walk_use overflow t g)) g

-- the use that a record holds
abbrev pub use_in : Record → Use
use_in r = record { attempted = part r.floats 0; credit = part r.floats dims; at_ms = get_or r.words 5 0; fresh = get_or r.words 6 0 }

-- the wants of these records at the scan's stamp t, one after the other
unfoldable pub wants_of : ℕ → List Record → Hist → Hist
wants_of t [] g = g
wants_of t (r ∷ rs) g = wants_of t rs (walk_use (use_in r) t g)

-- the entries and the rows may hold any bits
abbrev pub Visits : Type 0
Visits =
    (m : Rows) (n table t : ℕ) (overflow : Use) (g : Hist) → Fits m n → table < «PARTS»
    → visit_with (dropped m n table t) overflow table t g ≡ wants_of t (without (stale t) (part_of m n table)) (overflow_first overflow t table g)
