-- The store beside a list of the records in order of arrival: of each table both have the same records in the same order, from a start on.
-- Statements only; proofs/Arrival, Departing and Changing prove them.
use Rattle.std.specs.Prelude.{ℕ, ◌+◌, ◌<◌, ◌≡◌, Bool, not, ◌&&◌, List, [], ◌∷◌, ◌++◌, eqb, length, get_or, set}
use Rattle.flow.specs.declared.Use.{Use}
use Rattle.sender.specs.declared.Name.{Name}
use Rattle.sender.specs.Sender.{table_of_tag}
use Rattle.store.specs.Store.{Record}
use Rattle.shifting.specs.Offsets.{«PARTS»}
use Rattle.parts.specs.Parts.{Rows, put, added, dropped, left, started}
use Rattle.parts.specs.Held.{Sized}
use Rattle.parts.specs.Laws.{Well, record_at, part_of, record_of, with_use, stale, without}

-- the records of a table, in their order
unfoldable pub of_table : ℕ → List Record → List Record
of_table table rs = without (λ (r : Record). not (eqb (table_of_tag r.tag) table)) rs

-- rs are the n records in order of arrival
pub record Arrived (m : Rows) (n : ℕ) (rs : List Record) : Type 0 where
  pub well : Well m n
  pub count : length rs ≡ n
  pub parts : (table : ℕ) → table < «PARTS» → part_of m n table ≡ of_table table rs

-- a start: there is none
abbrev pub Begun : Type 0
Begun = (m : Rows) → Sized m → Arrived (started m) 0 []

-- a record comes in: it is the last
abbrev pub Came : Type 0
Came = (m : Rows) (n : ℕ) (name : Name) (u : Use) (rs : List Record) → Arrived m n rs → n < length m.units → table_of_tag name.tag < «PARTS»
    → Arrived (added m n name u) (n + 1) (rs ++ (record_of name u ∷ []))

-- a record of the table that is stale
unfoldable pub leaves : ℕ → ℕ → Record → Bool
leaves table at_ms r = eqb (table_of_tag r.tag) table && stale at_ms r

-- stale records of a table leave: the others stay as they were
abbrev pub Went : Type 0
Went = (m : Rows) (n table at_ms : ℕ) (rs : List Record) → Arrived m n rs → table < «PARTS» → Arrived (dropped m n table at_ms) (left m n table at_ms) (without (leaves table at_ms) rs)

-- a use is put into the record at k: one record is changed, in its place
pub record Changes (m : Rows) (n k : ℕ) (u : Use) (rs : List Record) : Type 0 where
  pub at : ℕ
  pub below : at < length rs
  pub same : get_or rs at (record_at m k) ≡ record_at m k
  pub arrived : Arrived (put m k u) n (set rs at (with_use (record_at m k) u))

abbrev pub Changed : Type 0
Changed = (m : Rows) (n k : ℕ) (u : Use) (rs : List Record) → Arrived m n rs → k < n → Changes m n k u rs
