-- The record that a call uses: found, added, or overflow's; read and put back. Definitions only.
-- Definitions are shut (`unfoldable`): a proof opens the one that it is about.
use Rattle.std.specs.Prelude.{ℕ, ◌+◌, cond, ltb, length, unwrap_or}
use Rattle.flow.specs.Flow as flow
use Rattle.flow.specs.declared.Use.{Use}
use Rattle.sender.specs.declared.Unit as unit
use Rattle.sender.specs.declared.Name.{Name}
use Rattle.sender.specs.Sender.{name_of, is_overflow, table_of_tag}
use Rattle.parts.specs.Parts.{Rows, end, find, added, use_of, put}
use Rattle.store_entry.specs.declared.Place as code

-- where a unit's record is, the room for overflow's; and how many there are then
pub record Place : Type 0 where
  pub at : ℕ
  pub tracked : ℕ

-- a place, and the rows
pub record Entered : Type 0 where
  pub place : Place
  pub rows : Rows

abbrev pub entered : Place → Rows → Entered
entered p m = record { place = p; rows = m }

abbrev pub place : ℕ → ℕ → Place
place i n = record { at = i; tracked = n }

-- the code's place, whose none is the room
abbrev pub placed : ℕ → code.Place → Place
placed room p = place (unwrap_or p.at room) p.tracked

-- where the unit's record is, the room where it has none
abbrev pub found_at : Rows → ℕ → Name → ℕ
found_at m room name = unwrap_or (find m name) room

-- the unit's record; a new one, stamped clock, at the end of its table's part where there is room; else overflow's, whose place is the room
unfoldable pub entry : Rows → ℕ → ℕ → unit.Unit → ℕ → Entered
entry m tracked room u clock =
    cond (is_overflow u) (entered (place room tracked) m)
    (cond (ltb (found_at m room (name_of u)) room) (entered (place (found_at m room (name_of u)) tracked) m)
    (cond (ltb tracked room) (entered (place (end m (table_of_tag (name_of u).tag)) (tracked + 1)) (added m tracked (name_of u) (flow.added clock)))
    (entered (place room tracked) m)))

-- the use at a place: a record's, or overflow's
unfoldable pub used_at : Rows → Use → ℕ → Use
used_at m overflow i = cond (ltb i (length m.units)) (use_of m i) overflow

-- overflow's use, and the rows, once a use was put back
pub record Back : Type 0 where
  pub overflow : Use
  pub rows : Rows

abbrev pub back : Use → Rows → Back
back o m = record { overflow = o; rows = m }

unfoldable pub put_back : Rows → Use → ℕ → Use → Back
put_back m overflow i u = cond (ltb i (length m.units)) (back overflow (put m i u)) (back u m)
