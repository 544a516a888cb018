-- Which record `entry` gives: a unit just found or just added is in its record, whatever bits the records hold, and the place is overflow's in no other case
-- than these two: the unit is overflow, or its table's part has no record of it and there is no room. Of a unit that is not overflow, that a record has its
-- name is that it reads as the unit (sender's law Reads). Statements only; proofs/Own proves them.
use Rattle.std.specs.Prelude.{ℕ, ◌+◌, ◌<◌, ◌≤◌, ◌≡◌, true, false, [], length, get_or}
use Rattle.sender.specs.declared.Unit.{Unit}
use Rattle.sender.specs.declared.Name.{Name}
use Rattle.sender.specs.Sender.{name_of, is_overflow, table_of_tag}
use Rattle.shifting.specs.Offsets.{Whole}
use Rattle.store.specs.Store.{words_at}
use Rattle.parts.specs.Parts.{Rows, begin, end, slot_of, slot_at, top}
use Rattle.parts.specs.Held.{Sized}
use Rattle.parts.specs.Laws.{Sound, Homed, record_at, entry_at}
use Rattle.store_entry.specs.Entering.{Entered, entered, place, entry}

-- the name that the record of the entry at i holds
abbrev pub name_at : Rows → ℕ → Name
name_at m i = record { tag = get_or m.tags i 0; words = words_at m.units (slot_at m i) }

-- the table of a unit's tag
abbrev pub table_of : Unit → ℕ
table_of u = table_of_tag (name_of u).tag

-- the record at i is in the part of the unit's table and has its name
pub record At (m : Rows) (u : Unit) (i : ℕ) : Type 0 where
  pub low : begin m (table_of u) ≤ i
  pub high : i < end m (table_of u)
  pub named : name_at m i ≡ name_of u

-- one record has
pub record Has (m : Rows) (u : Unit) : Type 0 where
  pub at : ℕ
  pub is : At m u at

-- the lists are as long as the room, and the parts hold so many records
pub record Fits (m : Rows) (tracked room : ℕ) : Type 0 where
  pub sized : Sized m
  pub units : length m.units ≡ room
  pub whole : Whole m.offsets tracked
  pub used : tracked ≤ room

-- found: the first record of the part of its table that has the unit's name, and the first of all where each part has only its own table's; nothing
-- is written
pub record Found (m : Rows) (tracked : ℕ) (u : Unit) (e : Entered) : Type 0 where
  pub is : At m u e.place.at
  pub first : (j : ℕ) → j < e.place.at → At m u j → ⊥
  pub of_all : Homed m → (j : ℕ) → j < e.place.at → name_at m j ≡ name_of u → ⊥
  pub kept : e ≡ entered (place e.place.at tracked) m

-- the entry at i stands at j then, and where each slot is named once its record is as it was
pub record Stays (m m1 : Rows) (n i j : ℕ) : Type 0 where
  pub tag : get_or m1.tags j 0 ≡ get_or m.tags i 0
  pub slot : get_or m1.slots j 0 ≡ get_or m.slots i 0
  pub same : Sound m n → record_at m1 j ≡ record_at m i

-- the rows of a slot are as they were
abbrev pub SameRows : Rows → Rows → ℕ → Type 0
SameRows m m1 slot = (get_or m1.units slot [] ≡ get_or m.units slot []) × (get_or m1.uses slot [] ≡ get_or m.uses slot [])

-- added: a new record at the end of the part of its table, that has the unit's name. Every other stays: those before it in their places, those behind it
-- one place up. No rows are written but those of the slot that was taken next
pub record Added (m : Rows) (tracked : ℕ) (u : Unit) (e : Entered) : Type 0 where
  pub at_end : e.place ≡ place (end m (table_of u)) (tracked + 1)
  pub named : name_at e.rows e.place.at ≡ name_of u
  pub before : (j : ℕ) → j < e.place.at → Stays m e.rows tracked j j
  pub behind : (j : ℕ) → e.place.at ≤ j → j < tracked → Stays m e.rows tracked j (j + 1)
  pub rows : (slot : ℕ) → (slot ≡ slot_of (top m tracked) (length m.units) → ⊥) → SameRows m e.rows slot
  pub slot : slot_at e.rows e.place.at ≡ slot_of (top m tracked) (length m.units)
  -- the places of the index behind the new last entry are as they were
  pub beyond : (j : ℕ) → tracked < j → entry_at e.rows j ≡ entry_at m j

module _ (m : Rows) (tracked room : ℕ) (u : Unit) (clock : ℕ) where
  pub record Given : Type 0 where
    pub found : is_overflow u ≡ false → Has m u → Found m tracked u (entry m tracked room u clock)
    pub added : is_overflow u ≡ false → (Has m u → ⊥) → tracked < room → Added m tracked u (entry m tracked room u clock)
    -- where each part has only its own table's, one that has the unit's name is in the part
    pub anywhere : Homed m → (i : ℕ) → i < tracked → name_at m i ≡ name_of u → Has m u
    pub full : is_overflow u ≡ false → (Has m u → ⊥) → tracked ≡ room → entry m tracked room u clock ≡ entered (place room tracked) m
    pub shared : is_overflow u ≡ true → entry m tracked room u clock ≡ entered (place room tracked) m

abbrev pub Owns : Type 0
Owns = (m : Rows) (tracked room : ℕ) (u : Unit) (clock : ℕ) → Fits m tracked room → Given m tracked room u clock
