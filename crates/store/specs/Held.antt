-- Rows as lent slices: the lists that they hold, their sizes, and that the slices are the same ones. Definitions only.
use Rattle.std.specs.Prelude.{ℕ, List, ◌≡◌, length}
use Rattle.store.specs.Store.{Rows, rows}
use Rattle.store.specs.declared.lent.Lent.{Lent}
use Rattle.store.specs.declared.lent.LentRead.{LentRead}
use Rattle.store.specs.declared.lent.Sizes.{Sizes}
use Rattle.store.specs.declared.lent_start.LentStart.{LentStart}

abbrev pub sizes : ℕ → ℕ → ℕ → ℕ → ℕ → ℕ → Sizes
sizes tags slots free units uses counted = record { tags = tags; slots = slots; free = free; units = units; uses = uses; counted = counted }

-- of the unit records' lists and of the counted rows. There are always as many offsets
abbrev pub sizes_of : Rows → List (List ℕ) → Sizes
sizes_of m counted = sizes (length m.tags) (length m.slots) (length m.free) (length m.units) (length m.uses) (length counted)

abbrev pub lent_rows : Lent → Rows
lent_rows l = rows l.tags.now l.slots.now l.offsets.now l.free.now l.units.now l.uses.now

abbrev pub lent_sizes : Lent → Sizes
lent_sizes l = sizes_of (lent_rows l) l.counted.now

abbrev pub read_rows : LentRead → Rows
read_rows l = rows l.tags.now l.slots.now l.offsets.now l.free.now l.units.now l.uses.now

abbrev pub read_sizes : LentRead → Sizes
read_sizes l = sizes_of (read_rows l) l.counted.now

abbrev pub start_rows : LentStart → Rows
start_rows l = rows l.tags.now l.slots.now l.offsets.now l.free.now l.units.now l.uses.now

abbrev pub start_sizes : LentStart → Sizes
start_sizes l = sizes_of (start_rows l) l.counted.now

-- the same slices, as long as they were
pub record SameLent (was is : Lent) : Type 0 where
  pub tags_name : is.tags.ghost_name ≡ was.tags.ghost_name
  pub slots_name : is.slots.ghost_name ≡ was.slots.ghost_name
  pub offsets_name : is.offsets.ghost_name ≡ was.offsets.ghost_name
  pub free_name : is.free.ghost_name ≡ was.free.ghost_name
  pub units_name : is.units.ghost_name ≡ was.units.ghost_name
  pub uses_name : is.uses.ghost_name ≡ was.uses.ghost_name
  pub counted_name : is.counted.ghost_name ≡ was.counted.ghost_name
  pub sizes_same : lent_sizes is ≡ lent_sizes was

-- the same slices lent to a start: those that it reads, and those that it writes, as long as they were
pub record SameStart (was is : LentStart) : Type 0 where
  pub tags_same : is.tags ≡ was.tags
  pub slots_same : is.slots ≡ was.slots
  pub units_same : is.units ≡ was.units
  pub uses_same : is.uses ≡ was.uses
  pub counted_same : is.counted ≡ was.counted
  pub offsets_name : is.offsets.ghost_name ≡ was.offsets.ghost_name
  pub free_name : is.free.ghost_name ≡ was.free.ghost_name
  pub sizes_same : start_sizes is ≡ start_sizes was
