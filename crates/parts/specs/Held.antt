-- The unit records as lent slices: the lists that they hold, their sizes, and that the slices are the same ones. Definitions only.
use Rattle.std.specs.Prelude.{◌<◌, ◌≤◌, ◌≡◌, length, get_or}
use Rattle.shifting.specs.Offsets.{Whole, «PARTS»}
use Rattle.parts.specs.Parts.{Rows, rows}
use Rattle.parts.specs.declared.Parts.{Parts}

-- the lent lists
abbrev pub held : Parts → Rows
held p = rows p.tags.now p.slots.now p.offsets.now p.free.now p.units.now p.uses.now

-- the same slices, as long as they were
pub record SameParts (was is : Parts) : Type 0 where
  pub tags_name : is.tags.ghost_name ≡ was.tags.ghost_name
  pub slots_name : is.slots.ghost_name ≡ was.slots.ghost_name
  pub offsets_name : is.offsets.ghost_name ≡ was.offsets.ghost_name
  pub free_name : is.free.ghost_name ≡ was.free.ghost_name
  pub units_name : is.units.ghost_name ≡ was.units.ghost_name
  pub uses_name : is.uses.ghost_name ≡ was.uses.ghost_name
  pub tags_length : length is.tags.now ≡ length was.tags.now
  pub slots_length : length is.slots.now ≡ length was.slots.now
  pub offsets_length : length is.offsets.now ≡ length was.offsets.now
  pub free_length : length is.free.now ≡ length was.free.now
  pub units_length : length is.units.now ≡ length was.units.now
  pub uses_length : length is.uses.now ≡ length was.uses.now

-- the same offsets and the same records in their slots
pub record SameRecords (was is : Parts) : Type 0 where
  pub offsets : is.offsets.now ≡ was.offsets.now
  pub units : is.units.now ≡ was.units.now
  pub uses : is.uses.now ≡ was.uses.now

-- there is a slot, and a place of the index, of the free slots and of both rows for each; behind the room the tags may go on
pub record Sized (m : Rows) : Type 0 where
  pub some : 0 < length m.units
  pub most : length m.units ≤ 131072
  pub tags : length m.units ≤ length m.tags
  pub slots : length m.slots ≡ length m.units
  pub free : length m.free ≡ length m.units
  pub uses : length m.uses ≡ length m.units

-- the parts lie one behind the other within the room
pub record Ready (m : Rows) : Type 0 where
  pub sized : Sized m
  pub whole : Whole m.offsets (get_or m.offsets «PARTS» 0)
  pub room : get_or m.offsets «PARTS» 0 ≤ length m.units
