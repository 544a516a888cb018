-- The two rows of the index as lent slices: that they are the same ones, and what a pass leaves of them. Definitions only.
use Rattle.std.specs.Prelude.{ℕ, ◌-◌, ◌≡◌, length}
use Rattle.parts.specs.Parts.{Rows, Sifting, sifted}
use Rattle.parts.specs.declared.copies.Index.{Index}

-- the same slices, as long as they were
pub record SameIndex {L : Type 0} (was is : Index L) : Type 0 where
  pub tags_name : is.tags.ghost_name ≡ was.tags.ghost_name
  pub slots_name : is.slots.ghost_name ≡ was.slots.ghost_name
  pub copies_name : is.copies.ghost_name ≡ was.copies.ghost_name
  pub tags_length : length is.tags.now ≡ length was.tags.now
  pub slots_length : length is.slots.now ≡ length was.slots.now

-- the pass over the entries from `from` to `to`, of n
abbrev pub passed : Rows → ℕ → ℕ → ℕ → ℕ → Sifting
passed m from to n at_ms = sifted m.tags m.slots m.free m.units from to (length m.units - n) at_ms
