-- What a record reads as: a unit's own record as that unit, and no other record as a unit that is not overflow. Statements only; proofs/Reading proves them.
use Rattle.std.specs.Prelude.{◌≡◌, false}
use Rattle.sender.specs.declared.Unit.{Unit}
use Rattle.sender.specs.declared.Unit.TheVariants.{Overflow}
use Rattle.sender.specs.declared.Name.{Name}
use Rattle.sender.specs.Sender.{Ranged, name_of, is_overflow, reads}

pub record Reads : Type 0 where
  -- a unit's record reads as the unit
  pub own : (u : Unit) → Ranged u → reads (name_of u) ≡ u
  -- what reads as a unit that is not overflow has its tag and its words, all of them
  pub only : (u : Unit) (n : Name) → is_overflow u ≡ false → reads n ≡ u → n ≡ name_of u
  -- what is no unit's record reads as overflow
  pub rest : (n : Name) → ((u : Unit) → is_overflow u ≡ false → n ≡ name_of u → ⊥) → reads n ≡ Overflow
