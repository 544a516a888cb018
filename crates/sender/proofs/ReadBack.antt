-- A unit's record reads as the unit, and what reads as a unit that is not overflow is its record. Assumes nothing.
use mathlib.Core.Path.{◌≡◌, refl, sym, ap, ◌∙◌}
use mathlib.Core.Bool.{Bool, true, false, cond, true≢false}
use Rattle.sender.specs.Sender.{Ranged, unit_of, name_of, name_by_hash, is_overflow, same_name, reads}
use Rattle.sender.specs.declared.Unit.{Unit}
use Rattle.sender.specs.declared.Unit.TheVariants.{Overflow}
use Rattle.sender.specs.declared.Name.{Name}
use Rattle.sender.proofs.Naming.{unit_back}
use Rattle.sender.proofs.SameNames.{names_same, names_self}

pub read_own : (u : Unit) → Ranged u → reads (name_of u) ≡ u
unfolding reads name_by_hash
read_own u h = rw (unit_back u h) (simp (names_self (name_of u)))

-- a record whose name is not that of the unit by its words reads as overflow
read_by : (n : Name) (b : Bool) → same_name (name_of (unit_of n.words)) n ≡ b → reads n ≡ cond b (unit_of n.words) Overflow
unfolding reads
read_by n b e = ap (λ (c : Bool). cond c (unit_of n.words) Overflow) e

overflow_read : (u : Unit) → is_overflow u ≡ false → Overflow ≡ u → ⊥
unfolding is_overflow
overflow_read u o e = true≢false (ap is_overflow e ∙ o)

pub read_only : (u : Unit) (n : Name) → is_overflow u ≡ false → reads n ≡ u → n ≡ name_of u
read_only u n o e = go (same_name (name_of (unit_of n.words)) n) refl
  where
    go : (b : Bool) → same_name (name_of (unit_of n.words)) n ≡ b → n ≡ name_of u
    go true q = sym (names_same (name_of (unit_of n.words)) n q) ∙ ap name_of (sym (read_by n true q) ∙ e)
    go false q = absurd (overflow_read u o (sym (read_by n false q) ∙ e))
