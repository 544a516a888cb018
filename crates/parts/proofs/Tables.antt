-- Records told apart by their tables. Assumes nothing.
use mathlib.Core.Path.{◌≡◌, refl, ap}
use mathlib.Core.Bool.{Bool, true, false, not}
use Prim.Native.Nat.{ℕ}
use lib.Dec.{eqb}
use borrow.Author.Tests.{eq-eqb, ne_eqb, eqb-true}
use Rattle.sender.specs.Sender.{table_of_tag}
use Rattle.store.specs.Store.{Record}

-- the test of a record that is of another table
abbrev pub other : ℕ → Record → Bool
other v r = not (eqb (table_of_tag r.tag) v)

pub is_other : (v : ℕ) (r : Record) → (table_of_tag r.tag ≡ v → ⊥) → other v r ≡ true
is_other v r f = ap not (ne_eqb (table_of_tag r.tag) v f)

pub not_other : (v : ℕ) (r : Record) → table_of_tag r.tag ≡ v → other v r ≡ false
not_other v r e = ap not (eq-eqb (table_of_tag r.tag) v e)

pub of_other : (v : ℕ) (r : Record) → other v r ≡ false → table_of_tag r.tag ≡ v
of_other v r e = by (eqb (table_of_tag r.tag) v) refl e
  where
    by : (b : Bool) → eqb (table_of_tag r.tag) v ≡ b → not b ≡ false → table_of_tag r.tag ≡ v
    by true f g = eqb-true (table_of_tag r.tag) v f
    by false f g = absurd (cc)
