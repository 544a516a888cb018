-- A unit's words: two units with the same words are the same unit, and the unit of a unit's words is that unit.
use mathlib.Core.Path.{◌≡◌, refl, sym, ap, ◌∙◌}
use mathlib.Core.Bool.{cond}
use borrow.Author.Tests.{lt-ltb}
use lib.Dec.{eqb}
use Rattle.sender.specs.Sender.{Ranged, words_of, unit_of, name_by_hash, name_of}
use Rattle.sender.specs.declared.Group.TheVariants.{V4, V6}
use Rattle.sender.specs.declared.Unit as unit
use Rattle.sender.specs.declared.Unit.TheVariants.{Corroborated, Group as Grouped, NoAddress, Overflow}
use Rattle.sender.specs.declared.Words.{Words}
use Rattle.sender.specs.declared.Name.{Name}

-- by the kind alone
named : Words → unit.Unit
named w =
    cond (eqb w.kind 0) (Corroborated (record { a = w.a; b = w.b; c = w.c; d = w.d }))
    (cond (eqb w.kind 1) (Grouped (V4 w.a)) (cond (eqb w.kind 2) (Grouped (V6 w.a)) (cond (eqb w.kind 3) NoAddress Overflow)))

named_back : (u : unit.Unit) → named (words_of u) ≡ u
unfolding words_of named
named_back (Corroborated k) = refl
named_back (Grouped (V4 n)) = refl
named_back (Grouped (V6 n)) = refl
named_back NoAddress = refl
named_back Overflow = refl

pub words_injective : (u v : unit.Unit) → words_of u ≡ words_of v → u ≡ v
words_injective u v e = sym (named_back u) ∙ ap named e ∙ named_back v

pub name_injective : (u v : unit.Unit) → name_of u ≡ name_of v → u ≡ v
unfolding name_by_hash
name_injective u v e = words_injective u v (ap (λ (n : Name). n.words) e)

-- a unit whose number fits its group is read back from its words
pub unit_back : (u : unit.Unit) → Ranged u → unit_of (words_of u) ≡ u
unfolding words_of unit_of Ranged
unit_back (Corroborated k) h = refl
unit_back (Grouped (V4 n)) h = simp (lt-ltb n 65536 h)
unit_back (Grouped (V6 n)) h = simp (lt-ltb n 4294967296 h)
unit_back NoAddress h = refl
unit_back Overflow h = refl
