-- A cut from its parts. Assumes nothing.
use mathlib.Core.Path.{◌≡◌, ap, ◌∙◌}
use mathlib.Core.List.{List}
use Prim.Native.Nat.{ℕ}
use lib.ListN.{get_or}
use Rattle.sender.specs.declared.Unit.{Unit}
use Rattle.sender.specs.declared.Name.{Name}
use Rattle.sender.specs.Sender.{name_of}
use Rattle.store.specs.Store.{Rows, with_tags}
use Rattle.head.specs.declared.Shedder.{Shedder}
use Rattle.store.specs.declared.Cause.{Cause}
use Rattle.head.specs.Readings.{index_of}
use Rattle.cut_counts.specs.Counting.{Tally, tally, tallied}
use Rattle.cut.specs.declared.Cutting.{Cutting}
use Rattle.cut.specs.Cutting.{KeptBy, kept_by, cut_ends, cut_noted, cut_after, noting, noted_as, noted}

-- a cut counted under the unit named
pub cut_is : (s : KeptBy) (k : List (List ℕ)) (u : Unit) (c : Cause) (cost : List ℕ) (h1 : Shedder) (m1 : Rows) (n : Name)
    (r : Cutting) (i2 : List ℕ) (k1 : List (List ℕ))
    → kept_by h1 m1 ≡ s
    → n ≡ name_of u
    → noting r i2 k1 ≡ noted (tally h1 m1.tags k) n c cost
    → cut_ends r.answer r.head (with_tags m1 i2) k1 ≡ cut_after k u c cost s
cut_is s k u c cost h1 m1 n r i2 k1 eS eN eR =
    ap (cut_noted m1) (eR ∙ ap (λ (n : Name). noted (tally h1 m1.tags k) n c cost) eN) ∙ ap (cut_after k u c cost) eS

pub noted_is : (t0 : Tally) (n : Name) (c : Cause) (cost : List ℕ) (i : ℕ) (t : Shedder) (i1 : List ℕ) (k1 : List (List ℕ))
    → i ≡ index_of c
    → tally t i1 k1 ≡ tallied t0 n i (get_or cost 0 0)
    → noted_as (tally t i1 k1) ≡ noted t0 n c cost
unfolding noted
noted_is t0 n c cost i t i1 k1 eI eT = ap noted_as (eT ∙ ap (λ (i : ℕ). tallied t0 n i (get_or cost 0 0)) eI)
