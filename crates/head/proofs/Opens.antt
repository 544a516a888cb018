-- A start from its parts: what it makes of head, offsets, free slots and histogram. Assumes nothing.
use mathlib.Core.Path.{◌≡◌}
use mathlib.Core.Bool.{◌&&◌}
use mathlib.Core.List.{List}
use Prim.Native.Nat.{ℕ, ◌≤◌}
use native.Mathlib.Omega.{arith}
use lib.Dec.{eqb, ltb}
use lib.Ieee.{Float}
use lib.ListN.{length}
use borrow.Author.Tests.{eqb-true, ltb-false}
use Rattle.std.proofs.Common.{Ok}
use Rattle.std.proofs.lemmas.Bool.{and_parts}
use Rattle.store.specs.declared.lent.Sizes.{Sizes}
use Rattle.store.specs.Store.{rows}
use Rattle.shifting.specs.Shifting.{down}
use Rattle.parts.specs.Parts.{none_begun, started}
use Rattle.wants.specs.Wants.{Hist}
use Rattle.head.specs.declared.Shedder.{Shedder}
use Rattle.head.specs.Questions.{rates_whole, tags_whole, slots_whole, sizes_whole, rooms_whole, start_asked}
use Rattle.head.specs.Start.{start_ends}
use Rattle.head.proofs.Tests.{zero_yes, no_yes}

-- the free slots are no more than the units tracked at most
pub free_few : (rate : List ℕ) (s : Sizes) → start_asked rate s ≡ 0 → s.free ≤ 131072
unfolding start_asked sizes_whole slots_whole rooms_whole
free_few rate s e =
    let a = zero_yes (rates_whole rate) _ 0 e in
    let b = zero_yes (sizes_whole s) _ 1 a.1 in
    let c = and_parts (tags_whole s) (slots_whole s && rooms_whole s.units s.counted 0 0) b.0 in
    let d = and_parts (slots_whole s) (rooms_whole s.units s.counted 0 0) c.1 in
    let f = and_parts (eqb s.slots s.units) (eqb s.free s.units && eqb s.uses s.units) d.0 in
    let g = and_parts (eqb s.free s.units) (eqb s.uses s.units) f.1 in
    let x = no_yes (ltb s.units 1) _ d.1 in
    let y = no_yes (ltb 131072 s.units) _ x.1 in
    omega (arith, eqb-true s.free s.units g.0, ltb-false 131072 s.units y.0)

-- the whole of it
pub begun_is : (tags slots os fs : List ℕ) (units : List (List ℕ)) (uses : List (List Float)) (f os' : List ℕ) (h : Shedder) (g : Hist) {h' : Shedder} {g' : Hist} → os ≡ none_begun → fs ≡ down (length f) → h ≡ h' → g ≡ g'
    → start_ends (Ok tt) h (rows tags slots os fs units uses) g ≡ start_ends (Ok tt) h' (started (rows tags slots os' f units uses)) g'
unfolding started
begun_is tags slots os fs units uses f os' h g p q r s = cc
