-- What the questions show, once each is answered yes. Assumes nothing.
use mathlib.Core.Path.{◌≡◌}
use mathlib.Core.Bool.{true, ◌&&◌}
use mathlib.Core.Logic.{⊎_elim}
use mathlib.Core.List.{List}
use Prim.Native.Nat.{ℕ, ◌+◌, ◌≤◌}
use native.Mathlib.Omega.{arith}
use lib.Dec.{eqb, leb}
use borrow.Author.Tests.{eqb-true}
use Rattle.store.specs.declared.lent.Sizes.{Sizes}
use Rattle.head.specs.declared.Shedder.{Shedder}
use Rattle.head.specs.Questions.{is_stamp, tables_whole, head_whole, whole_with, tags_whole, slots_whole, memory_whole, costs_held, judge_asked, Ready, cut_asked, CutReady}
use Rattle.std.proofs.lemmas.Bool.{and_parts}
use Rattle.shifting.specs.Offsets.{Whole, is_whole}
use Rattle.shifting.proofs.Whole.{whole_true, true_whole}
use Rattle.store.specs.Store.{Rows}
use Rattle.store.specs.Held.{sizes_of}
use Rattle.parts.specs.Held.{Sized}
use Rattle.head.proofs.Tests.{zero_yes, one_of, both}
use Rattle.head.proofs.Whole.{stamp_of, whole_of}

tables_of : (r n : ℕ) → tables_whole r n ≡ true → r + n ≤ 64
unfolding tables_whole
tables_of r n e =
    let x = and_parts (leb r 64) _ e in
    let y = and_parts (leb n 64) _ x.1 in
    ⊎_elim (λ (p : eqb (r + n) 64 ≡ true). omega (arith, eqb-true (r + n) 64 p)) (λ (p : eqb (r + n) 0 ≡ true). omega (arith, eqb-true (r + n) 0 p)) (one_of (eqb (r + n) 64) _ y.1)

-- question 3 as facts
pub record WholeWith (h : Shedder) (os : List ℕ) : Type 0 where
  pub head : head_whole h ≡ true
  pub parts : Whole os h.tracked

pub with_of : (h : Shedder) (os : List ℕ) → whole_with h os ≡ true → WholeWith h os
unfolding whole_with
with_of h os e = let a = and_parts (head_whole h) (is_whole os h.tracked) e in record { head = a.0; parts = whole_true os h.tracked a.1 }

pub with_is : (h : Shedder) (os : List ℕ) → head_whole h ≡ true → Whole os h.tracked → whole_with h os ≡ true
unfolding whole_with
with_is h os e w = both (head_whole h) (is_whole os h.tracked) e (true_whole os h.tracked w)

module _ (h : Shedder) where
  module _ (s : Sizes) where
    -- question 4 as facts
    pub record MemoryWhole : Type 0 where
      pub tags : s.tags ≡ h.unit_room + s.counted
      pub slots : s.slots ≡ h.unit_room
      pub free : s.free ≡ h.unit_room
      pub units : s.units ≡ h.unit_room
      pub uses : s.uses ≡ h.unit_room
      pub counted : s.counted ≡ h.counted_room

    pub memory_of : memory_whole h s ≡ true → MemoryWhole
    unfolding memory_whole tags_whole slots_whole
    memory_of e =
        let a = and_parts (eqb s.tags (s.units + s.counted)) _ e in
        let b = and_parts (slots_whole s) (eqb s.units h.unit_room && eqb s.counted h.counted_room) a.1 in
        let d = and_parts (eqb s.units h.unit_room) _ b.1 in
        let f = and_parts (eqb s.slots s.units) (eqb s.free s.units && eqb s.uses s.units) b.0 in
        let g = and_parts (eqb s.free s.units) _ f.1 in
        let u = eqb-true s.units h.unit_room d.0 in
        record {
          tags = omega (arith, eqb-true s.tags (s.units + s.counted) a.0, u);
          slots = omega (arith, eqb-true s.slots s.units f.0, u);
          free = omega (arith, eqb-true s.free s.units g.0, u);
          units = u;
          uses = omega (arith, eqb-true s.uses s.units g.1, u);
          counted = eqb-true s.counted h.counted_room d.1;
        }

    module _ (os : List ℕ) where
      -- questions 3 and 4
      ready_of : whole_with h os ≡ true → memory_whole h s ≡ true → CutReady h s os
      ready_of e f =
          let m = memory_of f in
          let x = with_of h os e in
          let w = whole_of h x.head in
          record {
            some = w.units_least;
            most = w.units_most;
            tags_room = m.tags;
            slots_room = m.slots;
            free_room = m.free;
            units_room = m.units;
            uses_room = m.uses;
            tracked_held = w.tracked_held;
            counted_held = omega (arith, w.counted_held, m.counted);
            parts = x.parts;
          }

      pub asked_ready : (cost : List ℕ) (stamp : ℕ) → judge_asked h s os cost stamp ≡ 0 → Ready h s os stamp
      unfolding judge_asked
      asked_ready cost stamp e =
          let a = zero_yes (whole_with h os) _ 2 e in
          let b = zero_yes (memory_whole h s) _ 3 a.1 in
          let d = zero_yes (costs_held cost) _ 4 b.1 in
          let f = zero_yes (is_stamp stamp) _ 5 d.1 in
          let w = whole_of h (with_of h os a.0).head in
          record {
            cut = ready_of a.0 b.0;
            stamp_held = stamp_of stamp f.0;
            clock_held = w.clock;
            began_held = w.began;
            tables_held = tables_of h.scan.remaining h.scan.next w.tables;
          }

      pub cut_ready : (cost : List ℕ) → cut_asked h s os cost ≡ 0 → CutReady h s os
      unfolding cut_asked
      cut_ready cost e =
          let a = zero_yes (whole_with h os) _ 2 e in
          let b = zero_yes (memory_whole h s) _ 3 a.1 in
          ready_of a.0 b.0

-- what the questions show of the unit records' lists
pub sized_of : (h : Shedder) (m : Rows) (k : List (List ℕ)) → CutReady h (sizes_of m k) m.offsets → Sized m
sized_of h m k w = record {
  some = omega (arith, w.some, w.units_room);
  most = omega (arith, w.most, w.units_room);
  tags = omega (arith, w.tags_room, w.units_room);
  slots = omega (arith, w.slots_room, w.units_room);
  free = omega (arith, w.free_room, w.units_room);
  uses = omega (arith, w.uses_room, w.units_room);
}
