-- A whole head as facts, both ways. Assumes nothing.
use mathlib.Core.Path.{◌≡◌}
use mathlib.Core.Bool.{true, ◌&&◌}
use mathlib.Core.Logic.{⊎_elim}
use Prim.Native.Nat.{ℕ, ◌+◌, ◌≤◌, ◌<◌}
use native.Mathlib.Omega.{arith}
use lib.Dec.{eqb, leb, ltb}
use borrow.Author.Tests.{ltb-true, ltb-false, eqb-true, eq-eqb, lt-ltb, le-ltb, le-leb}
use Rattle.head.specs.declared.Shedder.{Shedder}
use Rattle.head.specs.Questions.{rates_whole, is_stamp, tables_whole, rooms_whole, stamps_whole, head_whole}
use Rattle.std.proofs.lemmas.Bool.{and_parts}
use Rattle.head.proofs.Tests.{no_yes, one_of, both, no_then, first_yes}

-- ---- each question's part
pub stamp_of : (t : ℕ) → is_stamp t ≡ true → t < 9007199254740992
unfolding is_stamp
stamp_of t e = ltb-true t 9007199254740992 e

pub stamp_is : (t : ℕ) → t < 9007199254740992 → is_stamp t ≡ true
unfolding is_stamp
stamp_is t p = lt-ltb t 9007199254740992 p

pub tables-is : (r n : ℕ) → r + n ≡ 64 → tables_whole r n ≡ true
unfolding tables_whole
tables-is r n e = both (leb r 64) _ (le-leb r 64 (omega (arith, e))) (both (leb n 64) _ (le-leb n 64 (omega (arith, e))) (first_yes (eqb (r + n) 64) _ (eq-eqb (r + n) 64 e)))

pub tables_sum : (r n : ℕ) → tables_whole r n ≡ true → 1 ≤ r → r + n ≡ 64
unfolding tables_whole
tables_sum r n e p =
    let x = and_parts (leb r 64) _ e in
    let y = and_parts (leb n 64) _ x.1 in
    ⊎_elim (λ (q : eqb (r + n) 64 ≡ true). eqb-true (r + n) 64 q) (λ (q : eqb (r + n) 0 ≡ true). omega (arith, eqb-true (r + n) 0 q)) (one_of (eqb (r + n) 64) _ y.1)

rooms_is : (u c t k : ℕ) → 1 ≤ u → u ≤ 131072 → 2 ≤ c → c ≤ 4097 → t ≤ u → k < c → rooms_whole u c t k ≡ true
unfolding rooms_whole
rooms_is u c t k p1 p2 p3 p4 p5 p6 =
    no_then (ltb u 1) _ (le-ltb u 1 p1) (no_then (ltb 131072 u) _ (le-ltb 131072 u p2) (no_then (ltb c 2) _ (le-ltb c 2 p3)
    (no_then (ltb 4097 c) _ (le-ltb 4097 c p4) (no_then (ltb u t) _ (le-ltb u t p5) (lt-ltb k c p6)))))

-- ---- a whole head
module _ (h : Shedder) where
  pub record Whole : Type 0 where
    pub rates : rates_whole h.flow.rate ≡ true
    pub clock : h.flow.at_ms < 9007199254740992
    pub at : h.scan.at_ms < 9007199254740992
    pub began : h.scan.began_ms < 9007199254740992
    pub read : h.scan.read_ms < 9007199254740992
    pub tables : tables_whole h.scan.remaining h.scan.next ≡ true
    pub units_least : 1 ≤ h.unit_room
    pub units_most : h.unit_room ≤ 131072
    pub counted_least : 2 ≤ h.counted_room
    pub counted_most : h.counted_room ≤ 4097
    pub tracked_held : h.tracked ≤ h.unit_room
    pub counted_held : h.counted < h.counted_room

  pub whole_of : head_whole h ≡ true → Whole
  unfolding head_whole stamps_whole rooms_whole
  whole_of e =
      let x = and_parts (rates_whole h.flow.rate && stamps_whole h.flow.at_ms h.scan.at_ms h.scan.began_ms h.scan.read_ms) (tables_whole h.scan.remaining h.scan.next && rooms_whole h.unit_room h.counted_room h.tracked h.counted) e in
      let y = and_parts (rates_whole h.flow.rate) (stamps_whole h.flow.at_ms h.scan.at_ms h.scan.began_ms h.scan.read_ms) x.0 in
      let z = and_parts (tables_whole h.scan.remaining h.scan.next) (rooms_whole h.unit_room h.counted_room h.tracked h.counted) x.1 in
      let s = and_parts (is_stamp h.flow.at_ms && is_stamp h.scan.at_ms) (is_stamp h.scan.began_ms && is_stamp h.scan.read_ms) y.1 in
      let s1 = and_parts (is_stamp h.flow.at_ms) (is_stamp h.scan.at_ms) s.0 in
      let s2 = and_parts (is_stamp h.scan.began_ms) (is_stamp h.scan.read_ms) s.1 in
      let a = no_yes (ltb h.unit_room 1) _ z.1 in
      let b = no_yes (ltb 131072 h.unit_room) _ a.1 in
      let d = no_yes (ltb h.counted_room 2) _ b.1 in
      let f = no_yes (ltb 4097 h.counted_room) _ d.1 in
      let g = no_yes (ltb h.unit_room h.tracked) _ f.1 in
      record {
        rates = y.0;
        clock = stamp_of h.flow.at_ms s1.0;
        at = stamp_of h.scan.at_ms s1.1;
        began = stamp_of h.scan.began_ms s2.0;
        read = stamp_of h.scan.read_ms s2.1;
        tables = z.0;
        units_least = ltb-false h.unit_room 1 a.0;
        units_most = ltb-false 131072 h.unit_room b.0;
        counted_least = ltb-false h.counted_room 2 d.0;
        counted_most = ltb-false 4097 h.counted_room f.0;
        tracked_held = ltb-false h.unit_room h.tracked g.0;
        counted_held = ltb-true h.counted h.counted_room g.1;
      }

  pub whole_is : Whole → head_whole h ≡ true
  unfolding head_whole stamps_whole
  whole_is w =
      both (rates_whole h.flow.rate && stamps_whole h.flow.at_ms h.scan.at_ms h.scan.began_ms h.scan.read_ms) (tables_whole h.scan.remaining h.scan.next && rooms_whole h.unit_room h.counted_room h.tracked h.counted)
      (both (rates_whole h.flow.rate) (stamps_whole h.flow.at_ms h.scan.at_ms h.scan.began_ms h.scan.read_ms) w.rates
      (both (is_stamp h.flow.at_ms && is_stamp h.scan.at_ms) (is_stamp h.scan.began_ms && is_stamp h.scan.read_ms)
      (both (is_stamp h.flow.at_ms) (is_stamp h.scan.at_ms) (stamp_is h.flow.at_ms w.clock) (stamp_is h.scan.at_ms w.at))
      (both (is_stamp h.scan.began_ms) (is_stamp h.scan.read_ms) (stamp_is h.scan.began_ms w.began) (stamp_is h.scan.read_ms w.read))))
      (both (tables_whole h.scan.remaining h.scan.next) (rooms_whole h.unit_room h.counted_room h.tracked h.counted) w.tables
      (rooms_is h.unit_room h.counted_room h.tracked h.counted w.units_least w.units_most w.counted_least w.counted_most w.tracked_held w.counted_held))
