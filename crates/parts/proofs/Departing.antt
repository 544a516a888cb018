-- The store and the list in order of arrival hold the same of each table when stale records leave. Assumes nothing.
use mathlib.Core.Path.{◌≡◌, sym, ap, subst, ◌∙◌}
use mathlib.Core.List.{List, ◌++◌}
use Prim.Native.Nat.{ℕ, ◌+◌, ◌-◌, ◌<◌, ◌≤◌}
use native.Mathlib.Omega.{arith}
use native.Mathlib.Decide.{dec_le}
use lib.Dec.{eqb}
use lib.ListN.{length, get_or, take, drop, length-append, length-drop}
use lib.Seq.{length-take-le}
use borrow.Author.Tests.{eqb-true}
use Rattle.std.proofs.lemmas.Bool.{and_parts}
use Rattle.sender.specs.Sender.{table_of_tag}
use Rattle.store.specs.Store.{Record}
use Rattle.shifting.specs.Shifting.{part}
use Rattle.shifting.proofs.Laying.{part_length}
use Rattle.shifting.proofs.Whole.{whole_mono, whole_below}
use Rattle.shifting.proofs.Places.{from_before, from_behind}
use Rattle.parts.specs.Parts.{Rows, begin, end, gone, dropped, left}
use Rattle.parts.specs.Laws.{Sound, listed, stale, without}
use Rattle.parts.specs.Arrival.{of_table, Arrived, leaves, Went}
use Rattle.parts.proofs.Keeping.{fits_of, counts}
use Rattle.parts.proofs.Listing.{length_listed}
use Rattle.parts.proofs.Laws.{leave}
use Rattle.parts.proofs.Without.{without_twice, without_both, without_count}
use Rattle.parts.proofs.Parting.{part_earlier, part_left_over, part_later}
use Rattle.parts.proofs.Tables.{other, is_other}

module _ (m : Rows) (n t at_ms : ℕ) (rs : List Record) (g : Arrived m n rs) (h : t < 64) where
  abbrev S : Rows
  S = dropped m n t at_ms

  abbrev D : ℕ
  D = length (gone m t at_ms)

  abbrev q : Sound m n
  q = g.well.sound

  abbrev L' : List Record
  L' = listed m n

  abbrev K : List Record
  K = without (stale at_ms) (part L' (begin m t) (end m t))

  abbrev rs' : List Record
  rs' = without (leaves t at_ms) rs

  few : D ≤ end m t - begin m t
  few = omega (arith, counts m n t at_ms (fits_of m n q) h)

  below : end m t ≤ n
  below = whole_below m.offsets n q.whole (t + 1) (omega arith)

  up : begin m t ≤ end m t
  up = q.whole.rises t h

  kept_where : (v : ℕ) → v ≤ t → get_or S.offsets v 0 ≡ get_or m.offsets v 0
  unfolding dropped
  kept_where v a = from_before (λ (o : ℕ). o - D) m.offsets (t + 1) v (omega (arith, q.offsets)) (omega arith)

  down_by : (v : ℕ) → t < v → v ≤ 64 → get_or S.offsets v 0 ≡ get_or m.offsets v 0 - D
  unfolding dropped
  down_by v a b = from_behind (λ (o : ℕ). o - D) m.offsets (t + 1) v (omega arith) (omega (arith, q.offsets))

  abbrev Z : List Record
  Z = (take (begin m t) L' ++ K) ++ drop (end m t) L'

  list : listed S (n - D) ≡ Z
  unfolding part
  list = (leave m n t at_ms q h).list

  many : length K + D ≡ end m t - begin m t
  many =
      let a = up in
      let b = below in
      let c = few in
      omega (
        arith,
        ap length list,
        length_listed S (n - D),
        length-append (take (begin m t) L' ++ K) (drop (end m t) L'),
        length-append (take (begin m t) L') K,
        length-take-le (begin m t) L' (omega (arith, length_listed m n)),
        length-drop (end m t) L',
        length_listed m n,
      )

  others_of : (v : ℕ) → (t ≡ v → ⊥) → of_table v rs' ≡ of_table v rs
  unfolding of_table leaves
  others_of v f = without_twice (other v) (leaves t at_ms) (λ r e.
      let z = eqb-true (table_of_tag r.tag) t ((and_parts (eqb (table_of_tag r.tag) t) (stale at_ms r) e).0) in
      is_other v r (λ y. f (sym z ∙ y))) rs

  own_of : of_table t rs' ≡ without (stale at_ms) (of_table t rs)
  unfolding of_table leaves
  own_of = without_both (λ (r : Record). eqb (table_of_tag r.tag) t) (stale at_ms) rs

  own_count : length rs' + length (of_table t rs) ≡ length rs + length (without (stale at_ms) (of_table t rs))
  unfolding of_table leaves
  own_count = without_count (λ (r : Record). eqb (table_of_tag r.tag) t) (stale at_ms) rs

  part_is : (v : ℕ) → v < 64 → part L' (begin m v) (end m v) ≡ of_table v rs
  unfolding part
  part_is v b = g.parts v b

  left_count : length rs' ≡ n - D
  left_count =
      let e = part_is t h in
      let a = up in
      let b = below in
      omega (arith, own_count, sym (ap length e), part_length L' (begin m t) (end m t) (omega (arith, length_listed m n)), ap (λ (l : List Record). length (without (stale at_ms) l)) e, many, g.count)

  left_parts : (v : ℕ) → v < 64 → part Z (begin S v) (end S v) ≡ of_table v rs'
  left_parts v b =
      let high : end m t ≤ length L' = omega (arith, below, length_listed m n) in
      elim (dec_le v t) [
        | no u ↦ ap (λ (k : ℕ). part Z k (end S v)) (down_by v (omega arith) (omega arith)) ∙ ap (part Z (begin m v - D)) (down_by (v + 1) (omega arith) (omega arith))
            ∙ part_later L' K (begin m t) (end m t) D up high many (begin m v) (end m v) (whole_mono m.offsets n q.whole (t + 1) v (omega arith) (omega arith)) (q.whole.rises v b)
            ∙ part_is v b ∙ sym (others_of v (λ e. absurd (omega arith)))
        | yes u ↦ elim (dec_le t v) [
          | yes w ↦ (let e : t ≡ v = omega arith in subst (λ (v : ℕ). part Z (begin S v) (end S v) ≡ of_table v rs') e
              (ap (λ (k : ℕ). part Z k (end S t)) (kept_where t (omega arith)) ∙ ap (part Z (begin m t)) (down_by (t + 1) (omega arith) (omega arith))
              ∙ part_left_over L' K (begin m t) (end m t) D up high many ∙ ap (without (stale at_ms)) (part_is t h) ∙ sym own_of))
          | no w ↦ ap (λ (k : ℕ). part Z k (end S v)) (kept_where v u) ∙ ap (part Z (begin m v)) (kept_where (v + 1) (omega arith))
              ∙ part_earlier L' K (begin m t) (end m t) D up high many (begin m v) (end m v) (q.whole.rises v b) (whole_mono m.offsets n q.whole (v + 1) t (omega arith) (omega arith))
              ∙ part_is v b ∙ sym (others_of v (λ e. absurd (omega arith)))
        ]
      ]

  pub left_arrived : Arrived S (left m n t at_ms) rs'
  unfolding part
  left_arrived = record {
    well = (leave m n t at_ms q h).well g.well.homed;
    count = left_count;
    parts = λ v b. ap (λ (l : List Record). part l (begin S v) (end S v)) list ∙ left_parts v b;
  }

pub went : Went
went m n t at_ms rs g h = left_arrived m n t at_ms rs g h
