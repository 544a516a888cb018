-- The store and the list in order of arrival hold the same of each table at a start and when a record comes in. Assumes nothing.
use mathlib.Core.Path.{◌≡◌, refl, sym, ap, subst, ◌∙◌}
use mathlib.Core.List.{List, [], ◌∷◌, ◌++◌, append-nil}
use Prim.Native.Nat.{ℕ, zero, suc, ◌+◌, ◌-◌, ◌<◌, ◌≤◌}
use native.Mathlib.Omega.{arith}
use native.Mathlib.Decide.{dec_le}
use lib.ListN.{length, get_or, take, drop, length-append}
use Rattle.flow.specs.declared.Use.{Use}
use Rattle.sender.specs.declared.Name.{Name}
use Rattle.sender.specs.Sender.{table_of_tag}
use Rattle.store.specs.Store.{Record}
use Rattle.shifting.specs.Shifting.{part}
use Rattle.shifting.proofs.Whole.{whole_mono, whole_below}
use Rattle.shifting.proofs.Places.{from_before, from_behind}
use Rattle.parts.specs.Parts.{Rows, begin, end, added, started}
use Rattle.parts.specs.Laws.{Sound, listed, part_of, record_of, without}
use Rattle.parts.specs.Arrival.{of_table, Arrived, Begun, Came}
use Rattle.parts.proofs.Listing.{length_listed}
use Rattle.parts.proofs.Begun.{starts}
use Rattle.parts.proofs.Laws.{comes}
use Rattle.parts.proofs.Without.{without_append, without_out, without_in}
use Rattle.parts.proofs.Parting.{part_before, part_with, part_behind}
use Rattle.parts.proofs.Tables.{other, is_other, not_other}

-- ---- a start
nothing_of : (m : Rows) (v : ℕ) → part_of m 0 v ≡ of_table v []
unfolding listed of_table without
nothing_of m v = by (end m v - begin m v) (begin m v)
  where
    by : (i j : ℕ) → take {A = Record} i (drop j []) ≡ []
    by zero j = refl
    by (suc i) zero = refl
    by (suc i) (suc j) = refl

pub begun : Begun
begun m z = record { well = (starts m z).well; count = refl; parts = λ v h. nothing_of (started m) v }

-- ---- a record comes in
module _ (m : Rows) (n : ℕ) (name : Name) (x : Use) (rs : List Record) (g : Arrived m n rs) (l : n < length m.units) (h : table_of_tag name.tag < 64) where
  abbrev t : ℕ
  t = table_of_tag name.tag

  abbrev A : Rows
  A = added m n name x

  abbrev r : Record
  r = record_of name x

  abbrev s : Sound m n
  s = g.well.sound

  abbrev L : List Record
  L = listed m n

  -- up to its own table a part begins where it began, before that it ends where it ended
  as_it_was : (v : ℕ) → v ≤ t → get_or A.offsets v 0 ≡ get_or m.offsets v 0
  unfolding added
  as_it_was v a = from_before (λ (o : ℕ). o + 1) m.offsets (t + 1) v (omega (arith, s.offsets)) (omega arith)

  one_up : (v : ℕ) → t < v → v ≤ 64 → get_or A.offsets v 0 ≡ get_or m.offsets v 0 + 1
  unfolding added
  one_up v a b = from_behind (λ (o : ℕ). o + 1) m.offsets (t + 1) v (omega arith) (omega (arith, s.offsets))

  ends_low : end m t ≤ length L
  ends_low = omega (arith, length_listed m n, whole_below m.offsets n s.whole (t + 1) (omega arith))

  abbrev Y : List Record
  Y = take (end m t) L ++ (r ∷ drop (end m t) L)

  more_of : (v : ℕ) → of_table v (rs ++ (r ∷ [])) ≡ of_table v rs ++ of_table v (r ∷ [])
  unfolding of_table
  more_of v = without_append (other v) rs (r ∷ [])

  none_of : (v : ℕ) → (t ≡ v → ⊥) → of_table v (r ∷ []) ≡ []
  unfolding of_table
  none_of v f = without_out (other v) r (is_other v r f)

  one_of : (v : ℕ) → t ≡ v → of_table v (r ∷ []) ≡ r ∷ []
  unfolding of_table
  one_of v e = without_in (other v) r (not_other v r e)

  was_of : (v : ℕ) → v < 64 → part L (begin m v) (end m v) ≡ of_table v rs
  unfolding part
  was_of v b = g.parts v b

  as_before : (v : ℕ) → v < 64 → (t ≡ v → ⊥) → part L (begin m v) (end m v) ≡ of_table v (rs ++ (r ∷ []))
  as_before v b f = was_of v b ∙ sym (more_of v ∙ ap (λ (z : List Record). of_table v rs ++ z) (none_of v f) ∙ append-nil (of_table v rs))

  here : part Y (begin A t) (end A t) ≡ of_table t (rs ++ (r ∷ []))
  here =
      ap (λ (k : ℕ). part Y k (end A t)) (as_it_was t (omega arith)) ∙ ap (part Y (begin m t)) (one_up (t + 1) (omega arith) (omega arith))
      ∙ part_with L (end m t) r ends_low (begin m t) (s.whole.rises t h) ∙ ap (λ (z : List Record). z ++ (r ∷ [])) (was_of t h)
      ∙ sym (more_of t ∙ ap (λ (z : List Record). of_table t rs ++ z) (one_of t refl))

  came_parts : (v : ℕ) → v < 64 → part Y (begin A v) (end A v) ≡ of_table v (rs ++ (r ∷ []))
  came_parts v b = elim (dec_le v t) [
    | no u ↦ (let w = s.whole.rises v b in
        ap (λ (k : ℕ). part Y k (end A v)) (one_up v (omega arith) (omega arith)) ∙ ap (part Y (begin m v + 1)) (one_up (v + 1) (omega arith) (omega arith))
        ∙ part_behind L (end m t) r ends_low (begin m v) (end m v) (whole_mono m.offsets n s.whole (t + 1) v (omega arith) (omega arith)) w ∙ as_before v b (λ e. absurd (omega arith)))
    | yes u ↦ elim (dec_le t v) [
      | yes w ↦ (let e : t ≡ v = omega arith in subst (λ (v : ℕ). part Y (begin A v) (end A v) ≡ of_table v (rs ++ (r ∷ []))) e here)
      | no w ↦ (let z = s.whole.rises v b in
          ap (λ (k : ℕ). part Y k (end A v)) (as_it_was v u) ∙ ap (part Y (begin m v)) (as_it_was (v + 1) (omega arith))
          ∙ part_before L (end m t) r ends_low (begin m v) (end m v) z (whole_mono m.offsets n s.whole (v + 1) (t + 1) (omega arith) (omega arith)) ∙ as_before v b (λ e. absurd (omega arith)))
    ]
  ]

  pub added_arrived : Arrived A (n + 1) (rs ++ (r ∷ []))
  unfolding part
  added_arrived =
      let a = comes m n name x s l h in
      record {
        well = a.well g.well.homed;
        count = omega (arith, length-append rs (r ∷ []), g.count);
        parts = λ v b. ap (λ (l : List Record). part l (begin A v) (end A v)) a.list ∙ came_parts v b;
      }

pub came : Came
came m n name x rs g l h = added_arrived m n name x rs g l h
