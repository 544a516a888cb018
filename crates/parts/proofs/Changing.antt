-- The store and the list in order of arrival hold the same of each table when a use is put into a record. Assumes nothing.
use mathlib.Core.Path.{◌≡◌, refl, sym, ap, subst, ◌∙◌}
use mathlib.Core.Bool.{true, false}
use mathlib.Core.List.{List}
use Prim.Native.Nat.{ℕ, ◌+◌, ◌-◌, ◌<◌, ◌≤◌}
use native.Mathlib.Omega.{arith}
use native.Mathlib.Decide.{dec_le, ℕ_discrete}
use lib.ListN.{length, get_or, set, length-set}
use Rattle.flow.specs.declared.Use.{Use}
use Rattle.store.specs.Store.{Record}
use Rattle.shifting.specs.Shifting.{part}
use Rattle.shifting.proofs.Laying.{part_length}
use Rattle.shifting.proofs.Whole.{whole_mono, whole_below}
use Rattle.shifting.proofs.Places.{part_at}
use Rattle.parts.specs.Parts.{Rows, begin, end, put}
use Rattle.parts.specs.Laws.{Sound, record_at, listed, part_of, with_use, without}
use Rattle.parts.specs.Arrival.{of_table, Arrived, Changes, Changed}
use Rattle.parts.proofs.Listing.{length_listed, listed_at}
use Rattle.parts.proofs.Searching.{lies}
use Rattle.parts.proofs.Laws.{puts}
use Rattle.parts.proofs.Without.{without_same, Where, stood_where}
use Rattle.parts.proofs.Parting.{part_other, part_changed}
use Rattle.parts.proofs.Tables.{other, is_other, of_other}

module _ (m : Rows) (n k : ℕ) (x : Use) (rs : List Record) (g : Arrived m n rs) (l : k < n) where
  abbrev c : Sound m n
  c = g.well.sound

  abbrev old : Record
  old = record_at m k

  abbrev new : Record
  new = with_use (record_at m k) x

  same_table : (v : ℕ) → other v new ≡ other v old
  unfolding with_use
  same_table v = refl

  module _ (t : ℕ) (h : t < 64) (lo : begin m t ≤ k) (hi : k < end m t) where
    abbrev P : List Record
    P = part (listed m n) (begin m t) (end m t)

    fit : (v : ℕ) → v < 64 → end m v ≤ length (listed m n)
    fit v b = omega (arith, length_listed m n, whole_below m.offsets n c.whole (v + 1) (omega arith))

    is_part : (v : ℕ) → v < 64 → part (listed m n) (begin m v) (end m v) ≡ of_table v rs
    unfolding part
    is_part v b = g.parts v b

    in_part : without (other t) rs ≡ P
    unfolding of_table
    in_part = sym (is_part t h)

    found : Where old (other t) rs (k - begin m t)
    found = stood_where old (other t) rs (k - begin m t) (omega (arith, ap length in_part, part_length (listed m n) (begin m t) (end m t) (fit t h)))

    there : get_or rs found.at old ≡ old
    there =
        let z : begin m t + (k - begin m t) ≡ k = omega arith in
        found.same ∙ ap (λ (r : List Record). get_or r (k - begin m t) old) in_part ∙ part_at old (listed m n) (begin m t) (end m t) (k - begin m t) (omega arith)
        ∙ ap (λ (i : ℕ). get_or (listed m n) i old) z ∙ listed_at old m n k l

    of_it : other t old ≡ false
    of_it = sym (ap (other t) there) ∙ found.stays

    new_parts : (v : ℕ) → v < 64 → part (set (listed m n) k new) (begin m v) (end m v) ≡ of_table v (set rs found.at new)
    unfolding of_table
    new_parts v b = elim (ℕ_discrete v t) [
      | yes e ↦ subst (λ (v : ℕ). part (set (listed m n) k new) (begin m v) (end m v) ≡ without (other v) (set rs found.at new)) (sym e)
          (part_changed (listed m n) k new (begin m t) (end m t) (fit t h) lo hi ∙ ap (λ (r : List Record). set r (k - begin m t) new) (sym in_part) ∙ sym (found.changed new (same_table t ∙ of_it)))
      | no e ↦ (let y : other v old ≡ true = is_other v old (λ f. e (sym f ∙ of_other t old of_it)) in
          part_other (listed m n) k new (begin m v) (end m v) (fit v b) (apart v b e) ∙ is_part v b
          ∙ sym (without_same old (other v) rs found.at new found.below (ap (other v) there ∙ y) (same_table v ∙ y)))
    ]
      where
        apart : (v : ℕ) → v < 64 → (v ≡ t → ⊥) → begin m v ≤ k → k < end m v → ⊥
        apart v b e p q = elim (dec_le v t) [
          | yes u ↦ omega (arith, whole_mono m.offsets n c.whole (v + 1) t (omega arith) (omega arith))
          | no u ↦ omega (arith, whole_mono m.offsets n c.whole (t + 1) v (omega arith) (omega arith))
        ]

    put_arrived : Arrived (put m k x) n (set rs found.at new)
    put_arrived =
        let a = puts m n k x c l in
        record { well = a.well g.well.homed; count = length-set rs found.at new ∙ g.count; parts = λ v b. shown a.list v ∙ new_parts v b }
      where
        shown : listed (put m k x) n ≡ set (listed m n) k new → (v : ℕ) → part_of (put m k x) n v ≡ part (set (listed m n) k new) (begin m v) (end m v)
        shown e v = unfold part put in ap (λ (r : List Record). part r (begin m v) (end m v)) e

    pub changes : Changes m n k x rs
    changes = record { at = found.at; below = found.below; same = there; arrived = put_arrived }

pub changed : Changed
changed m n k x rs g l = let z = lies m.offsets n k g.well.sound.whole l in changes m n k x rs g l z.0 z.1 z.2 z.3
