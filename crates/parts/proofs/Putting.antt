-- The store as one list after a use was put: one record changed. Assumes nothing.
use mathlib.Core.Path.{◌≡◌, refl, sym, ap, subst, ◌∙◌}
use mathlib.Core.List.{List, []}
use Prim.Native.Nat.{ℕ, ◌<◌, ◌≤◌}
use native.Mathlib.Omega.{arith}
use native.Mathlib.Decide.{dec_le, ℕ_discrete}
use lib.Ieee.{Float}
use lib.ListN.{length, get_or, set, take, length-set}
use lib.Seq.{ext_get_or, get_or-take, length-take-le, get_or-set_same, get_or-set_other}
use Rattle.flow.specs.declared.Use.{Use}
use Rattle.store.specs.Store.{Record, unit_row, units_put, uses_put}
use Rattle.parts.specs.Parts.{Rows, put, slot_of, slot_at, floats_of}
use Rattle.parts.specs.Laws.{times, Sound, Every, record_at, listed, with_use}
use Rattle.parts.proofs.Slots.{apart}
use Rattle.parts.proofs.Listing.{length_listed, listed_at, no_record, same_record, few, own, slot_low}

module _ (s : Rows) (n k : ℕ) (u : Use) (w : Sound s n) (l : k < n) where
  abbrev row : List ℕ
  row = set (set (unit_row s.units (slot_at s k)) 5 u.at_ms) 6 u.fresh

  abbrev used : List Float
  used = floats_of u

  abbrev B : Rows
  B = put s k u

  fits : n ≤ length s.slots
  fits = omega (arith, w.sized.slots, w.room)

  differ : (i : ℕ) → i < n → (i ≡ k → ⊥) → slot_at s i ≡ slot_at s k → ⊥
  differ i m c e =
      let g : get_or s.slots i 0 ≡ get_or s.slots k 0 = sym (own s n w.once i m fits) ∙ e ∙ own s n w.once k l fits in
      let x = get_or s.slots k 0 in
      let o : times x (take n s.slots) ≤ 1 = omega (arith, few s n w.once x) in
      let v = length-take-le n s.slots fits in
      elim (dec_le i k) [
        | yes y ↦ apart x (take n s.slots) i k o (omega arith) (omega arith) (get_or-take n s.slots i 0 m ∙ g) (get_or-take n s.slots k 0 l)
        | no y ↦ apart x (take n s.slots) k i o (omega arith) (omega arith) (get_or-take n s.slots k 0 l) (get_or-take n s.slots i 0 m ∙ g)
      ]

  slot_same : (i : ℕ) → slot_at B i ≡ slot_at s i
  unfolding put units_put uses_put
  slot_same i = ap (λ (r : ℕ). slot_of (get_or s.slots i 0) r) (length-set s.units (slot_at s k) row)

  pub other_at : (i : ℕ) → i < n → (i ≡ k → ⊥) → record_at B i ≡ record_at s i
  unfolding record_at put units_put uses_put
  other_at i m c =
      same_record _ _ _ _ _ _ refl (ap (λ (r : ℕ). get_or (set s.units (slot_at s k) row) r []) (slot_same i) ∙ get_or-set_other s.units (slot_at s k) (slot_at s i) row [] (differ i m c))
      (ap (λ (r : ℕ). get_or (set s.uses (slot_at s k) used) r []) (slot_same i) ∙ get_or-set_other s.uses (slot_at s k) (slot_at s i) used [] (differ i m c))

  put_at : record_at B k ≡ with_use (record_at s k) u
  unfolding record_at put units_put uses_put with_use
  put_at =
      let v = slot_low s n w.once k l fits in
      same_record _ _ _ _ _ _ refl (ap (λ (r : ℕ). get_or (set s.units (slot_at s k) row) r []) (slot_same k) ∙ get_or-set_same s.units (slot_at s k) row [] v)
      (ap (λ (r : ℕ). get_or (set s.uses (slot_at s k) used) r []) (slot_same k) ∙ get_or-set_same s.uses (slot_at s k) used [] (omega (arith, v, w.sized.uses)))

  -- the list after a use was put: that record changed, its tag the same
  pub put_listed : listed B n ≡ set (listed s n) k (with_use (record_at s k) u)
  put_listed = ext_get_or no_record (listed B n) (set (listed s n) k (with_use (record_at s k) u)) (length_listed B n ∙ sym (length-set (listed s n) k (with_use (record_at s k) u) ∙ length_listed s n)) (λ i m. each i (omega (arith, length_listed B n)))
    where
      each : (i : ℕ) → i < n → get_or (listed B n) i no_record ≡ get_or (set (listed s n) k (with_use (record_at s k) u)) i no_record
      each i m = listed_at no_record B n i m ∙ elim (ℕ_discrete i k) [
        | yes e ↦ ap (record_at B) e ∙ put_at ∙ sym (ap (λ (r : ℕ). get_or (set (listed s n) k (with_use (record_at s k) u)) r no_record) e ∙ get_or-set_same (listed s n) k (with_use (record_at s k) u) no_record (omega (arith, length_listed s n)))
        | no e ↦ other_at i m e ∙ sym (get_or-set_other (listed s n) k i (with_use (record_at s k) u) no_record e ∙ listed_at no_record s n i m)
      ]

  pub put_every : (Q : Record → Type 0) → Q (with_use (record_at s k) u) → Every Q s n → Every Q B n
  put_every Q x e i m = elim (ℕ_discrete i k) [
    | yes c ↦ subst Q (sym (ap (record_at B) c ∙ put_at)) x
    | no c ↦ subst Q (sym (other_at i m c)) (e i m)
  ]
