-- The store as one list after an insertion: one record more. Assumes nothing.
use mathlib.Core.Path.{◌≡◌, sym, ap, subst, ◌∙◌}
use mathlib.Core.Bool.{Bool, cond}
use mathlib.Core.List.{List, [], ◌∷◌, ◌++◌}
use Prim.Native.Nat.{ℕ, suc, ◌+◌, ◌-◌, ◌<◌, ◌≤◌}
use native.Mathlib.Omega.{arith}
use native.Mathlib.Decide.{dec_le}
use lib.Ieee.{Float}
use lib.ListN.{length, get_or, set, take, drop, length-append, length-set, length-drop, get_or-append}
use lib.Seq.{ext_get_or, get_or-take, get_or-drop, length-take-le, get_or-set_same, get_or-set_other}
use borrow.Author.Tests.{lt-ltb}
use Rattle.flow.specs.declared.Use.{Use}
use Rattle.sender.specs.declared.Name.{Name}
use Rattle.sender.specs.Sender.{table_of_tag}
use Rattle.store.specs.Store.{Record}
use Rattle.shifting.proofs.Whole.{whole_below}
use Rattle.shifting.proofs.Places.{later, inserted_before, inserted_here, inserted_behind}
use Rattle.parts.specs.Parts.{Rows, end, top, added, slot_of, slot_at, words_of, floats_of}
use Rattle.parts.specs.Laws.{times, Sound, Every, record_at, listed, record_of}
use Rattle.parts.proofs.Slots.{stands}
use Rattle.parts.proofs.Listing.{length_listed, listed_at, no_record, same_record, few, low, own}

module _ (s : Rows) (n : ℕ) (name : Name) (u : Use) (w : Sound s n) (l : n < length s.units) (h : table_of_tag name.tag < 64) where
  abbrev t : ℕ
  t = table_of_tag name.tag

  abbrev row : List ℕ
  row = words_of name u

  abbrev used : List Float
  used = floats_of u

  abbrev A : Rows
  A = added s n name u

  abbrev q : ℕ
  q = end s t

  below : q ≤ n
  below = whole_below s.offsets n w.whole (t + 1) (omega arith)

  abbrev f : ℕ
  f = length s.units - n - 1

  long : n < length s.slots
  long = omega (arith, w.sized.slots)

  top_free : 1 ≤ times (top s n) (take (length s.units - n) s.free)
  top_free =
      stands (top s n) (take (length s.units - n) s.free) f (omega (arith, length-take-le (length s.units - n) s.free (omega (arith, w.sized.free))))
      (get_or-take (length s.units - n) s.free f 0 (omega arith))

  top_low : top s n < length s.units
  top_low = low s n w.once (top s n) (omega (arith, top_free))

  abbrev place : ℕ
  place = slot_of (top s n) (length s.units)

  placed : place ≡ top s n
  placed = ap (λ (c : Bool). cond c (top s n) 0) (lt-ltb (top s n) (length s.units) top_low)

  other : (i : ℕ) → i < n → slot_at s i ≡ place → ⊥
  other i m e =
      let g : get_or s.slots i 0 ≡ top s n = sym (own s n w.once i m (omega (arith, long))) ∙ e ∙ placed in
      let v = stands (top s n) (take n s.slots) i (omega (arith, length-take-le n s.slots (omega (arith, long)))) (get_or-take n s.slots i 0 m ∙ g) in
      absurd (omega (arith, few s n w.once (top s n), top_free))

  -- an entry that was there
  old_at : (k i : ℕ) → i < n → get_or A.tags k 0 ≡ get_or s.tags i 0 → get_or A.slots k 0 ≡ get_or s.slots i 0 → record_at A k ≡ record_at s i
  unfolding record_at added
  old_at k i m c d =
      let z : slot_at A k ≡ slot_at s i = ap (λ (r : ℕ). slot_of (get_or A.slots k 0) r) (length-set s.units place row) ∙ ap (λ (x : ℕ). slot_of x (length s.units)) d in
      same_record _ _ _ _ _ _ c (ap (λ (r : ℕ). get_or (set s.units place row) r []) z ∙ get_or-set_other s.units place (slot_at s i) row [] (other i m))
      (ap (λ (r : ℕ). get_or (set s.uses place used) r []) z ∙ get_or-set_other s.uses place (slot_at s i) used [] (other i m))

  new_at : record_at A q ≡ record_of name u
  unfolding record_at added
  new_at =
      let z : slot_at A q ≡ place = ap (λ (r : ℕ). slot_of (get_or A.slots q 0) r) (length-set s.units place row) ∙ ap (λ (x : ℕ). slot_of x (length s.units)) (inserted_here 0 s.slots q n (top s n) below long) in
      same_record _ _ _ _ _ _ (inserted_here 0 s.tags q n name.tag below (omega (arith, w.sized.tags)))
      (ap (λ (r : ℕ). get_or (set s.units place row) r []) z ∙ get_or-set_same s.units place row [] (omega (arith, placed, top_low)))
      (ap (λ (r : ℕ). get_or (set s.uses place used) r []) z ∙ get_or-set_same s.uses place used [] (omega (arith, placed, top_low, w.sized.uses)))

  first_at : (k : ℕ) → k < q → record_at A k ≡ record_at s k
  first_at k m = old_at k k (omega (arith, below)) one two
    where
      one : get_or A.tags k 0 ≡ get_or s.tags k 0
      one = unfold added in inserted_before 0 s.tags q n name.tag below (omega (arith, w.sized.tags)) k m

      two : get_or A.slots k 0 ≡ get_or s.slots k 0
      two = unfold added in inserted_before 0 s.slots q n (top s n) below long k m

  last_at : (k : ℕ) → q ≤ k → k < n → record_at A (k + 1) ≡ record_at s k
  last_at k m o = old_at (k + 1) k o one two
    where
      one : get_or A.tags (k + 1) 0 ≡ get_or s.tags k 0
      one = unfold added in inserted_behind 0 s.tags q n name.tag below (omega (arith, w.sized.tags)) k m o

      two : get_or A.slots (k + 1) 0 ≡ get_or s.slots k 0
      two = unfold added in inserted_behind 0 s.slots q n (top s n) below long k m o

  abbrev U : List Record
  U = listed s n

  -- the list after an insertion: one record more, at the end of its part
  pub added_listed : listed A (n + 1) ≡ take q U ++ (record_of name u ∷ drop q U)
  added_listed =
      ext_get_or no_record (listed A (n + 1)) (take q U ++ (record_of name u ∷ drop q U))
      (omega (arith, below, length_listed A (n + 1), length-append (take q U) (record_of name u ∷ drop q U), front, length-drop q U, length_listed s n))
      (λ k m. each k (omega (arith, length_listed A (n + 1))))
    where
      front : length (take q U) ≡ q
      front = length-take-le q U (omega (arith, below, length_listed s n))

      each : (k : ℕ) → k < n + 1 → get_or (listed A (n + 1)) k no_record ≡ get_or (take q U ++ (record_of name u ∷ drop q U)) k no_record
      each k m = listed_at no_record A (n + 1) k m ∙ elim (dec_le q k) [
        | no x ↦ first_at k (omega arith) ∙ sym (get_or-append (take q U) (record_of name u ∷ drop q U) no_record k (omega (arith, front)) ∙ get_or-take q U k no_record (omega arith) ∙ listed_at no_record s n k (omega (arith, below)))
        | yes x ↦ elim (dec_le k q) [
          | yes y ↦ (let e : k ≡ q = omega arith in
              let z : k - q ≡ 0 = omega arith in
              ap (record_at A) e ∙ new_at ∙ sym (later no_record (take q U) (record_of name u ∷ drop q U) q k front x ∙ ap (λ (i : ℕ). get_or (record_of name u ∷ drop q U) i no_record) z))
          | no y ↦ (let e : k ≡ k - 1 + 1 = omega arith in
              let z : k - q ≡ suc (k - 1 - q) = omega arith in
              let v : q + (k - 1 - q) ≡ k - 1 = omega arith in
              ap (record_at A) e ∙ last_at (k - 1) (omega arith) (omega arith)
              ∙ sym (later no_record (take q U) (record_of name u ∷ drop q U) q k front x ∙ ap (λ (i : ℕ). get_or (record_of name u ∷ drop q U) i no_record) z
              ∙ get_or-drop q U (k - 1 - q) no_record ∙ ap (λ (i : ℕ). get_or U i no_record) v ∙ listed_at no_record s n (k - 1) (omega arith)))
        ]
      ]

  pub added_every : (Q : Record → Type 0) → Q (record_of name u) → Every Q s n → Every Q A (n + 1)
  added_every Q x e k m = elim (dec_le q k) [
    | no y ↦ subst Q (sym (first_at k (omega arith))) (e k (omega (arith, below)))
    | yes y ↦ elim (dec_le k q) [
      | yes z ↦ (let c : k ≡ q = omega arith in subst Q (sym (ap (record_at A) c ∙ new_at)) x)
      | no z ↦ (let c : k ≡ k - 1 + 1 = omega arith in subst Q (sym (ap (record_at A) c ∙ last_at (k - 1) (omega arith) (omega arith))) (e (k - 1) (omega arith)))
    ]
  ]
