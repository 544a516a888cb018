-- The store as one list after a drop: the stale of the part are out, the rest are in order. No row of a record that stays is touched, and
-- each that stays stands in one place. Assumes nothing.
use mathlib.Core.Path.{◌≡◌, refl, sym, ap, subst, ◌∙◌}
use mathlib.Core.Bool.{Bool, cond}
use mathlib.Core.List.{List, [], ◌++◌}
use Prim.Native.Nat.{ℕ, ◌+◌, ◌-◌, ◌<◌, ◌≤◌}
use native.Mathlib.Omega.{arith}
use lib.ListN.{length, get_or, take, drop}
use borrow.Author.Tests.{lt-ltb}
use Rattle.store.specs.Store.{Record}
use Rattle.shifting.specs.Shifting.{part}
use Rattle.shifting.proofs.Laying.{part_length}
use Rattle.parts.specs.Parts.{those, stays, Rows, begin, end, gone, dropped, left, slot_of, slot_at, no_words, no_floats}
use Rattle.parts.specs.Laws.{times, Once, Sound, Fits, Every, record_at, listed}
use Rattle.parts.proofs.Slots.{times_join, stands, freed}
use Rattle.parts.proofs.Clearing.{length_cleared}
use Rattle.parts.proofs.Keeping.{dropped_sound, fits_of, counts, rise, inside}
use Rattle.parts.proofs.Staying.{came, came_rises, came_low, row_came, list_came}
use Rattle.parts.proofs.Listing.{length_listed, listed_at, no_record, same_record, few, low, live, own, cleared_other}

-- ---- where the entry that stands at k stood
abbrev pub stood_at : Rows → ℕ → ℕ → ℕ → ℕ
stood_at s t now k = came (stays s.slots s.units now) (begin s t) (end s t) (length (gone s t now)) k

module _ (s : Rows) (n t now : ℕ) (w : Fits s n) (h : t < 64) where
  abbrev a : ℕ
  a = begin s t

  abbrev b : ℕ
  b = end s t

  abbrev p : ℕ → Bool
  p = stays s.slots s.units now

  up : a ≤ b
  up = rise s n t now w h

  within : b ≤ n
  within = inside s n t now w h

  long : length (part s.slots a b) ≡ b - a
  long = part_length s.slots a b (omega (arith, within, w.sized.slots, w.room))

  pub stood_rises : (k : ℕ) → stood_at s t now k < stood_at s t now (k + 1)
  stood_rises k = came_rises p a b n (length (gone s t now)) up within (part s.slots a b) long (counts s n t now w h) k

  pub stood_low : (k : ℕ) → k < left s n t now → stood_at s t now k < n
  stood_low k l = came_low p a b n (length (gone s t now)) up within (part s.slots a b) long (counts s n t now w h) k l

  -- tag and slot are those of the place where it stood
  pub stood_tag : (k : ℕ) → k < left s n t now → get_or (dropped s n t now).tags k 0 ≡ get_or s.tags (stood_at s t now k) 0
  unfolding dropped
  stood_tag k l = row_came p a b n (length (gone s t now)) up within (part s.slots a b) long (counts s n t now w h) s.tags (omega (arith, w.room, w.sized.tags)) k l

  pub stood_slot : (k : ℕ) → k < left s n t now → get_or (dropped s n t now).slots k 0 ≡ get_or s.slots (stood_at s t now k) 0
  unfolding dropped
  stood_slot k l = row_came p a b n (length (gone s t now)) up within (part s.slots a b) long (counts s n t now w h) s.slots (omega (arith, w.room, w.sized.slots)) k l

  -- a list of what stands at the first places
  pub stood_list : {A : Type 0} (z : A) (xs ys : List A) → length xs ≡ n → length ys ≡ left s n t now → ((k : ℕ) → k < left s n t now → get_or ys k z ≡ get_or xs (stood_at s t now k) z)
      → ys ≡ (take a xs ++ those p a (part xs a b)) ++ drop b xs
  stood_list z xs ys e f g = list_came p a b n (length (gone s t now)) up within (part s.slots a b) long (counts s n t now w h) z xs ys e f g

module _ (s : Rows) (n t now : ℕ) (w : Sound s n) (h : t < 64) where
  abbrev S : Rows
  S = dropped s n t now

  abbrev G : List ℕ
  G = gone s t now

  abbrev D : ℕ
  D = length G

  abbrev fit : Fits s n
  fit = fits_of s n w

  after : Once S (n - D)
  after = (dropped_sound s n t now w h).once

  slots_long : n - D ≤ length S.slots
  slots_long = let z = dropped_sound s n t now w h in omega (arith, z.sized.slots, z.room)

  free_has : (x : ℕ) → times x G ≤ times x (take (length S.units - (n - D)) S.free)
  free_has x = omega (arith, ap (times x) (freed s n t now w.sized w.room (rise s n t now fit h) (inside s n t now fit h)) ∙ times_join x (take (length s.units - n) s.free) G)

  room_same : length S.units ≡ length s.units
  unfolding dropped
  room_same = length_cleared (no_words) s.units G

  apart_from : (k : ℕ) → k < n - D → (j : ℕ) → j < D → slot_at S k ≡ slot_of (get_or G j 0) (length s.units) → ⊥
  apart_from k l j m e =
      let x = get_or S.slots k 0 in
      let y = get_or G j 0 in
      let a = live S (n - D) after k l slots_long in
      let b = stands y G j m refl in
      let c = low S (n - D) after y (omega (arith, free_has y)) in
      let f : slot_of y (length s.units) ≡ y = ap (λ (q : Bool). cond q y 0) (lt-ltb y (length s.units) (omega (arith, room_same))) in
      let g : y ≡ x = sym f ∙ sym e ∙ own S (n - D) after k l slots_long in
      let i : 1 ≤ times x G = stands x G j m g in
      absurd (omega (arith, few S (n - D) after x, free_has x))

  -- no row of a record that stays is touched
  pub words_stay : (k : ℕ) → k < n - D → get_or S.units (slot_at S k) [] ≡ get_or s.units (slot_at S k) []
  words_stay k l = go (apart_from k l)
    where
      go : ((j : ℕ) → j < D → slot_at S k ≡ slot_of (get_or G j 0) (length s.units) → ⊥) → get_or S.units (slot_at S k) [] ≡ get_or s.units (slot_at S k) []
      go f = unfold dropped in cleared_other [] (no_words) s.units G (slot_at S k) f

  pub floats_stay : (k : ℕ) → k < n - D → get_or S.uses (slot_at S k) [] ≡ get_or s.uses (slot_at S k) []
  floats_stay k l = go (λ j m e. apart_from k l j m (e ∙ ap (slot_of (get_or G j 0)) w.sized.uses))
    where
      go : ((j : ℕ) → j < D → slot_at S k ≡ slot_of (get_or G j 0) (length s.uses) → ⊥) → get_or S.uses (slot_at S k) [] ≡ get_or s.uses (slot_at S k) []
      go f = unfold dropped in cleared_other [] (no_floats) s.uses G (slot_at S k) f

  -- an entry of the same tag and slot shows the same record
  stood_record : (k : ℕ) → k < n - D → record_at S k ≡ record_at s (stood_at s t now k)
  unfolding record_at
  stood_record k l =
      let i = stood_at s t now k in
      let z : slot_at S k ≡ slot_at s i = ap (λ (m : ℕ). slot_of (get_or S.slots k 0) m) room_same ∙ ap (λ (x : ℕ). slot_of x (length s.units)) (stood_slot s n t now fit h k l) in
      same_record _ _ _ _ _ _ (stood_tag s n t now fit h k l)
      (words_stay k l ∙ ap (λ (m : ℕ). get_or s.units m []) z) (floats_stay k l ∙ ap (λ (m : ℕ). get_or s.uses m []) z)

  abbrev V : List Record
  V = listed s n

  -- the list after a drop: before the part, those of the part that stay, behind the part
  pub dropped_listed : listed S (n - D) ≡ (take (begin s t) V ++ those (stays s.slots s.units now) (begin s t) (part V (begin s t) (end s t))) ++ drop (end s t) V
  dropped_listed =
      stood_list s n t now fit h no_record V (listed S (n - D)) (length_listed s n) (length_listed S (n - D))
      (λ k l. listed_at no_record S (n - D) k l ∙ stood_record k l ∙ sym (listed_at no_record s n (stood_at s t now k) (stood_low s n t now fit h k l)))

  -- what holds of every record holds after a drop
  pub dropped_every : (Q : Record → Type 0) → Every Q s n → Every Q S (n - D)
  dropped_every Q e k l = subst Q (sym (stood_record k l)) (e (stood_at s t now k) (stood_low s n t now fit h k l))
