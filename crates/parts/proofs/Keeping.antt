-- What holds of a store from a start on holds after an insertion and after a drop. Assumes nothing.
use mathlib.Core.Path.{◌≡◌, refl, sym, ap, subst, ◌∙◌}
use mathlib.Core.Bool.{Bool}
use mathlib.Core.List.{List, [], ◌++◌}
use Prim.Native.Nat.{ℕ, ◌+◌, ◌-◌, ◌<◌, ◌≤◌}
use native.Mathlib.Nat.{add-sub_of_le}
use native.Mathlib.Omega.{arith}
use native.Mathlib.Decide.{dec_le}
use lib.Dec.{ltb}
use lib.ListN.{length, get_or, replicate, length-set, length-append, length-replicate}
use Rattle.flow.specs.declared.Use.{Use}
use Rattle.sender.specs.declared.Name.{Name}
use Rattle.sender.specs.Sender.{table_of_tag}
use Rattle.shifting.specs.Shifting.{part, inserted}
use Rattle.shifting.specs.Offsets.{from_on, Whole}
use Rattle.shifting.proofs.Laying.{part_length, length_over}
use Rattle.shifting.proofs.Whole.{whole_mono, whole_below, length_from_on}
use Rattle.shifting.proofs.Places.{from_before, from_behind, inserted_before, inserted_here, inserted_behind, inserted_beyond, length_inserted, part_at}
use Rattle.parts.specs.Parts.{those, stays, no_entry, squeezed, Rows, begin, end, top, gone, added, dropped, left, cleared, slot_of, words_of, floats_of, no_words, no_floats}
use Rattle.parts.specs.Held.{Sized}
use Rattle.parts.specs.Laws.{one_if, Once, Homed, Sound, Fits, an_entry, entry_at, AsLong, Cleared}
use Rattle.parts.proofs.Places.{squeezed_before, squeezed_within, squeezed_behind, squeezed_freed, squeezed_beyond, nth, stood}
use Rattle.parts.proofs.Closing.{tagged}
use Rattle.parts.proofs.Clearing.{length_cleared, cleared_there}
use Rattle.parts.proofs.Slots.{added_standing, dropped_standing, counted}

-- ---- the offsets
pub from_whole : (f : ℕ → ℕ) → ((a b : ℕ) → a ≤ b → f a ≤ f b) → (os : List ℕ) (n t : ℕ) → t < 64 → length os ≡ 65 → get_or os t 0 ≤ f (get_or os (t + 1) 0) → Whole os n → Whole (from_on f os (t + 1)) (f n)
from_whole f g os n t h l j w = record {
  begins = from_before f os (t + 1) 0 (omega arith) (omega arith) ∙ w.begins;
  rises = λ k u. by k u;
  ends = from_behind f os (t + 1) 64 (omega arith) (omega arith) ∙ ap f w.ends;
}
  where
    by : (k : ℕ) → k < 64 → get_or (from_on f os (t + 1)) k 0 ≤ get_or (from_on f os (t + 1)) (k + 1) 0
    by k u = elim (dec_le (t + 1) k) [
      | yes a ↦ omega (arith, from_behind f os (t + 1) k a (omega arith), from_behind f os (t + 1) (k + 1) (omega arith) (omega arith), g (get_or os k 0) (get_or os (k + 1) 0) (w.rises k u))
      | no a ↦ elim (dec_le t k) [
        | yes b ↦ (let e : k ≡ t = omega arith in subst (λ (i : ℕ). get_or (from_on f os (t + 1)) i 0 ≤ get_or (from_on f os (t + 1)) (i + 1) 0) (sym e) (omega (arith, j, from_before f os (t + 1) t (omega arith) (omega arith), from_behind f os (t + 1) (t + 1) (omega arith) (omega arith))))
        | no b ↦ omega (arith, from_before f os (t + 1) k (omega arith) (omega arith), from_before f os (t + 1) (k + 1) (omega arith) (omega arith), w.rises k u)
      ]
    ]

-- ---- each part its own table's, by the row of tags
abbrev Home : (ℕ → ℕ) → List ℕ → List ℕ → Type 0
Home table os ts = (u k : ℕ) → u < 64 → get_or os u 0 ≤ k → k < get_or os (u + 1) 0 → table (get_or ts k 0) ≡ u

module _ (table : ℕ → ℕ) (os ts : List ℕ) (n t : ℕ) (h : t < 64) (l : length os ≡ 65) (w : Whole os n) (m : Home table os ts) where
  abbrev a : ℕ
  a = get_or os t 0

  abbrev b : ℕ
  b = get_or os (t + 1) 0

  up : a ≤ b
  up = w.rises t h

  within : b ≤ n
  within = whole_below os n w (t + 1) (omega arith)

  -- the newcomer stands anywhere in its part
  pub inserted_home : (p tag : ℕ) → a ≤ p → p ≤ b → n < length ts → table tag ≡ t → Home table (from_on (λ (o : ℕ). o + 1) os (t + 1)) (inserted ts p n tag)
  inserted_home p tag lo hi q e u k v x y =
      let below : p ≤ n = omega (arith, within) in
      elim (dec_le t u) [
        | no c ↦ (let g = from_before (λ (o : ℕ). o + 1) os (t + 1) u (omega arith) (omega arith) in
            let i = from_before (λ (o : ℕ). o + 1) os (t + 1) (u + 1) (omega arith) (omega arith) in
            let j = whole_mono os n w (u + 1) t (omega arith) (omega arith) in
            ap table (inserted_before 0 ts p n tag below q k (omega (arith, up))) ∙ m u k v (omega arith) (omega arith))
        | yes c ↦ elim (dec_le u t) [
          | yes d ↦ (let z : u ≡ t = omega arith in
              let g = from_before (λ (o : ℕ). o + 1) os (t + 1) u (omega arith) (omega arith) in
              let i = ap (λ (r : ℕ). get_or (from_on (λ (o : ℕ). o + 1) os (t + 1)) (r + 1) 0) z ∙ from_behind (λ (o : ℕ). o + 1) os (t + 1) (t + 1) (omega arith) (omega arith) in
              let j = ap (λ (r : ℕ). get_or os r 0) z in
              elim (dec_le p k) [
                | yes f ↦ elim (dec_le k p) [
                  | yes o ↦ (let r : k ≡ p = omega arith in ap (λ (o : ℕ). table (get_or (inserted ts p n tag) o 0)) r ∙ ap table (inserted_here 0 ts p n tag below q) ∙ e ∙ sym z)
                  | no o ↦ (let r : k ≡ k - 1 + 1 = omega arith in
                      ap (λ (o : ℕ). table (get_or (inserted ts p n tag) o 0)) r ∙ ap table (inserted_behind 0 ts p n tag below q (k - 1) (omega arith) (omega (arith, within))) ∙ m t (k - 1) h (omega arith) (omega arith) ∙ sym z)
                ]
                | no f ↦ ap table (inserted_before 0 ts p n tag below q k (omega arith)) ∙ m t k h (omega arith) (omega arith) ∙ sym z
              ])
          | no d ↦ (let g = from_behind (λ (o : ℕ). o + 1) os (t + 1) u (omega arith) (omega arith) in
              let i = from_behind (λ (o : ℕ). o + 1) os (t + 1) (u + 1) (omega arith) (omega arith) in
              let j = whole_mono os n w (t + 1) u (omega arith) (omega arith) in
              let o = whole_below os n w (u + 1) (omega arith) in
              let r : k ≡ k - 1 + 1 = omega arith in
              ap (λ (f : ℕ). table (get_or (inserted ts p n tag) f 0)) r ∙ ap table (inserted_behind 0 ts p n tag below q (k - 1) (omega arith) (omega arith)) ∙ m u (k - 1) v (omega arith) (omega arith))
        ]
      ]

  module _ (p : ℕ → Bool) (d : ℕ) (q : n ≤ length ts) (e : length (those p a (part ts a b)) + d ≡ b - a) where
    abbrev N : ℕ
    N = length (those p a (part ts a b))

    kept : (i : ℕ) → i < N → table (get_or (squeezed p ts a b n) (a + i) 0) ≡ t
    kept i r =
        let s = stood 0 p a (part ts a b) i r in
        let j = nth p a (length (part ts a b)) i in
        let lo = s.low in
        let hi = s.high in
        let g = part_length ts a b (omega (arith, within)) in
        let z : a + (j - a) ≡ j = add-sub_of_le lo in
        ap table (squeezed_within p ts a b n up within q i r ∙ s.same ∙ part_at 0 ts a b (j - a) (omega arith) ∙ ap (λ (o : ℕ). get_or ts o 0) z) ∙ m t j h lo (omega (arith, up))

    pub squeezed_home : Home table (from_on (λ (o : ℕ). o - d) os (t + 1)) (squeezed p ts a b n)
    squeezed_home u k v x y = elim (dec_le t u) [
      | no c ↦ (let g = from_before (λ (o : ℕ). o - d) os (t + 1) u (omega arith) (omega arith) in
          let i = from_before (λ (o : ℕ). o - d) os (t + 1) (u + 1) (omega arith) (omega arith) in
          let j = whole_mono os n w (u + 1) t (omega arith) (omega arith) in
          ap table (squeezed_before p ts a b n up within q k (omega arith)) ∙ m u k v (omega arith) (omega arith))
      | yes c ↦ elim (dec_le u t) [
        | yes f ↦ (let z : u ≡ t = omega arith in
            let g = from_before (λ (o : ℕ). o - d) os (t + 1) u (omega arith) (omega arith) in
            let i = ap (λ (r : ℕ). get_or (from_on (λ (o : ℕ). o - d) os (t + 1)) (r + 1) 0) z ∙ from_behind (λ (o : ℕ). o - d) os (t + 1) (t + 1) (omega arith) (omega arith) in
            let j = ap (λ (r : ℕ). get_or os r 0) z in
            let r : k ≡ a + (k - a) = omega arith in
            ap (λ (o : ℕ). table (get_or (squeezed p ts a b n) o 0)) r ∙ kept (k - a) (omega (arith, up)) ∙ sym z)
        | no f ↦ (let g = from_behind (λ (o : ℕ). o - d) os (t + 1) u (omega arith) (omega arith) in
            let i = from_behind (λ (o : ℕ). o - d) os (t + 1) (u + 1) (omega arith) (omega arith) in
            let j = whole_mono os n w (t + 1) u (omega arith) (omega arith) in
            let o = whole_below os n w (u + 1) (omega arith) in
            let r : k ≡ a + N + (k - (a + N)) = omega (arith, up) in
            ap (λ (f : ℕ). table (get_or (squeezed p ts a b n) f 0)) r ∙ ap table (squeezed_behind p ts a b n up within q (k - (a + N)) (omega (arith, up))) ∙ m u (b + (k - (a + N))) v (omega (arith, up)) (omega (arith, up)))
      ]
    ]

pub length_squeezed : (p : ℕ → Bool) (xs : List ℕ) (a b n : ℕ) → a ≤ b → b ≤ n → n ≤ length xs → a + length (those p a (part xs a b)) ≤ b → length (squeezed p xs a b n) ≡ length xs
unfolding squeezed
length_squeezed p xs a b n h l m o =
    length_over xs a ((those p a (part xs a b) ++ part xs b n) ++ replicate (b - (a + length (those p a (part xs a b)))) no_entry)
    (omega (arith, length-append (those p a (part xs a b) ++ part xs b n) (replicate (b - (a + length (those p a (part xs a b)))) no_entry), length-append (those p a (part xs a b)) (part xs b n), part_length xs b n m, length-replicate {A = ℕ} (b - (a + length (those p a (part xs a b)))) no_entry))

pub same_entry : (a a' b b' : ℕ) → a ≡ a' → b ≡ b' → an_entry a b ≡ an_entry a' b'
same_entry a a' b b' p q = cc

-- ---- an insertion
module _ (s : Rows) (n : ℕ) (name : Name) (used : Use) (w : Sound s n) (l : n < length s.units) (h : table_of_tag name.tag < 64) where
  abbrev t : ℕ
  t = table_of_tag name.tag

  -- the place where it comes in
  abbrev q : ℕ
  q = end s t

  under : q ≤ n
  under = whole_below s.offsets n w.whole (t + 1) (omega arith)

  added_sized : Sized (added s n name used)
  unfolding added
  added_sized =
      let z = w.sized in
      let z0 = z.some in
      let z1 = z.tags in
      let z2 = z.slots in
      let z4 = z.most in
      let u = length-set s.units (slot_of (top s n) (length s.units)) (words_of name used) in
      record {
        some = omega arith;
        most = omega arith;
        tags = omega (arith, length_inserted 0 s.tags q n name.tag under (omega arith));
        slots = length_inserted 0 s.slots q n (top s n) under (omega arith) ∙ omega arith;
        free = z.free ∙ sym u;
        uses = length-set s.uses (slot_of (top s n) (length s.units)) (floats_of used) ∙ z.uses ∙ sym u;
      }

  added_room : n + 1 ≤ length (added s n name used).units
  unfolding added
  added_room = omega (arith, length-set s.units (slot_of (top s n) (length s.units)) (words_of name used))

  added_once : Once (added s n name used) (n + 1)
  added_once x = added_standing s n name used w.sized l under x ∙ w.once x ∙ same
    where
      same : one_if (ltb x (length s.units)) ≡ one_if (ltb x (length (added s n name used).units))
      same = unfold added in ap (λ (k : ℕ). one_if (ltb x k)) (sym (length-set s.units (slot_of (top s n) (length s.units)) (words_of name used)))

  added_offsets : length (added s n name used).offsets ≡ 65
  unfolding added
  added_offsets = let z = w.offsets in length_from_on (λ (o : ℕ). o + 1) s.offsets (t + 1) (omega arith) ∙ z

  added_whole : Whole (added s n name used).offsets (n + 1)
  unfolding added
  added_whole = from_whole (λ (o : ℕ). o + 1) (λ a b q. omega arith) s.offsets n t h w.offsets (omega (arith, w.whole.rises t h)) w.whole

  pub added_sound : Sound (added s n name used) (n + 1)
  added_sound = record { sized = added_sized; room = added_room; offsets = added_offsets; whole = added_whole; once = added_once }

  -- the places of the index behind the new last entry, and the lengths
  pub added_behind : (k : ℕ) → n < k → entry_at (added s n name used) k ≡ entry_at s k
  unfolding added entry_at
  added_behind k u =
      let z = w.sized in
      same_entry _ _ _ _ (inserted_beyond 0 s.tags q n name.tag under (omega (arith, z.tags)) k u) (inserted_beyond 0 s.slots q n (top s n) under (omega (arith, z.slots)) k u)

  pub added_lengths : AsLong s (added s n name used)
  unfolding added
  added_lengths =
      let z = w.sized in
      let o = w.offsets in
      record {
        tags = length_inserted 0 s.tags q n name.tag under (omega (arith, z.tags));
        slots = length_inserted 0 s.slots q n (top s n) under (omega (arith, z.slots));
        offsets = length_from_on (λ (o : ℕ). o + 1) s.offsets (t + 1) (omega arith);
        free = refl;
        units = length-set s.units (slot_of (top s n) (length s.units)) (words_of name used);
        uses = length-set s.uses (slot_of (top s n) (length s.units)) (floats_of used);
      }

  pub added_homed : Homed s → Homed (added s n name used)
  unfolding added
  added_homed m = inserted_home table_of_tag s.offsets s.tags n t h w.offsets w.whole m q name.tag (omega (arith, w.whole.rises t h)) (omega (arith, w.whole.rises t h)) (omega (arith, w.sized.tags)) refl

pub fits_of : (m : Rows) (n : ℕ) → Sound m n → Fits m n
fits_of m n w = record { sized = w.sized; room = w.room; offsets = w.offsets; whole = w.whole }

-- ---- a drop
module _ (s : Rows) (n t now : ℕ) (w : Fits s n) (h : t < 64) where
  abbrev D : ℕ
  D = length (gone s t now)

  pub rise : begin s t ≤ end s t
  rise = w.whole.rises t h

  pub inside : end s t ≤ n
  inside = whole_below s.offsets n w.whole (t + 1) (omega arith)

  pub counts : length (those (stays s.slots s.units now) (begin s t) (part s.slots (begin s t) (end s t))) + D ≡ end s t - begin s t
  counts = counted s n t now w.sized w.room rise inside

  pub tag_counts : length (those (stays s.slots s.units now) (begin s t) (part s.tags (begin s t) (end s t))) + D ≡ end s t - begin s t
  tag_counts = omega (arith, counts, tagged s.tags s.slots s.offsets s.free s.units s.uses n t now rise inside w.room w.sized.tags w.sized.slots w.sized.free)

  dropped_sized : Sized (dropped s n t now)
  unfolding dropped
  dropped_sized =
      let z = w.sized in
      let z0 = z.some in
      let z1 = z.tags in
      let z2 = z.slots in
      let z4 = w.room in
      let z5 = z.free in
      let z6 = z.most in
      let r = rise in
      let i = inside in
      let c = counts in
      let g = tag_counts in
      let u = length_cleared no_words s.units (gone s t now) in
      record {
        some = omega arith;
        most = omega arith;
        tags = omega (arith, length_squeezed (stays s.slots s.units now) s.tags (begin s t) (end s t) n rise inside (omega arith) (omega arith));
        slots = length_squeezed (stays s.slots s.units now) s.slots (begin s t) (end s t) n rise inside (omega arith) (omega arith) ∙ omega arith;
        free = length_over s.free (length s.units - n) (gone s t now) (omega arith) ∙ omega arith;
        uses = length_cleared no_floats s.uses (gone s t now) ∙ z.uses ∙ sym u;
      }

  dropped_room : n - D ≤ length (dropped s n t now).units
  unfolding dropped
  dropped_room = omega (arith, w.room, length_cleared no_words s.units (gone s t now))

  dropped_offsets : length (dropped s n t now).offsets ≡ 65
  unfolding dropped
  dropped_offsets = let z = w.offsets in length_from_on (λ (o : ℕ). o - D) s.offsets (t + 1) (omega arith) ∙ z

  dropped_whole : Whole (dropped s n t now).offsets (n - D)
  unfolding dropped
  dropped_whole = from_whole (λ (o : ℕ). o - D) (λ a b q. omega arith) s.offsets n t h w.offsets (omega (arith, counts, rise)) w.whole

  pub dropped_fits : Fits (dropped s n t now) (n - D)
  dropped_fits = record { sized = dropped_sized; room = dropped_room; offsets = dropped_offsets; whole = dropped_whole }

  pub dropped_homed : Homed s → Homed (dropped s n t now)
  unfolding dropped
  dropped_homed m = squeezed_home table_of_tag s.offsets s.tags n t h w.offsets w.whole m (stays s.slots s.units now) D (omega (arith, w.sized.tags, w.room)) tag_counts

  -- the places that are then free
  row_freed : (xs : List ℕ) → n ≤ length xs → length (those (stays s.slots s.units now) (begin s t) (part xs (begin s t) (end s t))) + D ≡ end s t - begin s t
      → (k : ℕ) → n - D ≤ k → k < n → get_or (squeezed (stays s.slots s.units now) xs (begin s t) (end s t) n) k 0 ≡ no_entry
  row_freed xs m e k u v =
      let r = rise in
      let i = inside in
      squeezed_freed (stays s.slots s.units now) xs (begin s t) (end s t) n r i m (omega arith) k (omega arith) v

  pub dropped_freed : (k : ℕ) → n - D ≤ k → k < n → (get_or (dropped s n t now).tags k 0 ≡ no_entry) × (get_or (dropped s n t now).slots k 0 ≡ no_entry)
  unfolding dropped
  dropped_freed k u v = (row_freed s.tags (omega (arith, w.room, w.sized.tags)) tag_counts k u v, row_freed s.slots (omega (arith, w.room, w.sized.slots)) counts k u v)

  -- and those behind the entries that there were
  row_behind : (xs : List ℕ) → n ≤ length xs → length (those (stays s.slots s.units now) (begin s t) (part xs (begin s t) (end s t))) + D ≡ end s t - begin s t
      → (k : ℕ) → n ≤ k → get_or (squeezed (stays s.slots s.units now) xs (begin s t) (end s t) n) k 0 ≡ get_or xs k 0
  row_behind xs m e k u =
      let r = rise in
      squeezed_beyond (stays s.slots s.units now) xs (begin s t) (end s t) n r inside m (omega arith) k 0 u

  pub dropped_behind : (k : ℕ) → n ≤ k → entry_at (dropped s n t now) k ≡ entry_at s k
  unfolding dropped entry_at
  dropped_behind k u = same_entry _ _ _ _ (row_behind s.tags (omega (arith, w.room, w.sized.tags)) tag_counts k u) (row_behind s.slots (omega (arith, w.room, w.sized.slots)) counts k u)

  pub dropped_lengths : AsLong s (dropped s n t now)
  unfolding dropped
  dropped_lengths =
      let z = w.sized in
      let r = rise in
      let i = inside in
      let c = counts in
      let g = tag_counts in
      let o = w.offsets in
      record {
        tags = length_squeezed (stays s.slots s.units now) s.tags (begin s t) (end s t) n r i (omega (arith, w.room, z.tags)) (omega arith);
        slots = length_squeezed (stays s.slots s.units now) s.slots (begin s t) (end s t) n r i (omega (arith, w.room, z.slots)) (omega arith);
        offsets = length_from_on (λ (o : ℕ). o - D) s.offsets (t + 1) (omega arith);
        free = length_over s.free (length s.units - n) (gone s t now) (omega (arith, w.room, z.free));
        units = length_cleared no_words s.units (gone s t now);
        uses = length_cleared no_floats s.uses (gone s t now);
      }

  pub dropped_cleared : (k : ℕ) → k < D → Cleared (dropped s n t now) (slot_of (get_or (gone s t now) k 0) (length s.units))
  unfolding dropped
  dropped_cleared k l =
      let e = w.sized.uses in (
        cleared_there [] no_words s.units (gone s t now) k w.sized.some l,
        subst (λ (r : ℕ). get_or (cleared no_floats s.uses (gone s t now)) (slot_of (get_or (gone s t now) k 0) r) [] ≡ no_floats) e
            (cleared_there [] no_floats s.uses (gone s t now) k (omega (arith, w.sized.some)) l),
      )

module _ (s : Rows) (n t now : ℕ) (w : Sound s n) (h : t < 64) where
  abbrev g : Fits s n
  g = fits_of s n w

  dropped_once : Once (dropped s n t now) (left s n t now)
  dropped_once x = dropped_standing s n t now w.sized w.room (rise s n t now g h) (inside s n t now g h) x ∙ w.once x ∙ same
    where
      same : one_if (ltb x (length s.units)) ≡ one_if (ltb x (length (dropped s n t now).units))
      same = unfold dropped in ap (λ (k : ℕ). one_if (ltb x k)) (sym (length_cleared no_words s.units (gone s t now)))

  pub dropped_sound : Sound (dropped s n t now) (left s n t now)
  dropped_sound = let f = dropped_fits s n t now g h in record { sized = f.sized; room = f.room; offsets = f.offsets; whole = f.whole; once = dropped_once }
