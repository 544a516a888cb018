-- A drop leaves the records of the part that are not stale, whatever bits the memory holds: two entries of one slot are stale both or neither. So the
-- records before the first stale one may be walked before it. Assumes nothing.
use mathlib.Core.Path.{◌≡◌, refl, sym, ap, subst, ◌∙◌}
use mathlib.Core.Bool.{Bool, true, false, not, true≢false}
use mathlib.Core.List.{List, [], ◌∷◌}
use Prim.Native.Nat.{ℕ, zero, suc, ◌+◌, ◌-◌, ◌<◌, ◌≤◌}
use native.Mathlib.Nat.{add-sub_of_le, add-zero}
use native.Mathlib.Omega.{arith}
use native.Mathlib.Decide.{dec_lt}
use lib.Dec.{ltb}
use lib.ListN.{length, get_or}
use Rattle.store.specs.Store.{None, use_at, stamp_at}
use Rattle.shifting.specs.Shifting.{part}
use Rattle.shifting.specs.Offsets.{Whole}
use Rattle.shifting.proofs.Laying.{part_length}
use Rattle.shifting.proofs.Places.{from_before, from_behind, part_at}
use Rattle.shifting.proofs.Whole.{whole_below}
use Rattle.parts.specs.Held.{Sized}
use Rattle.parts.specs.Parts.{Rows, begin, end, slot_of, slot_at, use_of, those, stays, goes, is_stale, gone, dropped, squeezed, no_words, no_floats, RETAIN_MS}
use Rattle.parts.specs.Laws.{record_at}
use Rattle.parts.proofs.Slots.{counted}
use Rattle.parts.proofs.Listing.{cleared_other}
use Rattle.parts.proofs.Clearing.{length_cleared}
use Rattle.parts.proofs.Places.{nth, stood, squeezed_within}
use Rattle.parts.proofs.Sifting.{stays_not}
use Rattle.wants.specs.Wants.{Hist}
use Rattle.scan_visit.specs.Visiting.{walk, walk_part}
use Rattle.scan_visit.specs.Laws.{use_in}
use Rattle.scan_visit.proofs.Turns.{walk_on, walk_same}

-- a record's use is that of its words and floats
pub use_is : (m : Rows) (i : ℕ) → use_of m i ≡ use_in (record_at m i)
unfolding use_of use_at record_at
use_is m i = refl

-- the first of a list at whose places p holds are its first
front_of : (p : ℕ → Bool) (i : ℕ) (xs : List ℕ) (k : ℕ) → k < length xs → ((j : ℕ) → j ≤ k → p (i + j) ≡ true)
    → (k < length (those p i xs)) × (get_or (those p i xs) k 0 ≡ get_or xs k 0)
unfolding those
front_of p i [] k l h = absurd (omega arith)
front_of p i (x ∷ xs) zero l h =
    let e : p i ≡ true = sym (ap p (add-zero i)) ∙ h 0 (omega arith) in
    rw e (omega arith, refl)
front_of p i (x ∷ xs) (suc k) l h =
    let e : p i ≡ true = sym (ap p (add-zero i)) ∙ h 0 (omega arith) in
    let q = front_of p (suc i) xs k (omega arith) (λ j g. let z : suc i + j ≡ i + suc j = omega arith in ap p z ∙ h (suc j) (omega arith)) in
    rw e (omega (arith, q.0), q.1)

module _ (m : Rows) (n t now : ℕ) (z : Sized m) (r : n ≤ length m.units) (w : Whole m.offsets n) (h : t < 64) where
  abbrev S : Rows
  S = dropped m n t now

  abbrev G : List ℕ
  G = gone m t now

  abbrev a : ℕ
  a = begin m t

  abbrev b : ℕ
  b = end m t

  abbrev p : ℕ → Bool
  p = stays m.slots m.units now

  up : a ≤ b
  up = w.rises t h

  within : b ≤ n
  within = whole_below m.offsets n w (t + 1) (omega arith)

  counts : length (those p a (part m.slots a b)) + length G ≡ b - a
  counts = counted m n t now z r up within

  -- ---- the rows of a slot whose record is not stale are not cleared
  by_slot : (k : ℕ) → goes m.slots m.units now k ≡ ltb RETAIN_MS (now - stamp_at m.units (slot_at m k))
  unfolding goes is_stale
  by_slot k = refl

  not_gone : (k : ℕ) → goes m.slots m.units now k ≡ false → (j : ℕ) → j < length G → slot_at m k ≡ slot_of (get_or G j 0) (length m.units) → ⊥
  unfolding gone
  not_gone k e j l q =
      let long = part_length m.slots a b (omega (arith, within, z.slots)) in
      let st = stood 0 (goes m.slots m.units now) a (part m.slots a b) j l in
      let lo = st.low in
      let hi = st.high in
      go _ lo (omega arith) st.passes st.same
    where
      go : (i : ℕ) → a ≤ i → i < b → goes m.slots m.units now i ≡ true
          → get_or (those (goes m.slots m.units now) a (part m.slots a b)) j 0 ≡ get_or (part m.slots a b) (i - a) 0 → ⊥
      go i x y f s =
          let c : a + (i - a) ≡ i = add-sub_of_le x in
          let d = s ∙ part_at 0 m.slots a b (i - a) (omega arith) ∙ ap (λ (x : ℕ). get_or m.slots x 0) c in
          let g : slot_at m k ≡ slot_at m i = q ∙ ap (λ (x : ℕ). slot_of x (length m.units)) d in
          true≢false (sym f ∙ by_slot i ∙ ap (λ (x : ℕ). ltb RETAIN_MS (now - stamp_at m.units x)) (sym g) ∙ sym (by_slot k) ∙ e)

  room_same : length S.units ≡ length m.units
  unfolding dropped
  room_same = length_cleared no_words m.units G

  words_kept : (k : ℕ) → goes m.slots m.units now k ≡ false → get_or S.units (slot_at m k) [] ≡ get_or m.units (slot_at m k) []
  unfolding dropped
  words_kept k e = cleared_other [] no_words m.units G (slot_at m k) (not_gone k e)

  floats_kept : (k : ℕ) → goes m.slots m.units now k ≡ false → get_or S.uses (slot_at m k) [] ≡ get_or m.uses (slot_at m k) []
  unfolding dropped
  floats_kept k e = cleared_other [] no_floats m.uses G (slot_at m k) (λ j l q. not_gone k e j l (q ∙ ap (slot_of (get_or G j 0)) z.uses))

  -- an entry of the same slot has the same use
  pub use_kept : (k i : ℕ) → get_or S.slots k 0 ≡ get_or m.slots i 0 → goes m.slots m.units now i ≡ false → use_of S k ≡ use_of m i
  use_kept k i s e = use_is S k ∙ same ∙ sym (use_is m i)
    where
      slot : slot_at S k ≡ slot_at m i
      slot = ap (λ (x : ℕ). slot_of (get_or S.slots k 0) x) room_same ∙ ap (λ (x : ℕ). slot_of x (length m.units)) s

      words : get_or S.units (slot_at S k) [] ≡ get_or m.units (slot_at m i) []
      words = ap (λ (x : ℕ). get_or S.units x []) slot ∙ words_kept i e

      floats : get_or S.uses (slot_at S k) [] ≡ get_or m.uses (slot_at m i) []
      floats = ap (λ (x : ℕ). get_or S.uses x []) slot ∙ floats_kept i e

      same : use_in (record_at S k) ≡ use_in (record_at m i)
      same = unfold record_at in simp (words, floats)

  -- ---- where the part stands then
  module _ (l : length m.offsets ≡ 65) where
    pub begin_is : begin S t ≡ a
    unfolding dropped
    begin_is = from_before (λ (o : ℕ). o - length G) m.offsets (t + 1) t (omega arith) (omega arith)

    pub end_is : end S t ≡ b - length G
    unfolding dropped
    end_is = from_behind (λ (o : ℕ). o - length G) m.offsets (t + 1) (t + 1) (omega arith) (omega arith)

  -- which entries it has
  pub slot_within : (k : ℕ) → k + length G < b - a → get_or S.slots (a + k) 0 ≡ get_or m.slots (nth p a (b - a) k) 0
  unfolding dropped
  slot_within k l =
      let long = part_length m.slots a b (omega (arith, within, z.slots)) in
      let st = stood 0 p a (part m.slots a b) k (omega (arith, counts)) in
      let lo = st.low in
      let hi = st.high in
      let c : a + (nth p a (length (part m.slots a b)) k - a) ≡ nth p a (length (part m.slots a b)) k = add-sub_of_le lo in
      squeezed_within p m.slots a b n up within (omega (arith, z.slots)) k (omega (arith, counts))
      ∙ st.same ∙ part_at 0 m.slots a b (nth p a (length (part m.slots a b)) k - a) (omega arith) ∙ ap (λ (x : ℕ). get_or m.slots x 0) c
      ∙ ap (λ (x : ℕ). get_or m.slots (nth p a x k) 0) long

  -- ---- the records before the first stale one
  module _ (i : ℕ) (u : a ≤ i) (v : i ≤ b) (still : None (goes m.slots m.units now) a i) where
    front : (k : ℕ) → a ≤ k → k < i
        → (k - a < length (those p a (part m.slots a b))) × (get_or (those p a (part m.slots a b)) (k - a) 0 ≡ get_or m.slots k 0)
    front k x y =
        let long = part_length m.slots a b (omega (arith, within, z.slots)) in
        let q = front_of p a (part m.slots a b) (k - a) (omega arith) (λ j g. stays_not m.slots m.units now (a + j)
        ∙ ap not (still (a + j) (omega arith) (omega arith))) in
        let c : a + (k - a) ≡ k = add-sub_of_le x in
        (q.0, q.1 ∙ part_at 0 m.slots a b (k - a) (omega arith) ∙ ap (λ (x : ℕ). get_or m.slots x 0) c)

    slot_front : (k : ℕ) → a ≤ k → k < i → get_or S.slots k 0 ≡ get_or m.slots k 0
    unfolding dropped
    slot_front k x y =
        let q = front k x y in
        let c : k ≡ a + (k - a) = sym (add-sub_of_le x) in
        ap (λ (x : ℕ). get_or (squeezed p m.slots a b n) x 0) c ∙ squeezed_within p m.slots a b n up within (omega (arith, z.slots)) (k - a) q.0 ∙ q.1

    walked_alike : (g : Hist) → walk m now a (i - a) g ≡ walk S now a (i - a) g
    walked_alike g = walk_same m S now a (i - a) g (λ j l. sym (use_kept (a + j) (a + j) (slot_front (a + j) (omega arith) (omega arith))
        (still (a + j) (omega arith) (omega arith))))

    few_gone : i + length G ≤ b
    few_gone = elim (dec_lt a i) [
      | yes c ↦ (let q = front (i - 1) (omega arith) (omega arith) in omega (arith, counts, q.0))
      | no c ↦ omega (arith, counts)
    ]

    -- none is stale
    pub none_walked : (g g1 : Hist) → i ≡ b → g1 ≡ walk m now a (i - a) g → g1 ≡ walk_part m t now g
    unfolding walk_part
    none_walked g g1 q e = e ∙ ap (λ (k : ℕ). walk m now a (k - a) g) q

    -- some are: m1 are the rows after the drop
    module _ (l : length m.offsets ≡ 65) where
      pub rest_rises : (m1 : Rows) → m1 ≡ S → i ≤ end m1 t
      rest_rises m1 e = subst (λ (x : Rows). i ≤ end x t) (sym e) (omega (arith, end_is l, few_gone))

      walked_part : (g : Hist) → walk S now i (end S t - i) (walk m now a (i - a) g) ≡ walk_part S t now g
      unfolding walk_part
      walked_part g =
          ap (walk S now i (end S t - i)) (walked_alike g) ∙ walk_on S now a i (end S t) g u (omega (arith, end_is l, few_gone))
          ∙ ap (λ (k : ℕ). walk S now k (end S t - k) g) (sym (begin_is l))

      pub some_walked : (m1 : Rows) (g g1 g2 : Hist) → m1 ≡ S → g1 ≡ walk m now a (i - a) g → g2 ≡ walk m1 now i (end m1 t - i) g1 → g2 ≡ walk_part m1 t now g
      some_walked m1 g g1 g2 e q s =
          s ∙ ap (λ (x : Rows). walk x now i (end x t - i) g1) e ∙ ap (walk S now i (end S t - i)) q ∙ walked_part g
          ∙ ap (λ (x : Rows). walk_part x t now g) (sym e)
