-- Whose wants a visit adds. Assumes nothing.
use mathlib.Core.Path.{◌≡◌, refl, sym, ap, ◌∙◌}
use mathlib.Core.Bool.{Bool, true, false, cond, not}
use mathlib.Core.List.{List, [], ◌∷◌}
use Prim.Native.Nat.{ℕ, suc, ◌+◌, ◌-◌, ◌<◌, ◌≤◌}
use native.Mathlib.Nat.{add-sub_of_le}
use native.Mathlib.Omega.{arith}
use native.Mathlib.Decide.{dec_lt}
use lib.Dec.{ltb}
use lib.ListN.{length, get_or}
use borrow.Author.Tests.{lt-ltb, le-ltb}
use Rattle.flow.specs.declared.Use.{Use}
use Rattle.shifting.specs.Shifting.{part}
use Rattle.shifting.proofs.Laying.{part_length}
use Rattle.shifting.proofs.Places.{part_at}
use Rattle.shifting.proofs.Whole.{whole_below}
use Rattle.store.specs.Store.{Record, stamp_at}
use Rattle.parts.specs.Parts.{Rows, begin, end, those, stays, goes, is_stale, gone, dropped, use_of, RETAIN_MS}
use Rattle.parts.specs.Laws.{Fits, record_at, listed, stale, without, part_of}
use Rattle.parts.proofs.Listing.{length_listed, listed_at}
use Rattle.parts.proofs.Places.{nth, stood}
use Rattle.parts.proofs.Sifting.{stays_not, those_both}
use Rattle.scan_visit.specs.Walking.{walk_use, walk_overflow}
use Rattle.wants.specs.Wants.{Hist}
use Rattle.scan_visit.specs.Visiting.{walk, walk_part, visit_with}
use Rattle.scan_visit.specs.Laws.{use_in, wants_of, Visits}
use Rattle.scan_visit.proofs.Staying.{use_is, use_kept, slot_within, begin_is, end_is}
use Rattle.scan_visit.proofs.Turns.{walk_first}

-- a walk of the places whose uses are those of these records
walk_of : (d : Record) (m : Rows) (t a : ℕ) (rs : List Record) (g : Hist) → ((k : ℕ) → k < length rs → use_of m (a + k) ≡ use_in (get_or rs k d))
    → walk m t a (length rs) g ≡ wants_of t rs g
unfolding wants_of walk
walk_of d m t a [] g h = refl
walk_of d m t a (r ∷ rs) g h =
    let z : a + 0 ≡ a = omega arith in
    walk_first m t a (length rs) g ∙ ap (λ (u : Use). walk m t (suc a) (length rs) (walk_use u t g)) (ap (use_of m) (sym z) ∙ h 0 (omega arith))
    ∙ walk_of d m t (suc a) rs (walk_use (use_in r) t g) (λ k l. let y : suc a + k ≡ a + suc k = omega arith in ap (use_of m) y ∙ h (suc k) (omega arith))

-- ---- the test of a place as one of a record
old : (stamp now : ℕ) → ltb RETAIN_MS (now - stamp) ≡ ltb (stamp + 8000) now
old stamp now = elim (dec_lt (stamp + 8000) now) [
  | yes h ↦ lt-ltb _ (now - stamp) (omega arith) ∙ sym (lt-ltb (stamp + 8000) now h)
  | no h ↦ le-ltb _ (now - stamp) (omega arith) ∙ sym (le-ltb (stamp + 8000) now (omega arith))
]

stays_at : (m : Rows) (now k : ℕ) → stays m.slots m.units now k ≡ not (stale now (record_at m k))
unfolding stays goes is_stale stamp_at stale record_at
stays_at m now k = ap not (old _ now)

-- those at whose places p holds, where p says that q does not hold of what stands there
those_without : (d : Record) (p : ℕ → Bool) (q : Record → Bool) (i : ℕ) (xs : List Record)
    → ((k : ℕ) → k < length xs → p (i + k) ≡ not (q (get_or xs k d)))
    → those p i xs ≡ without q xs
unfolding those without
those_without d p q i [] h = refl
those_without d p q i (x ∷ xs) h =
    let z : i + 0 ≡ i = omega arith in
    by (p i) (q x) (ap p (sym z) ∙ h 0 (omega arith))
    (those_without d p q (suc i) xs (λ k l. let y : suc i + k ≡ i + suc k = omega arith in ap p y ∙ h (suc k) (omega arith)))
  where
    by : (b c : Bool) → b ≡ not c → those p (suc i) xs ≡ without q xs
        → cond b (x ∷ those p (suc i) xs) (those p (suc i) xs) ≡ cond c (without q xs) (x ∷ without q xs)
    by true true e r = absurd (cc)
    by true false e r = ap (λ (l : List Record). x ∷ l) r
    by false true e r = r
    by false false e r = absurd (cc)

-- ---- the records of the part that stay
module _ (m : Rows) (n t now : ℕ) (f : Fits m n) (h : t < 64) where
  abbrev S : Rows
  S = dropped m n t now

  abbrev D : ℕ
  D = length (gone m t now)

  abbrev a : ℕ
  a = begin m t

  abbrev b : ℕ
  b = end m t

  abbrev p : ℕ → Bool
  p = stays m.slots m.units now

  -- the part's records, and those of them that stay
  abbrev R : List Record
  R = part (listed m n) a b

  abbrev W : List Record
  W = those p a R

  within : b ≤ n
  within = whole_below m.offsets n f.whole (t + 1) (omega arith)

  long : length R ≡ b - a
  long = part_length (listed m n) a b (omega (arith, length_listed m n, within))

  slots_long : length (part m.slots a b) ≡ b - a
  slots_long = part_length m.slots a b (omega (arith, within, f.sized.slots, f.room))

  R_at : (d : Record) (k : ℕ) → k < b - a → get_or R k d ≡ record_at m (a + k)
  R_at d k l = part_at d (listed m n) a b k l ∙ listed_at d m n (a + k) (omega (arith, within))

  stay_is : (d : Record) → W ≡ without (stale now) (part_of m n t)
  unfolding part
  stay_is d = those_without d p (stale now) a R (λ k l. stays_at m now (a + k) ∙ ap (λ (r : Record). not (stale now r)) (sym (R_at d k (omega (arith, long)))))

  counts : length W + D ≡ b - a
  unfolding gone
  counts = those_both (goes m.slots m.units now) p (stays_not m.slots m.units now) a R (part m.slots a b) (long ∙ sym slots_long) ∙ long

  stands : (d : Record) (k : ℕ) → k < length W → use_of S (a + k) ≡ use_in (get_or W k d)
  stands d k l =
      let st = stood d p a R k l in
      let lo = st.low in
      let hi = st.high in
      let q = slot_within m n t now f.sized f.room f.whole h k (omega (arith, counts)) in
      let e : a + (nth p a (length R) k - a) ≡ nth p a (length R) k = add-sub_of_le lo in
      use_kept m n t now f.sized f.room f.whole h (a + k) (nth p a (length R) k) (q ∙ ap (λ (x : ℕ). get_or m.slots (nth p a x k) 0) (sym long))
      (staying (nth p a (length R) k) st.passes)
      ∙ use_is m (nth p a (length R) k) ∙ ap use_in (sym (st.same ∙ R_at d (nth p a (length R) k - a) (omega (arith, long)) ∙ ap (record_at m) e))
    where
      staying : (i : ℕ) → p i ≡ true → goes m.slots m.units now i ≡ false
      staying i e = turned (goes m.slots m.units now i) (sym (stays_not m.slots m.units now i) ∙ e)
        where
          turned : (c : Bool) → not c ≡ true → c ≡ false
          turned true e = sym e
          turned false e = refl

  part_wants : (g : Hist) → walk_part S t now g ≡ wants_of now W g
  unfolding walk_part
  part_wants g =
      let x = begin_is m n t now f.sized f.room f.whole h f.offsets in
      let e : end S t - begin S t ≡ length W = omega (arith, x, end_is m n t now f.sized f.room f.whole h f.offsets, counts) in
      ap (λ (k : ℕ). walk S now k (end S t - begin S t) g) x ∙ ap (λ (k : ℕ). walk S now a k g) e ∙ walk_of (record_at m 0) S now a W g (stands (record_at m 0))

pub visits : Visits
unfolding visit_with walk_overflow
visits m n t now o g f h =
    part_wants m n t now f h (walk_overflow o t now g) ∙ ap (λ (l : List Record). wants_of now l (walk_overflow o t now g)) (stay_is m n t now f h (record_at m 0))
