-- How often each slot stands among the entries and the free ones: the same after an insertion and after a drop. Assumes nothing.
use mathlib.Core.Path.{◌≡◌, refl, sym, ap, ◌∙◌}
use mathlib.Core.Bool.{Bool, true, false, cond, not, true≢false}
use mathlib.Core.List.{List, [], ◌∷◌, ◌++◌}
use Prim.Native.Nat.{ℕ, zero, suc, ◌+◌, ◌-◌, ◌<◌, ◌≤◌}
use native.Mathlib.Nat.{add-sub_of_le}
use native.Mathlib.Omega.{arith}
use native.Mathlib.Decide.{dec_le, ℕ_discrete}
use lib.Dec.{eqb, ltb}
use lib.ListN.{length, get_or, take, length-set}
use lib.Seq.{take-suc, take-add}
use borrow.Author.Tests.{eq-eqb, lt-ltb, le-ltb, ne_eqb}
use Rattle.flow.specs.declared.Use.{Use}
use Rattle.sender.specs.declared.Name.{Name}
use Rattle.sender.specs.Sender.{table_of_tag}
use Rattle.shifting.specs.Shifting.{over, part, down}
use Rattle.shifting.proofs.Laying.{over_take}
use Rattle.shifting.proofs.Places.{inserted_front}
use Rattle.parts.specs.Parts.{those, stays, goes, Rows, begin, end, top, gone, added, dropped, cleared, slot_of, words_of, no_words}
use Rattle.parts.specs.Held.{Sized}
use Rattle.parts.specs.Laws.{one_if, times, standing}
use Rattle.parts.proofs.Sifting.{stays_not}
use Rattle.parts.proofs.Places.{squeezed_front}
use Rattle.parts.proofs.Closing.{gone_count}
use Rattle.parts.proofs.Clearing.{length_cleared}

pub times_join : (s : ℕ) (xs ys : List ℕ) → times s (xs ++ ys) ≡ times s xs + times s ys
unfolding times
times_join s [] ys = omega arith
times_join s (x ∷ xs) ys = omega (arith, times_join s xs ys)

pub times_cons : (s x : ℕ) (xs : List ℕ) → times s (x ∷ xs) ≡ times s (x ∷ []) + times s xs
unfolding times
times_cons s x xs = omega arith

pub times_split : (s : ℕ) (p q : ℕ → Bool) → ((k : ℕ) → q k ≡ not (p k)) → (i : ℕ) (xs : List ℕ) → times s (those q i xs) + times s (those p i xs) ≡ times s xs
unfolding times those
times_split s p q w i [] = refl
times_split s p q w i (x ∷ xs) = by (times_split s p q w (suc i) xs) (p i) (q i) (w i)
  where
    by : times s (those q (suc i) xs) + times s (those p (suc i) xs) ≡ times s xs → (b c : Bool) → c ≡ not b
        → times s (cond c (x ∷ those q (suc i) xs) (those q (suc i) xs)) + times s (cond b (x ∷ those p (suc i) xs) (those p (suc i) xs)) ≡ one_if (eqb x s) + times s xs
    by r true true h = absurd (true≢false h)
    by r true false h = omega arith
    by r false true h = omega arith
    by r false false h = absurd (true≢false (sym h))

here : (s x : ℕ) (xs : List ℕ) → x ≡ s → times s (x ∷ xs) ≡ 1 + times s xs
unfolding times
here s x xs e = rw (eq-eqb x s e)

pub stands : (s : ℕ) (xs : List ℕ) (i : ℕ) → i < length xs → get_or xs i 0 ≡ s → 1 ≤ times s xs
unfolding times
stands s [] i h e = absurd (omega arith)
stands s (x ∷ xs) zero h e = omega (arith, here s x xs e)
stands s (x ∷ xs) (suc i) h e = omega (arith, stands s xs i (omega arith) e)

pub apart : (s : ℕ) (xs : List ℕ) (i j : ℕ) → times s xs ≤ 1 → i < j → j < length xs → get_or xs i 0 ≡ s → get_or xs j 0 ≡ s → ⊥
apart s [] i j o h l e f = absurd (omega arith)
apart s (x ∷ xs) i zero o h l e f = absurd (omega arith)
apart s (x ∷ xs) zero (suc j) o h l e f = absurd (omega (arith, here s x xs e, stands s xs j (omega arith) f))
apart s (x ∷ xs) (suc i) (suc j) o h l e f = apart s xs i j (less (times s (x ∷ xs)) refl) (omega arith) (omega arith) e f
  where
    less : (t : ℕ) → t ≡ times s (x ∷ xs) → times s xs ≤ 1
    less t q = omega (arith, o, times_cons s x xs)

pub take_parts : (xs : List ℕ) (p n : ℕ) → p ≤ n → take n xs ≡ take p xs ++ part xs p n
unfolding part
take_parts xs p n h = let z : p + (n - p) ≡ n = add-sub_of_le h in ap (λ (k : ℕ). take k xs) (sym z) ∙ take-add p (n - p) xs

-- ---- an insertion takes the last free slot
pub added_standing : (s : Rows) (n : ℕ) (name : Name) (used : Use) → Sized s → n < length s.units → end s (table_of_tag name.tag) ≤ n → (x : ℕ) → standing (added s n name used) (n + 1) x ≡ standing s n x
unfolding added
added_standing s n name used z l h x =
    let q = end s (table_of_tag name.tag) in
    let zs = z.slots in
    let zf = z.free in
    let f = length s.units - n - 1 in
    let e : length s.units - n ≡ suc f = omega arith in
    let u : length (added s n name used).units - (n + 1) ≡ f = omega (arith, length-set s.units (slot_of (top s n) (length s.units)) (words_of name used)) in
    let a = ap (times x) (inserted_front 0 s.slots q n (top s n) h (omega arith)) ∙ times_join x (take q s.slots) (top s n ∷ part s.slots q n) in
    let b = times_cons x (top s n) (part s.slots q n) in
    let c = ap (times x) (take_parts s.slots q n h) ∙ times_join x (take q s.slots) (part s.slots q n) in
    let d = ap (λ (k : ℕ). times x (take k s.free)) e ∙ ap (times x) (take-suc s.free f 0 (omega arith)) ∙ times_join x (take f s.free) (top s n ∷ []) in
    let g = ap (λ (k : ℕ). times x (take k s.free)) u in
    omega (arith, a, b, c, d, g)

-- ---- a drop: the slots that go become free
module _ (s : Rows) (n t now : ℕ) (z : Sized s) (r : n ≤ length s.units) (h : begin s t ≤ end s t) (l : end s t ≤ n) where
  abbrev d : ℕ
  d = length (gone s t now)

  abbrev K : List ℕ
  K = those (stays s.slots s.units now) (begin s t) (part s.slots (begin s t) (end s t))

  pub counted : length K + d ≡ end s t - begin s t
  counted = gone_count s.tags s.slots s.offsets s.free s.units s.uses n t now h l r z.tags z.slots z.free

  split : (x : ℕ) → times x K + times x (gone s t now) ≡ times x (part s.slots (begin s t) (end s t))
  unfolding gone
  split x = times_split x (goes s.slots s.units now) (stays s.slots s.units now) (stays_not s.slots s.units now) (begin s t) (part s.slots (begin s t) (end s t))

  live : (x : ℕ) → times x (take (n - d) (dropped s n t now).slots) ≡ times x (take (begin s t) s.slots) + times x K + times x (part s.slots (end s t) n)
  unfolding dropped
  live x =
      let zs = z.slots in
      ap (times x) (squeezed_front (stays s.slots s.units now) s.slots (begin s t) (end s t) n h l (omega arith) (n - d) (omega (arith, counted)))
      ∙ times_join x (take (begin s t) s.slots) (K ++ part s.slots (end s t) n) ∙ omega (arith, times_join x K (part s.slots (end s t) n))

  pub freed : take (length (dropped s n t now).units - (n - d)) (dropped s n t now).free ≡ take (length s.units - n) s.free ++ gone s t now
  unfolding dropped
  freed =
      let zf = z.free in
      let e : length (cleared (no_words) s.units (gone s t now)) - (n - d) ≡ length s.units - n + d = omega (arith, counted, length_cleared (no_words) s.units (gone s t now)) in
      ap (λ (k : ℕ). take k (over s.free (length s.units - n) (gone s t now))) e ∙ over_take s.free (length s.units - n) (gone s t now) (omega arith)

  pub dropped_standing : (x : ℕ) → standing (dropped s n t now) (n - d) x ≡ standing s n x
  dropped_standing x =
      let a = live x in
      let b = split x in
      let c = ap (times x) freed ∙ times_join x (take (length s.units - n) s.free) (gone s t now) in
      let e = ap (times x) (take_parts s.slots (end s t) n l) ∙ times_join x (take (end s t) s.slots) (part s.slots (end s t) n) in
      let f = ap (times x) (take_parts s.slots (begin s t) (end s t) h) ∙ times_join x (take (begin s t) s.slots) (part s.slots (begin s t) (end s t)) in
      omega (arith, a, b, c, e, f)

-- ---- at a start
pub down_times : (x n : ℕ) → times x (down n) ≡ one_if (ltb x n)
unfolding times down
down_times x zero = ap one_if (sym (le-ltb x 0 (omega arith)))
down_times x (suc n) = by (down_times x n) (ℕ_discrete n x)
  where
    by : times x (down n) ≡ one_if (ltb x n) → Dec (n ≡ x) → one_if (eqb n x) + times x (down n) ≡ one_if (ltb x (suc n))
    by r (yes e) = omega (arith, r, ap one_if (eq-eqb n x e), ap one_if (le-ltb x n (omega arith)), ap one_if (lt-ltb x (suc n) (omega arith)))
    by r (no e) = elim (dec_le n x) [
      | yes h ↦ omega (arith, r, ap one_if (ne_eqb n x e), ap one_if (le-ltb x n h), ap one_if (le-ltb x (suc n) (omega arith)))
      | no h ↦ omega (arith, r, ap one_if (ne_eqb n x e), ap one_if (lt-ltb x n (omega arith)), ap one_if (lt-ltb x (suc n) (omega arith)))
    ]
