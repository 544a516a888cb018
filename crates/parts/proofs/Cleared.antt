-- What a drop leaves of the entries and of the slots, whatever the slots are that the entries name. Assumes nothing.
use mathlib.Core.Path.{◌≡◌, refl, sym, ap, subst, ◌∙◌}
use mathlib.Core.Bool.{Bool, true, false, cond, not}
use mathlib.Core.List.{List, [], ◌∷◌, ◌++◌}
use Prim.Native.Nat.{ℕ, zero, suc, ◌+◌, ◌-◌, ◌<◌, ◌≤◌}
use native.Mathlib.Nat.{add-zero, add-sub_of_le}
use native.Mathlib.Omega.{arith}
use native.Mathlib.Decide.{dec_le}
use lib.ListN.{length, get_or, take, drop, length-append, get_or-append}
use Rattle.store.specs.Store.{Record}
use Rattle.shifting.specs.Shifting.{part}
use Rattle.shifting.proofs.Laying.{part_length}
use Rattle.shifting.proofs.Places.{later, part_at}
use Rattle.parts.specs.Parts.{Rows, begin, end, those, stays, goes, gone, dropped, left, slot_of, slot_at, no_words, no_floats}
use Rattle.parts.specs.Laws.{Entry, an_entry, entry_at, entries, of_entry, stale, record_at, without, Fits, Goes, Cleared, Clear}
use Rattle.parts.proofs.Places.{nth, stood}
use Rattle.parts.proofs.Listing.{cleared_other}
use Rattle.parts.proofs.Keeping.{same_entry, inside, dropped_fits, dropped_freed, dropped_behind, dropped_lengths, dropped_cleared}
use Rattle.parts.proofs.Dropping.{stood_at, stood_low, stood_tag, stood_slot, stood_list}
use Rattle.parts.proofs.Stale.{goes_at, stays_at, those_without}

length_entries : (m : Rows) (n : ℕ) → length (entries m n) ≡ n
unfolding entries
length_entries m zero = refl
length_entries m (suc n) = omega (arith, length-append (entries m n) (entry_at m n ∷ []), length_entries m n)

entries_at : (d : Entry) (m : Rows) (n k : ℕ) → k < n → get_or (entries m n) k d ≡ entry_at m k
unfolding entries
entries_at d m zero k h = absurd (omega arith)
entries_at d m (suc n) k h = elim (dec_le n k) [
  | yes a ↦ (let e : k ≡ n = omega arith in
      let z : k - n ≡ 0 = omega arith in
      later d (entries m n) (entry_at m n ∷ []) n k (length_entries m n) a ∙ ap (λ (i : ℕ). get_or (entry_at m n ∷ []) i d) z ∙ sym (ap (entry_at m) e))
  | no a ↦ get_or-append (entries m n) (entry_at m n ∷ []) d k (omega (arith, length_entries m n)) ∙ entries_at d m n k (omega arith)
]

zero_entry : Entry
zero_entry = an_entry 0 0

-- an entry at which p holds is among those
there : (p : ℕ → Bool) (i : ℕ) (xs : List ℕ) (k : ℕ) → k < length xs → p (i + k) ≡ true → (j : ℕ) × (j < length (those p i xs)) × (get_or (those p i xs) j 0 ≡ get_or xs k 0)
unfolding those
there p i [] k h e = absurd (omega arith)
there p i (x ∷ xs) zero h e = by (p i) (ap p (sym (add-zero i)) ∙ e)
  where
    by : (b : Bool) → b ≡ true → (j : ℕ) × (j < length (cond b (x ∷ those p (suc i) xs) (those p (suc i) xs))) × (get_or (cond b (x ∷ those p (suc i) xs) (those p (suc i) xs)) j 0 ≡ x)
    by true q = (0, omega arith, refl)
    by false q = absurd (cc)
there p i (x ∷ xs) (suc k) h e =
    let z : suc i + k ≡ i + suc k = omega arith in
    by (p i) (there p (suc i) xs k (omega arith) (ap p z ∙ e))
  where
    by : (b : Bool) → (j : ℕ) × (j < length (those p (suc i) xs)) × (get_or (those p (suc i) xs) j 0 ≡ get_or xs k 0)
        → (j : ℕ) × (j < length (cond b (x ∷ those p (suc i) xs) (those p (suc i) xs))) × (get_or (cond b (x ∷ those p (suc i) xs) (those p (suc i) xs)) j 0 ≡ get_or xs k 0)
    by true r = let l = r.1 in (suc r.0, omega arith, r.2)
    by false r = r

module _ (m : Rows) (n t at_ms : ℕ) (w : Fits m n) (h : t < 64) where
  abbrev a : ℕ
  a = begin m t

  abbrev b : ℕ
  b = end m t

  abbrev S : Rows
  S = dropped m n t at_ms

  abbrev E : List Entry
  E = entries m n

  within : b ≤ n
  within = inside m n t at_ms w h

  entry_stays : (k : ℕ) → stays m.slots m.units at_ms k ≡ not (stale at_ms (of_entry m (entry_at m k)))
  entry_stays k = stays_at m at_ms k ∙ ap (λ (r : Record). not (stale at_ms r)) (unfold record_at of_entry entry_at in refl)

  part_stays : those (stays m.slots m.units at_ms) a (part E a b) ≡ without (λ (e : Entry). stale at_ms (of_entry m e)) (part E a b)
  part_stays = those_without zero_entry (stays m.slots m.units at_ms) (λ (e : Entry). stale at_ms (of_entry m e)) a (part E a b) (λ k l.
      let u = part_length E a b (omega (arith, length_entries m n, within)) in
      let e = part_at zero_entry E a b k (omega arith) ∙ entries_at zero_entry m n (a + k) (omega (arith, within)) in
      entry_stays (a + k) ∙ ap (λ (x : Entry). not (stale at_ms (of_entry m x))) (sym e))

  entry_came : (k : ℕ) → k < left m n t at_ms → entry_at S k ≡ entry_at m (stood_at m t at_ms k)
  unfolding entry_at
  entry_came k l = same_entry _ _ _ _ (stood_tag m n t at_ms w h k l) (stood_slot m n t at_ms w h k l)

  list : entries S (left m n t at_ms) ≡ (take a E ++ without (λ (e : Entry). stale at_ms (of_entry m e)) (part E a b)) ++ drop b E
  list =
      stood_list m n t at_ms w h zero_entry E (entries S (left m n t at_ms)) (length_entries m n) (length_entries S (left m n t at_ms))
      (λ k l. entries_at zero_entry S (left m n t at_ms) k l ∙ entry_came k l ∙ sym (entries_at zero_entry m n (stood_at m t at_ms k) (stood_low m n t at_ms w h k l)))
      ∙ ap (λ (l : List Entry). (take a E ++ l) ++ drop b E) part_stays

  freed_places : (k : ℕ) → left m n t at_ms ≤ k → k < n → entry_at S k ≡ an_entry 0 0
  unfolding entry_at
  freed_places k l u = let f = dropped_freed m n t at_ms w h k l u in same_entry _ _ _ _ f.0 f.1

  -- ---- the slots
  abbrev p : ℕ → Bool
  p = goes m.slots m.units at_ms

  abbrev G : List ℕ
  G = gone m t at_ms

  long : length (part m.slots a b) ≡ b - a
  long = part_length m.slots a b (omega (arith, within, w.sized.slots, w.room))

  -- a slot that an entry of the part has whose record is stale
  went : (k : ℕ) → Goes m t at_ms k → (j : ℕ) × (j < length G) × (slot_of (get_or G j 0) (length m.units) ≡ slot_at m k)
  unfolding gone
  went k g =
      let lo = g.0 in
      let hi = g.1 in
      let z : a + (k - a) ≡ k = add-sub_of_le lo in
      let r = there p a (part m.slots a b) (k - a) (omega (arith, long)) (ap p z ∙ goes_at m at_ms k ∙ g.2) in
      (r.0, r.1, ap (λ (x : ℕ). slot_of x (length m.units)) (r.2 ∙ part_at 0 m.slots a b (k - a) (omega arith) ∙ ap (λ (i : ℕ). get_or m.slots i 0) z))

  came_from : (j : ℕ) → j < length G → (k : ℕ) × Goes m t at_ms k × (slot_at m k ≡ slot_of (get_or G j 0) (length m.units))
  unfolding gone
  came_from j l =
      let st = stood 0 p a (part m.slots a b) j l in
      let k = nth p a (length (part m.slots a b)) j in
      let lo = st.low in
      let hi = st.high in
      let z : a + (k - a) ≡ k = add-sub_of_le lo in
      (k, (lo, omega (arith, long), sym (goes_at m at_ms k) ∙ st.passes), ap (λ (x : ℕ). slot_of x (length m.units)) (sym (st.same ∙ part_at 0 m.slots a b (k - a) (omega (arith, long)) ∙ ap (λ (i : ℕ). get_or m.slots i 0) z)))

  clear_there : (k : ℕ) → Goes m t at_ms k → Cleared S (slot_at m k)
  clear_there k g = let r = went k g in subst (λ (y : ℕ). Cleared S y) r.2 (dropped_cleared m n t at_ms w h r.0 r.1)

  kept : (y : ℕ) → ((k : ℕ) → Goes m t at_ms k → slot_at m k ≡ y → ⊥) → (get_or S.units y [] ≡ get_or m.units y []) × (get_or S.uses y [] ≡ get_or m.uses y [])
  unfolding dropped
  kept y f = (
    cleared_other [] no_words m.units G y (λ j l q. let r = came_from j l in f r.0 r.1 (r.2 ∙ sym q)),
    cleared_other [] no_floats m.uses G y (λ j l q. let r = came_from j l in f r.0 r.1 (r.2 ∙ ap (slot_of (get_or G j 0)) (sym w.sized.uses) ∙ sym q)),
  )

pub clear : Clear
unfolding part
clear m n t at_ms w h = record {
  list = list m n t at_ms w h;
  fits = dropped_fits m n t at_ms w h;
  cleared = clear_there m n t at_ms w h;
  kept = λ y l. kept m n t at_ms w h y;
  freed = freed_places m n t at_ms w h;
  behind = dropped_behind m n t at_ms w h;
  lengths = dropped_lengths m n t at_ms w h;
}
