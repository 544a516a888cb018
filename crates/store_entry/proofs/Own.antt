-- Which record `entry` gives. Assumes nothing.
use mathlib.Core.Path.{◌≡◌, refl, sym, ap, subst, ◌∙◌}
use mathlib.Core.Bool.{Bool, true, false, cond, ◌&&◌, true≢false}
use mathlib.Core.Logic.{◌⊎◌, inl, inr}
use mathlib.Core.List.{List, [], ◌∷◌, ◌++◌}
use Prim.Native.Nat.{ℕ, suc, ◌+◌, ◌-◌, ◌<◌, ◌≤◌}
use native.Mathlib.Nat.{add-sub_of_le}
use native.Mathlib.Omega.{arith}
use native.Mathlib.Decide.{dec_lt}
use lib.Dec.{eqb}
use lib.ListN.{length, get_or, set, take, drop, length-set, get_or-append}
use lib.Seq.{get_or-take, get_or-drop, length-take-le, get_or-set_same, get_or-set_other}
use borrow.Author.Tests.{lt-ltb, le-ltb, eq-eqb, eqb-true}
use Rattle.std.specs.Prelude.{Some, None}
use Rattle.std.proofs.lemmas.Bool.{and_parts}
use Rattle.flow.specs.Flow as flow
use Rattle.flow.specs.declared.Use.{Use}
use Rattle.sender.specs.declared.Unit.{Unit}
use Rattle.sender.specs.declared.Name.{Name}
use Rattle.sender.specs.Sender.{hash_of, name_by_hash, name_of, is_overflow, table_of_tag, same}
use Rattle.sender.proofs.Feeding.{hash_below}
use Rattle.sender.proofs.Ranking.{table_is, tag_table}
use Rattle.sender.proofs.Reading.{name_ext, words_same, words_self}
use Rattle.shifting.specs.Offsets.{Whole, «PARTS»}
use Rattle.shifting.specs.Shifting.{inserted}
use Rattle.shifting.proofs.Whole.{whole_below}
use Rattle.shifting.proofs.Places.{later, inserted_here, inserted_before, inserted_behind, inserted_beyond}
use Rattle.store.specs.Store.{Record, first, has_tag, words_at}
use Rattle.store.specs.Found.{found}
use Rattle.store.proofs.Found.{some_found, none_found, found_some}
use Rattle.store.proofs.Steps.{first_holds, first_least, first_some, first_all}
use Rattle.parts.specs.Held.{Sized}
use Rattle.parts.specs.Parts.{Rows, begin, end, slot_of, slot_at, is_at, find_within, find, top, added, words_of, floats_of}
use Rattle.parts.specs.Laws.{Sound, Homed, record_at, entry_at, listed, record_of}
use Rattle.parts.proofs.Listing.{length_listed, listed_at}
use Rattle.parts.proofs.Keeping.{same_entry}
use Rattle.parts.proofs.Laws.{comes}
use Rattle.parts.proofs.Searching.{searches}
use Rattle.store_entry.specs.Entering.{entered, place, entry}
use Rattle.store_entry.specs.Own.{name_at, table_of, Stays, SameRows, At, Has, Fits, Found, Added, Owns}

-- each unit's tag names a table
pub table_below : (u : Unit) → table_of u < «PARTS»
unfolding name_by_hash
table_below u = let h = hash_below u in let e = tag_table (hash_of u) ∙ table_is (hash_of u) in omega arith

-- ---- a record passes the search's test exactly if it holds the name
pub named_is : (m : Rows) (name : Name) (i : ℕ) → name_at m i ≡ name → is_at m name i ≡ true
unfolding is_at has_tag
named_is m name i e =
    subst (λ (n : Name). (eqb (get_or m.tags i 0) n.tag && same (words_at m.units (slot_at m i)) n.words) ≡ true) e
    (simp (eq-eqb (get_or m.tags i 0) (get_or m.tags i 0) refl, words_self (words_at m.units (slot_at m i))))

pub is_named : (m : Rows) (name : Name) (i : ℕ) → is_at m name i ≡ true → name_at m i ≡ name
unfolding is_at has_tag
is_named m name i e =
    let a = and_parts (eqb (get_or m.tags i 0) name.tag) _ e in
    name_ext (get_or m.tags i 0) name.tag (words_at m.units (slot_at m i)) name.words (eqb-true (get_or m.tags i 0) name.tag a.0)
    (words_same (words_at m.units (slot_at m i)) name.words a.1)

-- ---- the record just added holds the name
slot_low : (entry room : ℕ) → 0 < room → slot_of entry room < room
slot_low entry room h = elim (dec_lt entry room) [
  | yes l ↦ subst (λ (b : Bool). cond b entry 0 < room) (sym (lt-ltb entry room l)) l
  | no l ↦ subst (λ (b : Bool). cond b entry 0 < room) (sym (le-ltb entry room (omega arith))) h
]

words_written : (units : List (List ℕ)) (slot : ℕ) (name : Name) (u : Use) → slot < length units → words_at (set units slot (words_of name u)) slot ≡ name.words
unfolding words_at
words_written units slot name u h = rw (get_or-set_same units slot (words_of name u) [] h) refl

module _ (m : Rows) (n : ℕ) (name : Name) (u : Use) (z : Sized m) (w : Whole m.offsets n) (t : table_of_tag name.tag < «PARTS») (l : n < length m.units) where
  -- its place, the slot taken, and the rows then
  abbrev b : ℕ
  b = end m (table_of_tag name.tag)

  abbrev taken : ℕ
  taken = slot_of (top m n) (length m.units)

  abbrev U : List (List ℕ)
  U = set m.units taken (words_of name u)

  within : b ≤ n
  within = whole_below m.offsets n w (table_of_tag name.tag + 1) (omega arith)

  slot_here : slot_of (get_or (inserted m.slots b n (top m n)) b 0) (length U) ≡ taken
  slot_here =
      ap (λ (r : ℕ). slot_of r (length U)) (inserted_here 0 m.slots b n (top m n) within (omega (arith, z.slots)))
      ∙ ap (slot_of (top m n)) (length-set m.units taken (words_of name u))

  slot_taken : slot_at (added m n name u) b ≡ taken
  unfolding added
  slot_taken = slot_here

  words_here : words_at U (slot_of (get_or (inserted m.slots b n (top m n)) b 0) (length U)) ≡ name.words
  words_here = ap (words_at U) slot_here ∙ words_written m.units taken name u (slot_low (top m n) (length m.units) z.some)

  named_here : name_at (added m n name u) b ≡ name
  unfolding added
  named_here = name_ext _ name.tag _ name.words (inserted_here 0 m.tags b n name.tag within (omega (arith, z.tags))) words_here

  -- ---- and the others stay
  same_rows : (x : ℕ) → (x ≡ taken → ⊥) → SameRows m (added m n name u) x
  unfolding added
  same_rows x c = (get_or-set_other m.units taken x (words_of name u) [] c, get_or-set_other m.uses taken x (floats_of u) [] c)

  tag_before : (j : ℕ) → j < b → get_or (added m n name u).tags j 0 ≡ get_or m.tags j 0
  unfolding added
  tag_before j h = inserted_before 0 m.tags b n name.tag within (omega (arith, z.tags)) j h

  slot_before : (j : ℕ) → j < b → get_or (added m n name u).slots j 0 ≡ get_or m.slots j 0
  unfolding added
  slot_before j h = inserted_before 0 m.slots b n (top m n) within (omega (arith, z.slots)) j h

  tag_behind : (j : ℕ) → b ≤ j → j < n → get_or (added m n name u).tags (j + 1) 0 ≡ get_or m.tags j 0
  unfolding added
  tag_behind j g h = inserted_behind 0 m.tags b n name.tag within (omega (arith, z.tags)) j g h

  slot_behind : (j : ℕ) → b ≤ j → j < n → get_or (added m n name u).slots (j + 1) 0 ≡ get_or m.slots j 0
  unfolding added
  slot_behind j g h = inserted_behind 0 m.slots b n (top m n) within (omega (arith, z.slots)) j g h

  place_beyond : (j : ℕ) → n < j → entry_at (added m n name u) j ≡ entry_at m j
  unfolding added entry_at
  place_beyond j h = same_entry _ _ _ _ (inserted_beyond 0 m.tags b n name.tag within (omega (arith, z.tags)) j h) (inserted_beyond 0 m.slots b n (top m n) within (omega (arith, z.slots)) j h)

  -- the records, where each slot is named once
  module _ (s : Sound m n) where
    abbrev L : List Record
    L = listed m n

    abbrev r : Record
    r = record_of name u

    one_at : (j : ℕ) → j < n + 1 → record_at (added m n name u) j ≡ get_or (take b L ++ (r ∷ drop b L)) j r
    one_at j h = sym (listed_at r (added m n name u) (n + 1) j h) ∙ ap (λ (l : List Record). get_or l j r) (comes m n name u s l t).list

    front : length (take b L) ≡ b
    front = length-take-le b L (omega (arith, length_listed m n, within))

    same_before : (j : ℕ) → j < b → record_at (added m n name u) j ≡ record_at m j
    same_before j h =
        one_at j (omega (arith, within)) ∙ get_or-append (take b L) (r ∷ drop b L) r j (omega (arith, front))
        ∙ get_or-take b L j r h ∙ listed_at r m n j (omega (arith, within))

    same_behind : (j : ℕ) → b ≤ j → j < n → record_at (added m n name u) (j + 1) ≡ record_at m j
    same_behind j g h =
        let x : j + 1 - b ≡ suc (j - b) = omega arith in
        let y : b + (j - b) ≡ j = add-sub_of_le g in
        one_at (j + 1) (omega arith) ∙ later r (take b L) (r ∷ drop b L) b (j + 1) front (omega arith)
        ∙ ap (λ (i : ℕ). get_or (r ∷ drop b L) i r) x ∙ get_or-drop b L (j - b) r ∙ ap (λ (i : ℕ). get_or L i r) y ∙ listed_at r m n j h

  before : (j : ℕ) → j < b → Stays m (added m n name u) n j j
  before j h = record { tag = tag_before j h; slot = slot_before j h; same = λ s. same_before s j h }

  behind : (j : ℕ) → b ≤ j → j < n → Stays m (added m n name u) n j (j + 1)
  behind j g h = record { tag = tag_behind j g h; slot = slot_behind j g h; same = λ s. same_behind s j g h }

-- ---- the search
module _ (m : Rows) (n : ℕ) (u : Unit) (w : Whole m.offsets n) (h : table_of u < «PARTS») where
  abbrev from : ℕ
  from = begin m (table_of u)

  abbrev to : ℕ
  to = end m (table_of u)

  -- the test of the place k of the part
  abbrev p : ℕ → Bool
  p k = is_at m (name_of u) (from + k)

  abbrev f : ℕ
  f = first p (to - from)

  find_is : find m (name_of u) ≡ found to (from + f)
  unfolding find find_within is_at
  find_is = refl

  holds : (i : ℕ) → At m u i → p (i - from) ≡ true
  holds i a = let z : from + (i - from) ≡ i = add-sub_of_le a.low in ap (is_at m (name_of u)) z ∙ named_is m (name_of u) i a.named

  found_low : Has m u → f < to - from
  found_low a = let lo = a.is.low in let hi = a.is.high in first_some p (to - from) (a.at - from) (omega arith) (holds a.at a.is)

  -- there is one, or none
  pub has_or_not : Has m u ⊎ (Has m u → ⊥)
  has_or_not = elim (dec_lt f (to - from)) [
    | yes l ↦ inl (record { at = from + f; is = record { low = omega arith; high = omega (arith, l); named = is_named m (name_of u) (from + f) (first_holds p (to - from) l) } })
    | no l ↦ inr (λ a. l (found_low a))
  ]

  found_there : Has m u → find m (name_of u) ≡ Some (from + f)
  found_there a = find_is ∙ some_found to (from + f) (omega (arith, found_low a))

  found_is : Has m u → At m u (from + f)
  found_is a = record { low = omega arith; high = omega (arith, found_low a); named = is_named m (name_of u) (from + f) (first_holds p (to - from) (found_low a)) }

  found_first : (j : ℕ) → j < from + f → At m u j → ⊥
  found_first j l a = let lo = a.low in true≢false (sym (holds j a) ∙ first_least p (to - from) (j - from) (omega arith))

  found_none : (Has m u → ⊥) → find m (name_of u) ≡ None
  found_none lacks = find_is ∙ none_found to (from + f) (omega (arith, first_all p (to - from) none, w.rises (table_of u) h))
    where
      none : (k : ℕ) → 0 ≤ k → k < to - from → p k ≡ false
      none k x l = go (p k) refl
        where
          go : (c : Bool) → p k ≡ c → p k ≡ false
          go true e = absurd (lacks (record { at = from + k; is = record { low = omega arith; high = omega arith; named = is_named m (name_of u) (from + k) e } }))
          go false e = e

  -- where each part has only entries of its own table
  module _ (home : Homed m) where
    abbrev all : ℕ
    all = first (is_at m (name_of u)) n

    everywhere : (i : ℕ) → i < n → name_at m i ≡ name_of u → (from + f ≡ all) × (from + f < to)
    everywhere i l e =
        let q = first_some (is_at m (name_of u)) n i l (named_is m (name_of u) i e) in
        found_some to (from + f) all (sym find_is ∙ (searches m n (name_of u) w h).everywhere home ∙ some_found n all q)

    found_anywhere : (i : ℕ) → i < n → name_at m i ≡ name_of u → Has m u
    found_anywhere i l e =
        let q = everywhere i l e in
        let g = first_holds p (to - from) (omega (arith, q.1)) in
        record { at = from + f; is = record { low = omega arith; high = q.1; named = is_named m (name_of u) (from + f) g } }

    found_of_all : Has m u → (j : ℕ) → j < from + f → name_at m j ≡ name_of u → ⊥
    found_of_all a j l e =
        let c = found_low a in
        let b = whole_below m.offsets n w (table_of u + 1) (omega (arith, h)) in
        let q = everywhere j (omega arith) e in
        true≢false (sym (named_is m (name_of u) j e) ∙ first_least (is_at m (name_of u)) n j (omega (arith, q.0)))

-- ---- the record
module _ (m : Rows) (tracked room : ℕ) (u : Unit) (clock : ℕ) (w : Fits m tracked room) where
  h : table_of u < «PARTS»
  h = table_below u

  within-2 : end m (table_of u) ≤ tracked
  within-2 = whole_below m.offsets tracked w.whole (table_of u + 1) (omega (arith, h))

  found_one : is_overflow u ≡ false → Has m u → Found m tracked u (entry m tracked room u clock)
  found_one o a =
      let f = first (λ (k : ℕ). is_at m (name_of u) (begin m (table_of u) + k)) (end m (table_of u) - begin m (table_of u)) in
      let q = found_is m tracked u w.whole h a in
      let hi = q.high in
      let l : begin m (table_of u) + f < room = omega (arith, w.used, within-2) in
      let x = found_there m tracked u w.whole h a in
      let e : entry m tracked room u clock ≡ entered (place (begin m (table_of u) + f) tracked) m = unfold entry in simp (o, x, lt-ltb _ _ l) in
      rw e (record { is = q; first = found_first m tracked u w.whole h; of_all = λ home. found_of_all m tracked u w.whole h home a; kept = refl })

  added_one : is_overflow u ≡ false → (Has m u → ⊥) → tracked < room → Added m tracked u (entry m tracked room u clock)
  added_one o lacks l =
      let N = name_of u in
      let U = flow.added clock in
      let x = found_none m tracked u w.whole h lacks in
      let e : entry m tracked room u clock ≡ entered (place (end m (table_of u)) (tracked + 1)) (added m tracked N U) =
      unfold entry in simp (o, x, le-ltb room room (omega arith), lt-ltb _ _ l) in
      let r : tracked < length m.units = omega (arith, w.units) in
      rw e (record {
        at_end = refl;
        named = named_here m tracked N U w.sized w.whole h r;
        before = before m tracked N U w.sized w.whole h r;
        behind = behind m tracked N U w.sized w.whole h r;
        rows = same_rows m tracked N U w.sized w.whole h r;
        slot = slot_taken m tracked N U w.sized w.whole h r;
        beyond = place_beyond m tracked N U w.sized w.whole h r;
      })

  full : is_overflow u ≡ false → (Has m u → ⊥) → tracked ≡ room → entry m tracked room u clock ≡ entered (place room tracked) m
  full o lacks l =
      let x = found_none m tracked u w.whole h lacks in
      unfold entry in simp (o, x, le-ltb room room (omega arith), le-ltb tracked room (omega arith))

  shared : is_overflow u ≡ true → entry m tracked room u clock ≡ entered (place room tracked) m
  shared o = unfold entry in simp o

pub owns : Owns
owns m tracked room u clock w = record {
  found = found_one m tracked room u clock w;
  added = added_one m tracked room u clock w;
  anywhere = λ home. found_anywhere m tracked u w.whole (table_below u) home;
  full = full m tracked room u clock w;
  shared = shared m tracked room u clock w;
}
