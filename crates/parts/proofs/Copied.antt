-- What the copies of a visit come to: they make the index, and each entry is copied at most once. Assumes nothing.
use mathlib.Core.Path.{◌≡◌, refl, sym, ap, subst, ◌∙◌}
use mathlib.Core.Bool.{Bool, true, false, cond, not, ◌&&◌, true≢false}
use mathlib.Core.List.{List, [], ◌++◌}
use Prim.Native.Nat.{ℕ, zero, suc, ◌+◌, ◌-◌, ◌<◌, ◌≤◌}
use native.Mathlib.Nat.{add-sub_of_le}
use native.Mathlib.Omega.{arith}
use native.Mathlib.Decide.{dec_lt}
use lib.ListN.{length, get_or, take, length-append}
use lib.Dec.{ltb}
use lib.Seq.{get_or-take}
use borrow.Author.Tests.{lt-ltb, le-ltb, le-leb, lt-leb}
use Rattle.store.specs.Store.{None, first}
use Rattle.store.proofs.Steps.{first_least, first_holds, first_found, first_all}
use Rattle.shifting.specs.Shifting.{over, part, down}
use Rattle.shifting.proofs.Down.{down_at, down_long}
use Rattle.shifting.specs.Offsets.{Whole}
use Rattle.shifting.proofs.Laying.{over_take, part_length}
use Rattle.shifting.proofs.Whole.{whole_below}
use Rattle.parts.specs.Parts.{those, goes, squeezed, Rows, begin, end, gone, dropped, left, no_words, no_floats, slot_of}
use Rattle.parts.specs.Parts as parts
use Rattle.parts.specs.Held.{Sized}
use Rattle.parts.specs.Copies.{Copy, copy_at, drops, first_dropped, going_down, copies, copied_from, ran, carried, Once_each, No_other_way, Rows_lie}
use Rattle.parts.proofs.Sifting.{stays_not}
use Rattle.parts.proofs.Places.{squeezed_front}
use Rattle.parts.proofs.Closing.{gone_count}
use Rattle.parts.proofs.Passing.{none_left, none_dropped}
use Rattle.parts.proofs.Listing.{cleared_other}
use Rattle.parts.proofs.Dropping.{words_stay, floats_stay}
use Rattle.parts.proofs.Past.{those_join, those_same, those_all, those_long, part_join, past_long, squeezed_past}
use Rattle.parts.proofs.Copying.{length_down, down_gone, before, behind, leaves, stays, most, from_at, to_at, high_at, rises_at, ran_down, ran_at}
use Rattle.parts.proofs.Carrying.{Apart, uncarried, carried_once}

-- ---- the first that is dropped
most_case : (n f : ℕ) (b c : Bool) → f ≤ n → cond b f (cond c n (suc n)) ≤ suc n
most_case n f true c h = omega arith
most_case n f false true h = omega arith
most_case n f false false h = omega arith

first_most : (p : ℕ → Bool) (n : ℕ) → first p n ≤ n
unfolding first
first_most p zero = omega arith
first_most p (suc n) = most_case n (first p n) (ltb (first p n) n) (p n) (first_most p n)

and_out : (a b c : Bool) → b ≡ false → ((a && b) && c) ≡ false
and_out true b c e = rw e
and_out false b c e = refl

module _ (m : Rows) (t now : ℕ) where
  abbrev D : ℕ → Bool
  D = drops m t now

  drops_before : (k : ℕ) → k < begin m t → D k ≡ false
  unfolding drops
  drops_before k h = rw (lt-leb (begin m t) k h)

  drops_behind : (k : ℕ) → end m t ≤ k → D k ≡ false
  unfolding drops
  drops_behind k h = and_out _ _ _ (le-ltb k (end m t) h)

  drops_within : (k : ℕ) → begin m t ≤ k → k < end m t → D k ≡ goes m.slots m.units now k
  unfolding drops
  drops_within k h l = rw (le-leb (begin m t) k h, lt-ltb k (end m t) l)

  drops_low : (k : ℕ) → D k ≡ true → begin m t ≤ k
  drops_low k e = elim (dec_lt k (begin m t)) [ yes h ↦ absurd (true≢false (sym e ∙ drops_before k h)) | no h ↦ omega arith ]

  drops_high : (k : ℕ) → D k ≡ true → k < end m t
  drops_high k e = elim (dec_lt k (end m t)) [ yes h ↦ h | no h ↦ absurd (true≢false (sym e ∙ drops_behind k (omega arith))) ]

  module _ (n : ℕ) where
    abbrev f : ℕ
    f = first_dropped m n t now

    still_before : end m t ≤ n → (k : ℕ) → begin m t ≤ k → k < end m t → k < f → goes m.slots m.units now k ≡ false
    still_before l k a b h = sym (drops_within k a b) ∙ first_least D n k h

    -- as the code finds it
    pub first_is : (i : ℕ) → begin m t ≤ i → i < end m t → end m t ≤ n → None (goes m.slots m.units now) (begin m t) i → goes m.slots m.units now i ≡ true → f ≡ i
    first_is i a b l s e =
        first_found D n i (omega arith)
        (first_all D i (λ k u v. elim (dec_lt k (begin m t)) [ yes h ↦ drops_before k h | no h ↦ drops_within k (omega arith) (omega arith) ∙ s k (omega arith) v ]))
        (drops_within i a b ∙ e)

    pub none_is : end m t ≤ n → None (goes m.slots m.units now) (begin m t) (end m t) → f ≡ n
    none_is l s =
        first_all D n (λ k u v. elim (dec_lt k (begin m t)) [
          | yes h ↦ drops_before k h
          | no h ↦ elim (dec_lt k (end m t)) [ yes g ↦ drops_within k (omega arith) g ∙ s k (omega arith) g | no g ↦ drops_behind k (omega arith) ]
        ])

-- ---- a visit
module _ (m : Rows) (n t now : ℕ) (z : Sized m) (w : Whole m.offsets n) (r : n ≤ length m.units) (h : t < 64) where
  abbrev p : ℕ → Bool
  p = parts.stays m.slots m.units now

  abbrev E : ℕ → Bool
  E = drops m t now

  abbrev F : ℕ
  F = first_dropped m n t now

  up : begin m t ≤ end m t
  up = w.rises t h

  within : end m t ≤ n
  within = whole_below m.offsets n w (t + 1) (omega arith)

  low : F ≤ n
  low = first_most E n

  along : F + (n - F) ≡ n
  along = add-sub_of_le low

  ran_laid : (xs : List ℕ) → n ≤ length xs → ran (copies m n t now) xs ≡ over xs F (those (λ k. not (E k)) F (part xs F n))
  unfolding copies
  ran_laid xs o = ran_down E (n - F) F F xs (omega arith) (omega (arith, along)) ∙ ap (λ (k : ℕ). over xs F (those (λ i. not (E i)) F (part xs F k))) along

  count_copies : (xs : List ℕ) → n ≤ length xs → length (copies m n t now) ≡ length (those (λ k. not (E k)) F (part xs F n))
  unfolding copies
  count_copies xs o = length_down E (n - F) F F (part xs F n) (part_length xs F n o)

  -- some are dropped
  module _ (l : F < n) where
    dropped_here : E F ≡ true
    dropped_here = first_holds E n l

    above : begin m t ≤ F
    above = drops_low m t now F dropped_here

    inner : F < end m t
    inner = drops_high m t now F dropped_here

    passed : (k : ℕ) → begin m t ≤ k → k < F → p k ≡ true
    passed k a b = stays_not m.slots m.units now k ∙ ap not (still_before m t now n within k a (omega (arith, inner)) b)

    -- those of the part that stay from there on, and those behind the part
    abbrev K : List ℕ → List ℕ
    K xs = those p F (part xs F (end m t))

    going : (xs : List ℕ) → n ≤ length xs → those (λ k. not (E k)) F (part xs F n) ≡ K xs ++ part xs (end m t) n
    going xs o =
        let a = inner in
        let b = within in
        let c = part_length xs F (end m t) (omega arith) in
        let d = part_length xs (end m t) n o in
        let y : F + length (part xs F (end m t)) ≡ end m t = omega arith in
        ap (those (λ k. not (E k)) F) (part_join xs F (end m t) n (omega arith) b) ∙ those_join (λ k. not (E k)) F (part xs F (end m t)) (part xs (end m t) n)
        ∙ ap (λ (k : ℕ). those (λ i. not (E i)) F (part xs F (end m t)) ++ those (λ i. not (E i)) k (part xs (end m t) n)) y
        ∙ ap (λ (r : List ℕ). r ++ those (λ i. not (E i)) (end m t) (part xs (end m t) n))
        (those_same (λ i. not (E i)) p F (part xs F (end m t)) (λ k u v. ap not (drops_within m t now k (omega (arith, above)) (omega arith)) ∙ sym (stays_not m.slots m.units now k)))
        ∙ ap (λ (r : List ℕ). K xs ++ r) (those_all (λ i. not (E i)) (end m t) (part xs (end m t) n) (λ k u v. ap not (drops_behind m t now k u)))

    total_some : F + (length (K m.slots) + (n - end m t)) ≡ left m n t now
    total_some =
        let a = gone_count m.tags m.slots m.offsets m.free m.units m.uses n t now up within r z.tags z.slots z.free in
        let b = past_long p m.slots (begin m t) F (end m t) n above (omega (arith, inner)) within (omega (arith, z.slots)) passed in
        omega (arith, up, within, above, inner)

    K_long : (xs : List ℕ) → n ≤ length xs → length (K xs) ≡ length (K m.slots)
    K_long xs o = those_long p F (part xs F (end m t)) (part m.slots F (end m t)) (part_length xs F (end m t) (omega (arith, within)) ∙ sym (part_length m.slots F (end m t) (omega (arith, within, z.slots))))

    row_some : (xs : List ℕ) → n ≤ length xs → take (left m n t now) (squeezed p xs (begin m t) (end m t) n) ≡ take (left m n t now) (ran (copies m n t now) xs)
    row_some xs o =
        let a : left m n t now ≡ F + length (K xs) + (n - end m t) = omega (arith, total_some, K_long xs o) in
        let W : List ℕ = K xs ++ part xs (end m t) n in
        let b : left m n t now ≡ F + length W = omega (arith, total_some, K_long xs o, length-append (K xs) (part xs (end m t) n), part_length xs (end m t) n o) in
        ap (take (left m n t now)) (squeezed_past p xs (begin m t) F (end m t) n above (omega (arith, inner)) within o passed)
        ∙ squeezed_front p xs F (end m t) n (omega (arith, inner)) within o (left m n t now) a
        ∙ sym (over_take xs F W (omega (arith, low))) ∙ ap (λ (k : ℕ). take k (over xs F W)) (sym b)
        ∙ sym (ap (take (left m n t now)) (ran_laid xs o ∙ ap (over xs F) (going xs o)))

    total_here : length (copies m n t now) + F ≡ left m n t now
    total_here = omega (arith, total_some, count_copies m.slots (omega (arith, z.slots)), ap length (going m.slots (omega (arith, z.slots))), length-append (K m.slots) (part m.slots (end m t) n), part_length m.slots (end m t) n (omega (arith, z.slots)))

    none_some : ((k : ℕ) → k < n → E k ≡ false) → copies m n t now ≡ []
    none_some g = absurd (true≢false (sym dropped_here ∙ g F l))

  -- none is
  module _ (e : F ≡ n) where
    still : None (goes m.slots m.units now) (begin m t) (end m t)
    still k a b = still_before m t now n within k a b (omega (arith, within))

    pub none_copied : copies m n t now ≡ []
    unfolding copies going_down
    none_copied = let y : n - F ≡ 0 = omega arith in ap (λ (k : ℕ). going_down E k F F) y

    same_rows : m ≡ dropped m n t now
    same_rows = none_dropped m n t now z r up within (end m t) up (omega arith) still refl

    row_none : (xs ys : List ℕ) → ys ≡ xs → take (left m n t now) ys ≡ take (left m n t now) (ran (copies m n t now) xs)
    unfolding ran
    row_none xs ys q = ap (take (left m n t now)) (q ∙ sym (ap (λ (cs : List Copy). ran cs xs) none_copied))

    total_none : length (copies m n t now) + F ≡ left m n t now
    total_none = let a = none_left m n t now z r up within (end m t) up (omega arith) still refl in omega (arith, ap length none_copied)

  tags_made : take (left m n t now) (dropped m n t now).tags ≡ take (left m n t now) (ran (copies m n t now) m.tags)
  tags_made = elim (dec_lt F n) [
    | yes l ↦ unfold dropped in row_some l m.tags (omega (arith, z.tags))
    | no l ↦ row_none (omega (arith, low)) m.tags (dropped m n t now).tags (ap (λ (x : Rows). x.tags) (sym (same_rows (omega (arith, low)))))
  ]

  slots_made : take (left m n t now) (dropped m n t now).slots ≡ take (left m n t now) (ran (copies m n t now) m.slots)
  slots_made = elim (dec_lt F n) [
    | yes l ↦ unfold dropped in row_some l m.slots (omega (arith, z.slots))
    | no l ↦ row_none (omega (arith, low)) m.slots (dropped m n t now).slots (ap (λ (x : Rows). x.slots) (sym (same_rows (omega (arith, low)))))
  ]

  pub total_is : length (copies m n t now) + F ≡ left m n t now
  total_is = elim (dec_lt F n) [ yes l ↦ total_here l | no l ↦ total_none (omega (arith, low)) ]

  goes_down : (a : ℕ) → a < length (copies m n t now) → (copy_at (copies m n t now) a).to < (copy_at (copies m n t now) a).from
  goes_down a l = elim (dec_lt F n) [
    | no g ↦ absurd (omega (arith, low, ap length (none_copied (omega (arith, low)))))
    | yes g ↦ by (let y : n - F ≡ suc (n - suc F) = omega arith in opened ∙ ap (λ (c : ℕ). going_down E c F F) y ∙ down_gone E (n - suc F) F F (dropped_here g))
  ]
    where
      opened : copies m n t now ≡ going_down E (n - F) F F
      opened = unfold copies in refl

      by : copies m n t now ≡ going_down E (n - suc F) (suc F) F → (copy_at (copies m n t now) a).to < (copy_at (copies m n t now) a).from
      by e =
          let b : a < length (going_down E (n - suc F) (suc F) F) = omega (arith, ap length e) in
          subst (λ (cs : List Copy). (copy_at cs a).to < (copy_at cs a).from) (sym e) (omega (arith, to_at E (n - suc F) (suc F) F a b, from_at E (n - suc F) (suc F) F a b))

  comes_fresh : (a b : ℕ) → a < b → b < length (copies m n t now) → (copy_at (copies m n t now) a).to < (copy_at (copies m n t now) b).from
  unfolding copies
  comes_fresh a b l g = omega (arith, to_at E (n - F) F F a (omega arith), from_at E (n - F) F F b g)

  none_made : ((k : ℕ) → k < n → E k ≡ false) → copies m n t now ≡ []
  none_made g = elim (dec_lt F n) [ yes l ↦ none_some l g | no l ↦ none_copied (omega (arith, low)) ]

  words_elsewhere : (x : ℕ) → ((k : ℕ) → k < length (gone m t now) → x ≡ slot_of (get_or (gone m t now) k 0) (length m.units) → ⊥) → get_or (dropped m n t now).units x [] ≡ get_or m.units x []
  unfolding dropped
  words_elsewhere x g = cleared_other [] no_words m.units (gone m t now) x g

  floats_elsewhere : (x : ℕ) → ((k : ℕ) → k < length (gone m t now) → x ≡ slot_of (get_or (gone m t now) k 0) (length m.units) → ⊥) → get_or (dropped m n t now).uses x [] ≡ get_or m.uses x []
  unfolding dropped
  floats_elsewhere x g = cleared_other [] no_floats m.uses (gone m t now) x (λ k l q. g k l (q ∙ ap (slot_of (get_or (gone m t now) k 0)) z.uses))

  often : (k : ℕ) → copied_from (copies m n t now) k ≡ copied_from (going_down E (n - F) F F) k
  unfolding copies
  often k = refl

  -- ---- copies of any places that make the index
  abbrev C : ℕ
  C = length (copies m n t now)

  abbrev from_of : ℕ → ℕ
  from_of a = (copy_at (copies m n t now) a).from

  put_at : (a : ℕ) → a < C → get_or (ran (copies m n t now) (down n)) (F + a) 0 ≡ get_or (down n) (from_of a) 0
  unfolding copies
  put_at a l = ran_at E (n - F) F F a (down n) (omega arith) (omega (arith, along, down_long n)) l

  went_to : (a : ℕ) → a < C → (copy_at (copies m n t now) a).to ≡ F + a
  unfolding copies
  went_to a l = to_at E (n - F) F F a l

  came_high : (a : ℕ) → a < C → from_of a < n
  unfolding copies
  came_high a l = omega (arith, along, high_at E (n - F) F F a l)

  came_rising : (a b : ℕ) → a < b → b < C → from_of a < from_of b
  unfolding copies
  came_rising a b u l = rises_at E (n - F) F F a b u l

  came_low : (a : ℕ) → a < C → F + a < from_of a
  came_low a l = omega (arith, goes_down a l, went_to a l)

  abbrev label : ℕ → ℕ
  label a = get_or (ran (copies m n t now) (down n)) (F + a) 0

  label_is : (a : ℕ) → a < C → label a ≡ n - 1 - from_of a
  label_is a l = put_at a l ∙ down_at n (from_of a) (came_high a l)

  labels_apart : Apart label C
  labels_apart a b u l q = absurd (omega (arith, label_is a (omega arith), label_is b l, came_rising a b u l, came_high b l))

  module _ (cs : List Copy) (few : length cs ≤ C) (same : take (left m n t now) (ran cs (down n)) ≡ take (left m n t now) (ran (copies m n t now) (down n))) where
    same_at : (a : ℕ) → a < C → get_or (ran cs (down n)) (F + a) 0 ≡ label a
    same_at a l =
        let b : F + a < left m n t now = omega (arith, total_is) in
        sym (get_or-take (left m n t now) (ran cs (down n)) (F + a) 0 b) ∙ ap (λ (r : List ℕ). get_or r (F + a) 0) same ∙ get_or-take (left m n t now) (ran (copies m n t now) (down n)) (F + a) 0 b

    -- its label did not stand there before, so it was carried there
    each_carried : (a : ℕ) → a < C → 1 ≤ carried cs (down n) (label a)
    each_carried a l = elim (dec_lt 0 (carried cs (down n) (label a))) [
      | yes h ↦ h
      | no h ↦ (let u = came_low a l in
          let v = came_high a l in
          let q = uncarried cs (down n) (label a) (F + a) (omega arith) (omega (arith, down_long n)) (same_at a l) in
          absurd (omega (arith, label_is a l, down_at n (F + a) (omega arith))))
    ]

    pub carries_once : (x : ℕ) → carried cs (down n) x ≤ 1
    carries_once x = carried_once cs (down n) label C x labels_apart each_carried few

pub no_other_way : No_other_way
no_other_way m n t now z w r h cs few same x = carries_once m n t now z w r h cs few same x

pub once_each : Once_each
once_each m n t now z w r h =
    let E = drops m t now in
    let F = first_dropped m n t now in
    let a : F + (n - F) ≡ n = along m n t now z w r h in
    let o = often m n t now z w r h in
    record {
      tags = tags_made m n t now z w r h;
      slots = slots_made m n t now z w r h;
      most = λ k. subst (λ (c : ℕ). c ≤ 1) (sym (o k)) (most E (n - F) F F k);
      stays = λ k b c e. o k ∙ stays E (n - F) F F k (omega arith) (omega arith) e;
      leaves = λ k e. o k ∙ leaves E (n - F) F F k e;
      before = λ k b. o k ∙ before E (n - F) F F k b;
      behind = λ k b. o k ∙ behind E (n - F) F F k (omega arith);
      fresh = comes_fresh m n t now z w r h;
      down = goes_down m n t now z w r h;
      total = total_is m n t now z w r h;
      none = none_made m n t now z w r h;
      words = words_elsewhere m n t now z w r h;
      floats = floats_elsewhere m n t now z w r h;
    }

pub rows_lie : Rows_lie
rows_lie m n t now s h = record { words = words_stay m n t now s h; floats = floats_stay m n t now s h }

-- ---- the count of the code
pub counted_none : (m : Rows) (n t now c : ℕ) → Sized m → Whole m.offsets n → n ≤ length m.units → t < 64 → None (goes m.slots m.units now) (begin m t) (end m t) → c ≡ c + length (copies m n t now)
counted_none m n t now c z w r h s = omega (arith, ap length (none_copied m n t now z w r h (none_is m t now n (within m n t now z w r h) s)))

pub counted_some : (m : Rows) (n t now i c d : ℕ) → Sized m → Whole m.offsets n → n ≤ length m.units → t < 64 → begin m t ≤ i → i < end m t → None (goes m.slots m.units now) (begin m t) i
    → goes m.slots m.units now i ≡ true → d + i ≡ c + left m n t now → d ≡ c + length (copies m n t now)
counted_some m n t now i c d z w r h a b s e q = omega (arith, total_is m n t now z w r h, first_is m t now n i a b (within m n t now z w r h) s e)
