-- The record that a judgement or a cut uses names the unit. Assumes nothing.
use mathlib.Core.Path.{◌≡◌, refl, sym, ap, ◌∙◌, subst}
use mathlib.Core.Bool.{Bool, true, false, cond}
use mathlib.Core.Logic.{⊎_elim}
use mathlib.Core.List.{List, []}
use Prim.Native.Nat.{ℕ, ◌+◌, ◌<◌, ◌≤◌}
use native.Mathlib.Omega.{arith}
use lib.Dec.{ltb}
use lib.ListN.{length, get_or, set, length-set}
use lib.Ieee.{Float}
use lib.Seq.{get_or-set_other}
use native.Mathlib.Decide.{dec_lt}
use borrow.Author.Tests.{lt-ltb, le-ltb, ltb-true}
use Rattle.flow.specs.Flow as flow
use Rattle.sender.specs.declared.Words.{Words}
use Rattle.sender.specs.Sender.{name_of, is_overflow, rank}
use Rattle.shifting.proofs.Whole.{whole_below}
use Rattle.store.specs.Held.{sizes_of}
use Rattle.store.specs.Store.{words_at, units_put, uses_put, unit_row, joined}
use Rattle.store.proofs.Names.{words_put}
use Rattle.parts.specs.Parts.{Rows, end, slot_of, slot_at, top, words_of, put, added}
use Rattle.parts.specs.Held.{Sized}
use Rattle.parts.specs.Laws.{Sound, entry_at}
use Rattle.parts.proofs.Laws.{comes}
use Rattle.parts.proofs.Putting.{other_at}
use Rattle.store_entry.specs.Entering as entering
use Rattle.store_entry.specs.Entering.{Place, Entered, entered as given, place as placed}
use Rattle.store_entry.specs.Own.{Has, Stays, SameRows, Fits, name_at, table_of}
use Rattle.store_entry.proofs.Own.{owns, has_or_not}
use Rattle.store_entry.proofs.Own.{table_below}
use Rattle.head.proofs.Whole.{whole_of}
use Rattle.head.proofs.Asked.{with_of, memory_of}
use Rattle.meaning.specs.State.{State, Unit, Use, Outcome, After}
use Rattle.meaning.specs.Page as page
use Rattle.meaning.specs.Named.{entered, place, name_in, use_in, Tracked, Uses, Named}
use Rattle.meaning.proofs.Asked.{head_is, memory_is}
use Rattle.meaning.proofs.Judged.{entry-is, entered as as_page}

-- ---- the record entered: in use, below the room, named; where the others stand then; overflow's as before
pub record InItsRecord (s : State) (u : Unit) (x : After ℕ) : Type 0 where
  pub in_use : x.answer < x.state.head.tracked
  pub below : x.answer < length x.state.rows.units
  pub room : x.answer < s.head.unit_room
  pub named : name_in x.state x.answer ≡ name_of u
  pub same : Has s.rows u → x.state.head.tracked ≡ s.head.tracked
  pub more : (Has s.rows u → ⊥) → x.state.head.tracked ≡ s.head.tracked + 1
  pub others : Has s.rows u → (j : ℕ) → Stays s.rows x.state.rows s.head.tracked j j
  pub before : (Has s.rows u → ⊥) → (j : ℕ) → j < x.answer → Stays s.rows x.state.rows s.head.tracked j j
  pub behind : (Has s.rows u → ⊥) → (j : ℕ) → x.answer ≤ j → j < s.head.tracked → Stays s.rows x.state.rows s.head.tracked j (j + 1)
  pub beyond : Has s.rows u → (j : ℕ) → entry_at x.state.rows j ≡ entry_at s.rows j
  pub beyond_added : (Has s.rows u → ⊥) → (j : ℕ) → s.head.tracked < j → entry_at x.state.rows j ≡ entry_at s.rows j
  pub rows : (slot : ℕ) → (slot ≡ slot_at x.state.rows x.answer → ⊥) → SameRows s.rows x.state.rows slot
  pub overflow : x.state.head.overflow ≡ s.head.overflow

sized : (s : State) (u : Unit) → Tracked s u → Sized s.rows
sized s u w =
    let h = s.head in
    let m = memory_of h (sizes_of s.rows s.counted) (sym (memory_is s) ∙ w.memory) in
    let g = whole_of h (with_of h s.rows.offsets (sym (head_is h s.rows.offsets) ∙ w.head)).head in
    record {
      some = omega (arith, m.units, g.units_least);
      most = omega (arith, m.units, g.units_most);
      tags = omega (arith, m.tags, m.units);
      slots = omega (arith, m.slots, m.units);
      free = omega (arith, m.free, m.units);
      uses = omega (arith, m.uses, m.units);
    }

fits : (s : State) (u : Unit) → Tracked s u → Fits s.rows s.head.tracked s.head.unit_room
fits s u w =
    let h = s.head in
    let m = memory_of h (sizes_of s.rows s.counted) (sym (memory_is s) ∙ w.memory) in
    let g = with_of h s.rows.offsets (sym (head_is h s.rows.offsets) ∙ w.head) in
    record { sized = sized s u w; units = m.units; whole = g.parts; used = (whole_of h g.head).tracked_held }

-- ---- whatever record it is
cond_entered : (b : Bool) (x y : Entered) (P : Entered → Type 0) → (b ≡ true → P x) → P y → P (cond b x y)
cond_entered true x y P p q = p refl
cond_entered false x y P p q = q

added_long : (m : Rows) (n : ℕ) (u : Unit) (clock : ℕ) → length (added m n (name_of u) (flow.added clock)).units ≡ length m.units
unfolding added
added_long m n u clock = length-set m.units (slot_of (top m n) (length m.units)) (words_of (name_of u) (flow.added clock))

entry_long : (m : Rows) (n room : ℕ) (u : Unit) (clock : ℕ) → length (entering.entry m n room u clock).rows.units ≡ length m.units
unfolding entering.entry
entry_long m n room u clock =
    cond_entered (is_overflow u) _ _ (λ (e : Entered). length e.rows.units ≡ length m.units) (λ e. refl)
    (cond_entered (ltb (entering.found_at m room (name_of u)) room) _ _ (λ (e : Entered). length e.rows.units ≡ length m.units) (λ e. refl)
    (cond_entered (ltb n room) _ _ (λ (e : Entered). length e.rows.units ≡ length m.units) (λ e. added_long m n u clock) refl))

-- a store stays one
entry_sound : (m : Rows) (n room : ℕ) (u : Unit) (clock : ℕ) → length m.units ≡ room → Sound m n → Sound (entering.entry m n room u clock).rows (entering.entry m n room u clock).place.tracked
unfolding entering.entry
entry_sound m n room u clock q w =
    cond_entered (is_overflow u) _ _ (λ (e : Entered). Sound e.rows e.place.tracked) (λ e. w)
    (cond_entered (ltb (entering.found_at m room (name_of u)) room) _ _ (λ (e : Entered). Sound e.rows e.place.tracked) (λ e. w)
    (cond_entered (ltb n room) _ _ (λ (e : Entered). Sound e.rows e.place.tracked)
    (λ e. let l : n < length m.units = omega (arith, ltb-true n room e) in (comes m n (name_of u) (flow.added clock) w l (table_below u)).sound) w))

module _ (s : State) (u : Unit) (clock : ℕ) (w : Tracked s u) where
  abbrev tracked : ℕ
  tracked = s.head.tracked

  abbrev e : Entered
  e = entering.entry s.rows tracked s.head.unit_room u clock

  within : end s.rows (table_of u) ≤ tracked
  within = let x = fits s u w in let t = table_below u in whole_below s.rows.offsets tracked x.whole (table_of u + 1) (omega arith)

  found_own : Has s.rows u → InItsRecord s u (as_page s e)
  found_own h =
      let f = (owns s.rows tracked s.head.unit_room u clock (fits s u w)).found w.own h in
      let x = fits s u w in
      let i = f.is in
      let l : e.place.at < tracked = omega (arith, i.high, within) in
      subst (λ (y : Entered). InItsRecord s u (as_page s y)) (sym f.kept)
      (record {
        in_use = l;
        below = omega (arith, l, x.units, x.used);
        room = omega (arith, l, x.used);
        named = i.named;
        same = λ a. refl;
        more = λ n. absurd (n h);
        others = λ a j. record { tag = refl; slot = refl; same = λ z. refl };
        before = λ n. absurd (n h);
        behind = λ n. absurd (n h);
        beyond = λ a j. refl;
        beyond_added = λ n. absurd (n h);
        rows = λ y c. (refl, refl);
        overflow = refl;
      })

  added_own : (Has s.rows u → ⊥) → tracked < s.head.unit_room → InItsRecord s u (as_page s e)
  added_own lacks l =
      let f = (owns s.rows tracked s.head.unit_room u clock (fits s u w)).added w.own lacks l in
      let x = fits s u w in
      let at : e.place.at ≡ end s.rows (table_of u) = ap (λ (p : Place). p.at) f.at_end in
      let n : e.place.tracked ≡ tracked + 1 = ap (λ (p : Place). p.tracked) f.at_end in
      let i = within in
      record {
        in_use = omega arith;
        below = omega (arith, entry_long s.rows tracked s.head.unit_room u clock, x.units);
        room = omega arith;
        named = f.named;
        same = λ a. absurd (lacks a);
        more = λ a. n;
        others = λ a. absurd (lacks a);
        before = λ a. f.before;
        behind = λ a. f.behind;
        beyond = λ a. absurd (lacks a);
        beyond_added = λ a. f.beyond;
        rows = λ y c. f.rows y (λ q. c (q ∙ sym f.slot));
        overflow = refl;
      }

  in_its_record : InItsRecord s u (page.entry s u clock)
  in_its_record =
      subst (InItsRecord s u) (sym (entry-is s u clock))
      (⊎_elim (λ (h : Has s.rows u). found_own h) (λ (l : tracked < s.head.unit_room).
      ⊎_elim (λ (h : Has s.rows u). found_own h) (λ (n : Has s.rows u → ⊥). added_own n l) (let x = fits s u w in has_or_not s.rows tracked u x.whole (table_below u))) w.found_or_added)

  entered_sound : Sound s.rows tracked → Sound (entered s u clock).rows (entered s u clock).head.tracked
  entered_sound z =
      subst (λ (y : After ℕ). Sound y.state.rows y.state.head.tracked) (sym (entry-is s u clock))
      (let x = fits s u w in entry_sound s.rows tracked s.head.unit_room u clock x.units z)

-- ---- the use put back there
put_rows : (y : State) (i : ℕ) (x : Use) → i < length y.rows.units → (page.put_back y i x).rows ≡ put y.rows i x
unfolding page.put_back
put_rows y i x h = simp (lt-ltb i (length y.rows.units) h)

put_overflow : (y : State) (i : ℕ) (x : Use) → i < length y.rows.units → (page.put_back y i x).head.overflow ≡ y.head.overflow
unfolding page.put_back
put_overflow y i x h = simp (lt-ltb i (length y.rows.units) h)

slot_low : (slot room : ℕ) → 0 < room → slot_of slot room < room
slot_low slot room h = elim (dec_lt slot room) [
  | yes l ↦ subst (λ (b : Bool). cond b slot 0 < room) (sym (lt-ltb slot room l)) l
  | no l ↦ subst (λ (b : Bool). cond b slot 0 < room) (sym (le-ltb slot room (omega arith))) h
]

-- it leaves the name
units_long : (units : List (List ℕ)) (i : ℕ) (x : Use) → length (units_put units i x) ≡ length units
unfolding units_put
units_long units i x = length-set units i (set (set (unit_row units i) 5 x.at_ms) 6 x.fresh)

name_put : (m : Rows) (i : ℕ) (x : Use) → 0 < length m.units → name_at (put m i x) i ≡ name_at m i
unfolding put
name_put m i x h =
    ap (λ (v : Words). record { tag = get_or m.tags i 0; words = v })
    (ap (λ (n : ℕ). words_at (units_put m.units (slot_at m i) x) (slot_of (get_or m.slots i 0) n)) (units_long m.units (slot_at m i) x)
    ∙ words_put m.units (slot_at m i) x (slot_low (get_or m.slots i 0) (length m.units) h))

-- and the other records
put_stays : (m m1 : Rows) (n n1 p : ℕ) (x : Use) (i j : ℕ) → Stays m m1 n i j → (Sound m n → Sound m1 n1) → p < n1 → j < n1 → (j ≡ p → ⊥) → Stays m (put m1 p x) n i j
put_stays m m1 n n1 p x i j k f q h c = record { tag = unfold put in k.tag; slot = unfold put in k.slot; same = λ z. other_at m1 n1 p x (f z) q j h c ∙ k.same z }

place_put : (m : Rows) (i : ℕ) (x : Use) (j : ℕ) → entry_at (put m i x) j ≡ entry_at m j
unfolding put entry_at
place_put m i x j = refl

slot_put : (m : Rows) (i : ℕ) (x : Use) → slot_at (put m i x) i ≡ slot_at m i
unfolding put
slot_put m i x = ap (slot_of (get_or m.slots i 0)) (units_long m.units (slot_at m i) x)

rows_put : (m m1 : Rows) (i : ℕ) (x : Use) (y : ℕ) → ((y ≡ slot_at m1 i → ⊥) → SameRows m m1 y) → (y ≡ slot_at (put m1 i x) i → ⊥) → SameRows m (put m1 i x) y
rows_put m m1 i x y f c = go (λ q. c (q ∙ sym (slot_put m1 i x)))
  where
    go : (y ≡ slot_at m1 i → ⊥) → SameRows m (put m1 i x) y
    go d =
        let r = f d in
        unfold put units_put uses_put in (
          get_or-set_other m1.units (slot_at m1 i) y (set (set (unit_row m1.units (slot_at m1 i)) 5 x.at_ms) 6 x.fresh) [] d ∙ r.0,
          get_or-set_other m1.uses (slot_at m1 i) y (joined x.attempted x.credit) [] d ∙ r.1,
        )

-- y is the state entered, with other flow
uses : (s : State) (u : Unit) (clock : ℕ) (next : Use → Use) (w : Tracked s u) (y : State) (x : Use)
    → y.rows ≡ (entered s u clock).rows → y.head.overflow ≡ (entered s u clock).head.overflow → x ≡ next (use_in (entered s u clock) (place s u clock)) → Uses s u clock next (page.put_back y (place s u clock) x)
uses s u clock next w y x p q r =
    let i = place s u clock in
    let t = entered s u clock in
    let f = in_its_record s u clock w in
    let n = s.head.tracked in
    let n1 = t.head.tracked in
    let m = t.rows in
    let long : i < length y.rows.units = subst (λ (a : Rows). i < length a.units) (sym p) f.below in
    let e : (page.put_back y i x).rows ≡ put m i x = put_rows y i x long ∙ ap (λ (a : Rows). put a i x) p in
    let stays : (a b : ℕ) → Stays s.rows m n a b → b < n1 → (b ≡ i → ⊥) → Stays s.rows (page.put_back y i x).rows n a b =
    λ a b k h c. subst (λ (z : Rows). Stays s.rows z n a b) (sym e) (put_stays s.rows m n n1 i x a b k (entered_sound s u clock w) f.in_use h c) in
    record {
      named = ap (λ (a : Rows). name_at a i) e ∙ name_put m i x (let l = f.below in omega arith) ∙ f.named;
      put_back = e ∙ sym (put_rows t i x f.below) ∙ ap (λ (z : Use). (page.put_back t i z).rows) r;
      others = λ a j h c. stays j j (f.others a j) (let g = f.same a in omega arith) c;
      before = λ a j h. stays j j (f.before a j h) (let g = f.in_use in omega arith) (λ c. omega (arith, c, h));
      behind = λ a j l h. stays j (j + 1) (f.behind a j l h) (let g = f.more a in omega arith) (λ c. omega (arith, c, l));
      beyond = λ a j h. ap (λ (z : Rows). entry_at z j) e ∙ place_put m i x j ∙ f.beyond a j;
      beyond_added = λ a j h. ap (λ (z : Rows). entry_at z j) e ∙ place_put m i x j ∙ f.beyond_added a j h;
      rows = λ k. subst (λ (z : Rows). (k ≡ slot_at z i → ⊥) → SameRows s.rows z k) (sym e) (rows_put s.rows m i x k (f.rows k));
      overflow = put_overflow y i x long ∙ q ∙ f.overflow;
    }

module _ (s : State) (u : Unit) (cost : List Float) (clock : ℕ) (w : Tracked s u) where
  pub found_use : page.used_at (entered s u clock) (place s u clock) ≡ use_in (entered s u clock) (place s u clock)
  unfolding page.used_at
  found_use = simp (lt-ltb (place s u clock) (length (entered s u clock).rows.units) (in_its_record s u clock w).below)

  pub ranked : page.ranked s u (place s u clock) ≡ rank u
  unfolding page.ranked
  ranked = simp (lt-ltb (place s u clock) s.head.unit_room (in_its_record s u clock w).room)

  outcome_is : page.outcome s.head.flow s.head.level (page.used_at (entered s u clock) (place s u clock)) (page.ranked s u (place s u clock)) cost clock
      ≡ page.outcome s.head.flow s.head.level (use_in (entered s u clock) (place s u clock)) (rank u) cost clock
  outcome_is = rw (found_use, ranked) refl

  verdict : (page.judged s u cost clock).answer ≡ (page.outcome s.head.flow s.head.level (use_in (entered s u clock) (place s u clock)) (rank u) cost clock).verdict
  unfolding page.judged
  verdict = ap (λ (o : Outcome). o.verdict) outcome_is

  judged : Uses s u clock (λ (x : Use). (page.outcome s.head.flow s.head.level x (rank u) cost clock).used) (page.judged s u cost clock).state
  unfolding page.judged
  judged = uses s u clock (λ (x : Use). (page.outcome s.head.flow s.head.level x (rank u) cost clock).used) w _ _ refl refl (ap (λ (o : Outcome). o.used) outcome_is)

handed_back : (s : State) (u : Unit) (cost : List Float) → Tracked s u → Uses s u s.head.flow.at_ms (λ (x : Use). flow.handed_back x cost) (page.handed_back s u cost)
unfolding page.handed_back
handed_back s u cost w =
    uses s u s.head.flow.at_ms (λ (x : Use). flow.handed_back x cost) w _ _ refl refl (ap (λ (x : Use). flow.handed_back x cost) (found_use s u cost s.head.flow.at_ms w))

pub named : Named
named = record {
  in_use = λ s u clock w. (in_its_record s u clock w).in_use;
  named = λ s u clock w. (in_its_record s u clock w).named;
  verdict = verdict;
  judged = judged;
  handed_back = handed_back;
}
