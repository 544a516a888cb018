-- Whether a judgement uses the watched record, as the program asks it before: that of the judgement, unless it is refused. Assumes nothing.
use mathlib.Core.Path.{◌≡◌, refl, sym, ap, ◌∙◌, subst}
use mathlib.Core.Bool.{Bool, true, false, cond, ◌&&◌, true≢false}
use mathlib.Core.List.{List}
use Prim.Native.Nat.{ℕ, ◌+◌, ◌≤◌, ◌<◌}
use native.Mathlib.Omega.{arith}
use borrow.Author.Tests.{ltb-true, lt-ltb, le-ltb, eqb-true}
use lib.Dec.{T, eqb, ltb}
use lib.ListN.{length, get_or}
use Rattle.std.specs.Prelude.{Option, Some, None, IfSome, unwrap_or}
use Rattle.std.specs.Option.{is_some}
use Rattle.sender.specs.declared.Unit as unit
use Rattle.sender.specs.Sender as sender
use Rattle.sender.specs.Sender.{Tells, table_of_tag}
use Rattle.sender.proofs.Naming.{name_injective}
use Rattle.flow.specs.Flow as flow
use Rattle.store.specs.Held.{sizes_of}
use Rattle.store.specs.Store.{Rows}
use Rattle.shifting.specs.Offsets.{Whole}
use Rattle.shifting.proofs.Whole.{whole_below}
use Rattle.parts.specs.Parts.{begin, end, find, added}
use Rattle.parts.specs.Parts.{is_at}
use Rattle.parts.proofs.Searching.{searches}
use Rattle.store_entry.proofs.Own.{table_below}
use Rattle.head.specs.declared.Shedder.{Shedder}
use Rattle.std.proofs.Common.{Ok}
use Rattle.verdict.specs.declared.Verdict.TheVariants as verdict
use Rattle.head.specs.Answers.{refusal_of, refused, answer_number}
use Rattle.head.proofs.Numbers.{number_some}
use Rattle.head.specs.Answers.{judge_number}
use Rattle.head.specs.Questions.{is_unbounded, judge_asked, whole_with, memory_whole, CutReady}
use Rattle.head.proofs.Tests.{zero_yes}
use Rattle.head.proofs.Asked.{asked_ready, with_of, memory_of}
use Rattle.head.proofs.Whole.{whole_of}
use Rattle.std.proofs.lemmas.Bool.{and_parts}
use Rattle.store_entry.specs.Entering.{entry, entered, place}
use Rattle.judge.specs.Judging as judging
use Rattle.judge.specs.Judging.{Memory, Judged, judge_ends, bounded}
use Rattle.fair.specs.Calls as calls
use Rattle.fair.proofs.View as view
use Rattle.fair_row.specs.Replay.{key_of, own_used, on_watched}

-- ---- the same unit
told : (w u : unit.Unit) (r b : Bool) → calls.same_name (sender.name_of w) (sender.name_of u) ≡ b → Tells r (w ≡ u) → r ≡ b
told w u true true e t = refl
told w u false false e t = refl
told w u true false e t =
    absurd (subst T e (subst (λ (v : unit.Unit). T (calls.same_name (sender.name_of w) (sender.name_of v))) (t.shows refl) (view.same_self (view.named (sender.name_of w)))))
told w u false true e t = t.shown (name_injective w u (ap (λ (n : view.Name). n.name) (view.same_is (view.named (sender.name_of w)) (view.named (sender.name_of u)) (subst T (sym e) tt))))

-- of a unit that has a record of its own, as overflow has not
told_own_by : (w u : unit.Unit) (r over : Bool) → sender.is_overflow w ≡ over → sender.is_overflow u ≡ false → Tells r (w ≡ u) → r ≡ calls.same_key (cond over calls.shared (calls.own w)) (calls.own u)
told_own_by w u r false ew eu t = told w u r _ refl t
told_own_by w u false true ew eu t = refl
told_own_by w u true true ew eu t = absurd (true≢false (sym ew ∙ ap sender.is_overflow (t.shows refl) ∙ eu))

overflow_not : (x a : Bool) → cond x false a ≡ true → x ≡ false
overflow_not false a e = refl
overflow_not true a e = absurd (true≢false (sym e))

overflow_none : (h : Shedder) (m : Rows) (l : List (List ℕ)) (u : unit.Unit) → own_used h m l u ≡ true → sender.is_overflow u ≡ false
unfolding own_used
overflow_none h m l u e = overflow_not (sender.is_overflow u) _ e

pub told_own : (h : Shedder) (m : Rows) (l : List (List ℕ)) (w u : unit.Unit) (r : Bool) → own_used h m l u ≡ true → Tells r (w ≡ u)
    → r ≡ on_watched h m l w u
unfolding on_watched key_of
told_own h m l w u r e t = rw e (told_own_by w u r _ refl (overflow_none h m l u e) t)

told_shared_by : (w u : unit.Unit) (over : Bool) → over ≡ calls.same_key (cond over calls.shared (calls.own w)) calls.shared
told_shared_by w u true = refl
told_shared_by w u false = refl

pub told_shared : (h : Shedder) (m : Rows) (l : List (List ℕ)) (w u : unit.Unit) → own_used h m l u ≡ false → sender.is_overflow w ≡ on_watched h m l w u
unfolding on_watched key_of
told_shared h m l w u e = rw e (told_shared_by w u _)

-- ---- the record that is used
own_by : (m m' : Rows) (o : Option ℕ) (e tracked room : ℕ) (over fits : Bool) → ltb tracked room ≡ fits → IfSome o (λ i. i < e) → e ≤ tracked → tracked ≤ room
    → cond over false (cond fits true (is_some o))
    ≡ ltb (cond over (entered (place room tracked) m) (cond (ltb (unwrap_or o room) room) (entered (place (unwrap_or o room) tracked) m) (cond fits (entered (place e (tracked + 1)) m') (entered (place room tracked) m)))).place.at room
own_by m m' o e tracked room true fits et b le l = sym (le-ltb room room (omega arith))
own_by m m' (Some i) e tracked room false true et b le l = rw (lt-ltb i room (omega (arith, b, le, l))) (sym (lt-ltb i room (omega (arith, b, le, l))))
own_by m m' (Some i) e tracked room false false et b le l = rw (lt-ltb i room (omega (arith, b, le, l))) (sym (lt-ltb i room (omega (arith, b, le, l))))
own_by m m' None e tracked room false true et b le l = rw (le-ltb room room (omega arith)) (sym (lt-ltb e room (omega (arith, le, ltb-true tracked room et))))
own_by m m' None e tracked room false false et b le l = rw (le-ltb room room (omega arith)) (sym (le-ltb room room (omega arith)))

-- what is found stands in the part of its table
inside : (m : Rows) (n : ℕ) (u : unit.Unit) → Whole m.offsets n → IfSome (find m (sender.name_of u)) (λ i. i < end m (table_of_tag (sender.name_of u).tag))
inside m n u w = by (find m (sender.name_of u)) (searches m n (sender.name_of u) w (table_below u)).inside
  where
    by : (o : Option ℕ) → IfSome o (λ i. (begin m (table_of_tag (sender.name_of u).tag) ≤ i) × (i < end m (table_of_tag (sender.name_of u).tag)) × (is_at m (sender.name_of u) i ≡ true)) → IfSome o (λ i. i < end m (table_of_tag (sender.name_of u).tag))
    by None p = tt
    by (Some i) p = p.1

own_is : (h : Shedder) (m : Rows) (l : List (List ℕ)) (u : unit.Unit) (now : ℕ) → whole_with h m.offsets ≡ true → memory_whole h (sizes_of m l) ≡ true → CutReady h (sizes_of m l) m.offsets
    → own_used h m l u ≡ ltb (entry m h.tracked h.unit_room u now).place.at h.unit_room
unfolding own_used entry
own_is h m l u now ew em r =
    let t = table_of_tag (sender.name_of u).tag in
    rw (ew, em)
    (own_by m (added m h.tracked (sender.name_of u) (flow.added now)) (find m (sender.name_of u)) (end m t) h.tracked h.unit_room (sender.is_overflow u) _ refl
    (inside m h.tracked u r.parts) (whole_below m.offsets h.tracked r.parts (t + 1) (omega (arith, table_below u))) r.tracked_held)

-- ---- questions 3 and 4 answered yes: the store may be searched
pub record Searchable (m : Rows) : Type 0 where
  pub some : 0 < length m.units
  pub whole : Whole m.offsets (get_or m.offsets 64 0)
  pub tags : get_or m.offsets 64 0 ≤ length m.tags
  pub slots : get_or m.offsets 64 0 ≤ length m.slots

pub searchable : (h : Shedder) (m : Rows) (l : List (List ℕ)) (b : Bool) → b ≡ (whole_with h m.offsets && memory_whole h (sizes_of m l)) → b ≡ true → Searchable m
searchable h m l b e t =
    let a = and_parts (whole_with h m.offsets) (memory_whole h (sizes_of m l)) (sym e ∙ t) in
    let w = with_of h m.offsets a.0 in
    let k = whole_of h w.head in
    let s = memory_of h (sizes_of m l) a.1 in
    record {
      some = omega (arith, s.units, k.units_least);
      whole = record { begins = w.parts.begins; rises = w.parts.rises; ends = refl };
      tags = omega (arith, w.parts.ends, s.tags, k.tracked_held);
      slots = omega (arith, w.parts.ends, s.slots, k.tracked_held);
    }

-- ---- not refused: questions 3 and 4 were answered yes
asked_by : (h : Shedder) (m : Memory) (n : ℕ) (a : Bool) (x : Judged) → eqb n 0 ≡ a → judge_number (cond a x (judge_ends (refused n) h m)).answer ≡ 0 → n ≡ 0
unfolding answer_number
asked_by h m n true x e f = eqb-true n 0 e
asked_by h m n false x e f = absurd (omega (arith, number_some (refusal_of n), f))

asked : (h : Shedder) (m : Memory) (u : unit.Unit) (cost : List ℕ) (t : ℕ) → judge_number (judging.judge h m u cost t).answer ≡ 0
    → judge_asked h (sizes_of m.rows m.counted) m.rows.offsets cost t ≡ 0
unfolding judging.judge
asked h m u cost t f =
    asked_by h m (judge_asked h (sizes_of m.rows m.counted) m.rows.offsets cost t) _
    (cond (is_unbounded h.flow.rate) (judge_ends (Ok verdict.Admitted) h m) (bounded h m u cost t))
    refl f

pub watched_is : (h : Shedder) (m : Memory) (u : unit.Unit) (cost : List ℕ) (t : ℕ) (w : unit.Unit) → judge_number (judging.judge h m u cost t).answer ≡ 0
    → on_watched h m.rows m.counted w u ≡ calls.same_key (key_of w) (calls.key (calls.state_of h m) u (calls.clock_at (calls.state_of h m) t))
unfolding on_watched judge_asked
watched_is h m u cost t w f =
    let s = sizes_of m.rows m.counted in
    let e = asked h m u cost t f in
    let a = zero_yes (whole_with h m.rows.offsets) _ 2 e in
    let b = zero_yes (memory_whole h s) _ 3 a.1 in
    ap (λ (b : Bool). calls.same_key (key_of w) (calls.key_at b u))
    (own_is h m.rows m.counted u (calls.clock_at (calls.state_of h m) t) a.0 b.0 (asked_ready h s m.rows.offsets cost t e).cut)
