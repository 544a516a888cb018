-- The report's questions, its answer, and the buffer after it. Assumes nothing.
use mathlib.Core.Path.{◌≡◌, refl, sym, ap, ◌∙◌}
use mathlib.Core.Bool.{Bool, true, false, cond}
use mathlib.Core.List.{List, [], ◌++◌}
use Prim.Native.Nat.{ℕ, ◌≤◌, ◌<◌}
use native.Mathlib.Nat.{zero-add, le_of_lt}
use native.Mathlib.Omega.{arith}
use borrow.Author.Tests.{le-leb, lt-leb, leb-true, eqb-true}
use lib.Dec.{eqb, leb}
use lib.ListN.{length, take, drop}
use lib.Seq.{take_at}
use Rattle.std.proofs.lemmas.List.{length-drop}
use Rattle.text.specs.Page.{Page, page, placed, write}
use Rattle.text.proofs.Writing.{fits}
use Rattle.flow.specs.Flow.{all}
use Rattle.store.specs.Store.{Rows}
use Rattle.store.specs.Held.{sizes_of}
use Rattle.head.specs.declared.Shedder.{Shedder}
use Rattle.head.specs.Questions.{whole_with, memory_whole, costs_held, cut_asked}
use Rattle.head.proofs.Asked.{cut_ready}
use Rattle.std.proofs.Common.{Result, Ok, Err}
use Rattle.head.specs.declared.Refusal.{Refusal}
use Rattle.head.proofs.Numbers.{choice_number}
use Rattle.io.specs.Counts.{IsPrefixLen}
use Rattle.head.specs.Answers.{refusal_of, refused as refused_by, written_number}
use Rattle.report.specs.Report.{bytes, lines, report_asked, answer, front, Ends, ends, report}

-- what questions 3 and 4 show: behind the tags of the unit records stand those of the sources, and the sources counted are rows of the memory lent
pub record Counts (h : Shedder) (m : Rows) (rows : List (List ℕ)) : Type 0 where
  pub room : h.unit_room ≤ length m.tags
  pub held : h.counted ≤ length rows
  pub behind : h.counted ≤ length (drop h.unit_room m.tags)

pub counted_held : (h : Shedder) (m : Rows) (rows : List (List ℕ)) → whole_with h m.offsets ≡ true → memory_whole h (sizes_of m rows) ≡ true → Counts h m rows
unfolding cut_asked costs_held all
counted_held h m rows e f =
    let w = cut_ready h (sizes_of m rows) m.offsets [] (simp (e, f)) in
    let r = w.tags_room in
    let c = w.counted_held in record {
      room = omega (arith, r, c);
      held = le_of_lt c;
      behind = omega (arith, r, c, length-drop h.unit_room m.tags);
    }

-- a text put at the front of a buffer with room for it
pub put_front : (out after bytes : List ℕ) (r : ℕ) → length bytes ≤ length out → page after r ≡ write (page out 0) bytes → after ≡ bytes ++ drop (length bytes) out
unfolding placed
put_front out after bytes r room e =
    ap (λ (p : Page). p.out) (e ∙ fits (page out 0) bytes (omega arith)) ∙ ap (λ (n : ℕ). bytes ++ drop n out) (zero-add (length bytes))

fits_of : (a b : Bool) (x room : ℕ) → ◌≡◌ {A = ℕ} (cond a (cond b (cond (leb x room) 0 7) 4) 3) 0 → x ≤ room
fits_of true true x room h = third (leb x room) refl h
  where
    third : (t : Bool) → leb x room ≡ t → ◌≡◌ {A = ℕ} (cond t 0 7) 0 → x ≤ room
    third true e h = leb-true x room e
    third false e h = absurd (omega arith)
fits_of true false x room h = absurd (omega arith)
fits_of false b x room h = absurd (omega arith)

asked_most : (a b t : Bool) → cond a (cond b (cond t 0 7) 4) 3 ≤ 7
asked_most true true true = omega arith
asked_most true true false = omega arith
asked_most true false t = omega arith
asked_most false b t = omega arith

bytes_of : (t : Bool) (a : ℕ) (x : List ℕ) → bytes (cond t (Ok (length x)) (refused_by a)) ≡ length (cond t x [])
bytes_of true a x = refl
bytes_of false a x = refl

ends_of : (t : Bool) (a b : Result ℕ Refusal) (x out : List ℕ)
    → cond t (ends a (x ++ drop (length x) out)) (ends b out) ≡ ends (cond t a b) (cond t x [] ++ drop (length (cond t x [])) out)
ends_of true a b x out = refl
ends_of false a b x out = refl

module _ (h : Shedder) (m : Rows) (rows : List (List ℕ)) where
  module _ (room : ℕ) where
    -- ---- the number of the first question answered no
    pub asked_head : whole_with h m.offsets ≡ false → report_asked h m rows room ≡ 3
    unfolding report_asked
    asked_head e = simp e

    module _ (e : whole_with h m.offsets ≡ true) where
      pub asked_memory : memory_whole h (sizes_of m rows) ≡ false → report_asked h m rows room ≡ 4
      unfolding report_asked
      asked_memory f = simp (e, f)

      module _ (f : memory_whole h (sizes_of m rows) ≡ true) where
        pub asked_room : room < length (lines h m rows) → report_asked h m rows room ≡ 7
        unfolding report_asked
        asked_room g = simp (e, f, lt-leb (length (lines h m rows)) room g)

        pub asked_none : length (lines h m rows) ≤ room → report_asked h m rows room ≡ 0
        unfolding report_asked
        asked_none g = simp (e, f, le-leb (length (lines h m rows)) room g)

    -- refused by k: nothing is written
    pub refused : (k : ℕ) (r : Refusal) (a : Result ℕ Refusal) (own : List ℕ) → eqb k 0 ≡ false → refusal_of k ≡ r → report_asked h m rows room ≡ k → a ≡ Err r
        → (a ≡ answer h m rows room) × IsPrefixLen (bytes a) own × (take (bytes a) own ≡ front h m rows room)
    unfolding answer front
    refused k r a own n q e f =
        let g : a ≡ refused_by k = f ∙ ap Err (sym q) in
        (g ∙ simp (e, n), rw f (omega arith, refl), ap (λ (x : Result ℕ Refusal). take (bytes x) own) g ∙ simp (e, n))

    pub taken : report_asked h m rows room ≡ 0
        → (Ok (length (lines h m rows)) ≡ answer h m rows room) × (lines h m rows ≡ front h m rows room)
    unfolding answer front
    taken e = (simp e, simp e)

    -- ---- the answer
    pub answer_number : written_number (answer h m rows room) ≡ report_asked h m rows room
    unfolding answer report_asked
    answer_number =
        choice_number (length (lines h m rows)) (report_asked h m rows room)
        (asked_most (whole_with h m.offsets) (memory_whole h (sizes_of m rows)) (leb (length (lines h m rows)) room))

    answer_bytes : bytes (answer h m rows room) ≡ length (front h m rows room)
    unfolding answer front
    answer_bytes = bytes_of (eqb (report_asked h m rows room) 0) (report_asked h m rows room) (lines h m rows)

    front_fits : length (front h m rows room) ≤ room
    unfolding front report_asked
    front_fits = by (eqb (report_asked h m rows room) 0) refl
      where
        by : (t : Bool) → eqb (report_asked h m rows room) 0 ≡ t → length (cond t (lines h m rows) []) ≤ room
        by true e = fits_of (whole_with h m.offsets) (memory_whole h (sizes_of m rows)) (length (lines h m rows)) room (eqb-true (report_asked h m rows room) 0 e)
        by false e = omega arith

  -- ---- the answer and the buffer
  module _ (out : List ℕ) where
    whole : report h m rows out
        ≡ ends (answer h m rows (length out)) (front h m rows (length out) ++ drop (length (front h m rows (length out))) out)
    unfolding report answer front
    whole =
        ends_of (eqb (report_asked h m rows (length out)) 0) (Ok (length (lines h m rows))) (refused_by (report_asked h m rows (length out)))
        (lines h m rows) out

    -- the front part is put where the answer says
    pub written : (w : Result ℕ Refusal) (own after : List ℕ) (n r : ℕ) → w ≡ answer h m rows (length out) → n ≡ bytes w
        → take (bytes w) own ≡ front h m rows (length out) → page after r ≡ write (page out 0) (take n own)
        → ends w after ≡ report h m rows out
    written w own after n r a b f e =
        let g = front h m rows (length out) in
        let p : after ≡ g ++ drop (length g) out =
        put_front out after g r (front_fits (length out)) (e ∙ ap (λ (k : ℕ). write (page out 0) (take k own)) b ∙ ap (write (page out 0)) f) in
        ap (λ (v : Result ℕ Refusal). ends v after) a ∙ ap (ends (answer h m rows (length out))) p ∙ sym whole

    -- the front part is read back
    pub part : (w : Result ℕ Refusal) (after : List ℕ) (n : ℕ) → ends w after ≡ report h m rows out → n ≡ bytes w
        → take n after ≡ front h m rows (length out)
    part w after n e b =
        let g = front h m rows (length out) in
        let c : n ≡ length g = b ∙ ap (λ (x : Ends). bytes x.answer) (e ∙ whole) ∙ answer_bytes (length out) in
        ap (take n) (ap (λ (x : Ends). x.out) (e ∙ whole)) ∙ take_at g (drop (length g) out) n (sym c)

    pub part_length : (w : Result ℕ Refusal) (after : List ℕ) (n : ℕ) → ends w after ≡ report h m rows out → n ≡ bytes w
        → n ≡ length (take n after)
    part_length w after n e b =
        b ∙ ap (λ (x : Ends). bytes x.answer) (e ∙ whole) ∙ answer_bytes (length out) ∙ ap length (sym (part w after n e b))
