-- A start, a judgement, a cut and new rates leave the head whole, whatever offsets are lent beside it. Assumes nothing.
use mathlib.Core.Path.{◌≡◌, refl, sym, ◌∙◌}
use mathlib.Core.Bool.{Bool, true, false, cond}
use mathlib.Core.List.{List}
use Prim.Native.Nat.{ℕ, ◌+◌, ◌≤◌, ◌<◌, max}
use native.Mathlib.Omega.{arith}
use lib.Dec.{eqb, leb, ltb}
use lib.ListN.{length, get_or}
use borrow.Author.Tests.{eqb-true, leb-true}
use Rattle.flow.specs.Flow.{numbers}
use Rattle.verdict.specs.Verdict.{is_admitted}
use Rattle.verdict.specs.declared.Verdict.{Verdict}
use Rattle.sender.specs.declared.Unit.{Unit}
use Rattle.sender.specs.declared.Name.{Name}
use Rattle.sender.specs.Sender.{name_of}
use Rattle.store.specs.Store.{Rows, with_tags}
use Rattle.store.specs.Held.{sizes_of}
use Rattle.store.specs.declared.Cause.{Cause}
use Rattle.wants.specs.Wants as wants
use Rattle.wants.specs.Wants.{Hist}
use Rattle.head.specs.declared.Shedder.{Shedder}
use Rattle.head.specs.Questions.{head_whole, is_unbounded, start_asked, judge_asked, cut_asked, rates_asked}
use Rattle.head.specs.Readings.{index_of}
use Rattle.head.specs.Start.{Beginning, start}
use Rattle.head.proofs.Asked.{asked_ready}
use Rattle.head.proofs.Whole.{Whole, whole_of, whole_is}
use Rattle.scan.specs.Scanning.{Scanning, scanning, visit, again, ended, opened, Started, started, begun, scanned, scanned_from}
use Rattle.scan_trim.specs.Trimming.{trimmed}
use Rattle.cut_counts.specs.Counting.{Tally, tally, cause_of, tallied, count_verdict}
use Rattle.judge.specs.Judging.{judged, Memory, Judged, bounded, judge}
use Rattle.cut.specs.Cutting.{KeptBy, kept_by, hands_back, handed_back, Cut, noted, cut_after, cut}
use Rattle.rates.specs.Rates.{Changed, set_rates}
use Rattle.head_stays.specs.Whole.{HeadStays}
use Rattle.head_stays.proofs.Rates.{taken, turned_head}
use Rattle.head_stays.proofs.Stays.{judged_head, handed_head, tallied_whole, judged_room, handed_room, latest}
use Rattle.head_stays.proofs.Whole.{opening_whole, visited_whole, trimmed_whole, opened_whole, judge_memory, cut_memory, memory_counted}

-- what both sides of a choice have
of_both : {A : Type 0} (P : A → Type 0) (b : Bool) (x y : A) → (b ≡ true → P x) → P y → P (cond b x y)
of_both P true x y p q = p refl
of_both P false x y p q = q

-- ---- a start
start_keeps : (h : Shedder) (m : Rows) (k : List (List ℕ)) (g : Hist) (rate ceiling : List ℕ) → head_whole h ≡ true → head_whole (start h m k g rate ceiling).head ≡ true
unfolding start
start_keeps h m k g rate ceiling w =
    let a = start_asked rate (sizes_of m k) in
    of_both (λ (b : Beginning). head_whole b.head ≡ true) (eqb a 0) _ _ (λ e. opening_whole rate ceiling (sizes_of m k) (eqb-true a 0 e)) w

-- ---- a scan
visit_head : (s : Scanning) → Whole s.head → 1 ≤ s.head.scan.remaining → Whole (visit s).head
unfolding visit
visit_head s w p = visited_whole s.head _ w p (omega arith)

again_head : (s : Scanning) → Whole s.head → Whole (again s).head
unfolding again
again_head s w = of_both (λ (x : Scanning). Whole x.head) (leb 1 s.head.scan.remaining) (visit s) s (λ e. visit_head s w (leb-true 1 s.head.scan.remaining e)) w

ended_head : (h : Shedder) (g : Hist) → Whole h → Whole (ended h g)
unfolding ended
ended_head h g w = of_both Whole (eqb h.scan.remaining 0) (trimmed h g) h (λ e. trimmed_whole h g w) w

begun_head : (h : Shedder) (g : Hist) (clock : ℕ) → Whole h → clock < 9007199254740992 → Whole (begun h g clock).head
unfolding begun
begun_head h g clock w p =
    of_both (λ (x : Started). Whole x.head) (leb 1 h.scan.remaining) (started h g) _ (λ e. w)
    (of_both (λ (x : Started). Whole x.head) (ltb clock (h.scan.began_ms + 500)) (started h g) (started (opened h clock) wants.cleared) (λ e. w) (opened_whole h clock w p))

scanned_case : (m : Rows) (b : Started) → Whole b.head → Whole (scanned_from m b).head
scanned_case m b w =
    of_both (λ (x : Scanning). Whole x.head) (leb 1 b.head.scan.remaining) _ (scanning b.head m b.hist)
    (λ e. ended_head (again (visit (scanning b.head m b.hist))).head _ (again_head (visit (scanning b.head m b.hist)) (visit_head (scanning b.head m b.hist) w (leb-true 1 b.head.scan.remaining e)))) w

scanned_head : (s : Scanning) (clock : ℕ) → Whole s.head → clock < 9007199254740992 → Whole (scanned s clock).head
unfolding scanned
scanned_head s clock w p = scanned_case s.rows (begun s.head s.hist clock) (begun_head s.head s.hist clock w p)

-- ---- a judgement
counted_head : (h : Shedder) (i : List ℕ) (k : List (List ℕ)) (n : Name) (v : Verdict) (cost : List ℕ) → Whole h → length k ≡ h.counted_room → Whole (count_verdict (tally h i k) n v cost).head
unfolding count_verdict
counted_head h i k n v cost w e =
    of_both (λ (t : Tally). Whole t.head) (is_admitted v) (tally h i k) (tallied (tally h i k) n (cause_of v) (get_or cost 0 0)) (λ y. w)
    (tallied_whole h i k n (cause_of v) (get_or cost 0 0) w e)

bounded_head : (h : Shedder) (m : Memory) (u : Unit) (cost : List ℕ) (stamp : ℕ) → Whole h → stamp < 9007199254740992 → length m.counted ≡ h.counted_room → Whole (bounded h m u cost stamp).head
unfolding bounded
bounded_head h m u cost stamp w p e =
    let clock = max stamp h.flow.at_ms in
    let held : clock < 9007199254740992 = latest stamp h.flow.at_ms p w.clock in
    let j = judged h m.rows u (numbers cost) clock in
    let t = count_verdict (tally j.head j.rows.tags m.counted) (name_of u) j.verdict cost in
    scanned_head (scanning t.head (with_tags j.rows t.tags) m.hist) clock
    (counted_head j.head j.rows.tags m.counted (name_of u) j.verdict cost (judged_head h m.rows u (numbers cost) clock w held) (e ∙ sym (judged_room h m.rows u (numbers cost) clock))) held

judge_keeps : (h : Shedder) (m : Memory) (u : Unit) (cost : List ℕ) (stamp : ℕ) → head_whole h ≡ true → head_whole (judge h m u cost stamp).head ≡ true
unfolding judge
judge_keeps h m u cost stamp w =
    let a = judge_asked h (sizes_of m.rows m.counted) m.rows.offsets cost stamp in
    of_both (λ (j : Judged). head_whole j.head ≡ true) (eqb a 0) _ _ (λ e.
    of_both (λ (j : Judged). head_whole j.head ≡ true) (is_unbounded h.flow.rate) _ _ (λ y. w)
    (whole_is (bounded h m u cost stamp).head (bounded_head h m u cost stamp (whole_of h w) (asked_ready h (sizes_of m.rows m.counted) m.rows.offsets cost stamp (eqb-true a 0 e)).stamp_held
    (memory_counted h (sizes_of m.rows m.counted) (judge_memory h _ m.rows.offsets cost stamp (eqb-true a 0 e)))))) w

-- ---- a cut
after_head : (s : KeptBy) (k : List (List ℕ)) (u : Unit) (c : Cause) (cost : List ℕ) → Whole s.head → length k ≡ s.head.counted_room → head_whole (cut_after k u c cost s).head ≡ true
unfolding noted
after_head s k u c cost w e = whole_is _ (tallied_whole s.head s.rows.tags k (name_of u) (index_of c) (get_or cost 0 0) w e)

cut_keeps : (h : Shedder) (m : Rows) (k : List (List ℕ)) (u : Unit) (c : Cause) (cost : List ℕ) → head_whole h ≡ true → head_whole (cut h m k u c cost).head ≡ true
unfolding cut
cut_keeps h m k u c cost w =
    let a = cut_asked h (sizes_of m k) m.offsets cost in
    of_both (λ (x : Cut). head_whole x.head ≡ true) (eqb a 0) _ _ (λ e.
    let room : length k ≡ h.counted_room = memory_counted h (sizes_of m k) (cut_memory h _ m.offsets cost (eqb-true a 0 e)) in
    of_both (λ (x : Cut). head_whole x.head ≡ true) (hands_back h.flow.rate c) _ _
    (λ y. after_head (handed_back (kept_by h m) u (numbers cost)) k u c cost (handed_head h m u (numbers cost) (whole_of h w)) (room ∙ sym (handed_room h m u (numbers cost))))
    (after_head (kept_by h m) k u c cost (whole_of h w) room)) w

-- ---- new rates
rates_keeps : (h : Shedder) (m : Rows) (k : List (List ℕ)) (rate ceiling : List ℕ) (stamp : ℕ) → head_whole h ≡ true → head_whole (set_rates h m k rate ceiling stamp).head ≡ true
unfolding set_rates
rates_keeps h m k rate ceiling stamp w =
    let a = rates_asked h (sizes_of m k) m.offsets rate stamp in
    of_both (λ (c : Changed). head_whole c.head ≡ true) (eqb a 0) _ _
    (λ e. whole_is _ (turned_head h rate ceiling stamp (whole_of h w) (taken h (sizes_of m k) m.offsets rate stamp (eqb-true a 0 e)))) w

pub heads : HeadStays
heads = record { start_keeps = start_keeps; judge_keeps = judge_keeps; cut_keeps = cut_keeps; rates_keeps = rates_keeps }
