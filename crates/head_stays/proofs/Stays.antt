-- A judgement, a cut and new rates leave the head whole, and the offsets. Assumes nothing.
use mathlib.Core.Path.{◌≡◌, refl, sym, ◌∙◌}
use mathlib.Core.Bool.{Bool, true, false, cond}
use mathlib.Core.List.{List, [], ◌∷◌}
use Prim.Native.Nat.{ℕ, ◌+◌, ◌%◌, ◌^◌, ◌≤◌, ◌<◌, max}
use native.Mathlib.Omega.{arith}
use lib.Dec.{eqb, ltb}
use lib.ListN.{length, get_or, set, take, drop, length-set, length-append}
use lib.Seq.{length-take-le}
use lib.Ieee.{Float}
use borrow.Author.Tests.{ltb-true, ltb-false, eqb-true}
use Rattle.flow.specs.Flow as flow
use Rattle.flow.specs.Flow.{numbers}
use Rattle.verdict.specs.Verdict.{is_admitted}
use Rattle.verdict.specs.declared.Verdict.{Verdict}
use Rattle.sender.specs.declared.Unit.{Unit}
use Rattle.sender.specs.declared.Words.{Words}
use Rattle.sender.specs.declared.Name.{Name}
use Rattle.sender.specs.Sender.{name_of}
use Rattle.cut_sources.specs.Counted as counts
use Rattle.store.specs.Store.{Rows, with_tags}
use Rattle.store.specs.Held.{sizes_of}
use Rattle.cut_sources.specs.Counted.{Sources, sources, counted_find, counted_up, counted_add}
use Rattle.cut_sources.proofs.Pruning.{frees}
use Rattle.head.specs.declared.Shedder.{Shedder}
use Rattle.store.specs.declared.Cause.{Cause}
use Rattle.head.specs.Questions.{is_unbounded, whole_with, judge_asked, cut_asked, CutReady}
use Rattle.head.specs.Readings.{index_of}
use Rattle.head.proofs.Asked.{with_of, with_is, asked_ready, cut_ready, sized_of}
use Rattle.scan.specs.Scanning.{scanning}
use Rattle.store_entry.specs.Entering.{entry, used_at}
use Rattle.cut_counts.specs.Counting.{Tally, tally, source_tags, added, cause_of, tallied, count_verdict}
use Rattle.judge.specs.Judging.{flowed, outcome_at, judged, Memory, Judged, bounded, judge}
use Rattle.cut.specs.Cutting.{KeptBy, kept_by, hands_back, flowed_back, handed_back, Cut, noted, cut_after, cut}
use Rattle.head_stays.specs.Whole.{Long, judged_whole, cut_whole, Stays}
use Rattle.head.proofs.Whole.{Whole, whole_of, whole_is}
use Rattle.head_stays.proofs.Parts.{Fit, used_entry, fit_entry, fit_back, fit_tags}
use Rattle.head_stays.proofs.Rates.{rates_keeps}
use Rattle.head_stays.proofs.Whole.{Kept, scanned_kept, start_whole, start_keeps, judge_memory, cut_memory, memory_counted}

-- ---- the record
pub judged_head : (h : Shedder) (m : Rows) (u : Unit) (cost : List Float) (now : ℕ) → Whole h → now < 9007199254740992 → Whole (judged h m u cost now).head
unfolding judged flowed
judged_head h m u cost now w p = record {
  rates = w.rates;
  clock = p;
  at = w.at;
  began = w.began;
  read = w.read;
  tables = w.tables;
  units_least = w.units_least;
  units_most = w.units_most;
  counted_least = w.counted_least;
  counted_most = w.counted_most;
  tracked_held = used_entry m h.tracked h.unit_room u now w.tracked_held;
  counted_held = w.counted_held;
}

pub judged_kept : (h : Shedder) (m : Rows) (u : Unit) (cost : List Float) (now : ℕ) → Kept h m → now < 9007199254740992 → Kept (judged h m u cost now).head (judged h m u cost now).rows
judged_kept h m u cost now k p = record { head = judged_head h m u cost now k.head p; rows = rows }
  where
    rows : Fit (judged h m u cost now).rows (judged h m u cost now).head.tracked (judged h m u cost now).head.unit_room
    rows = unfold judged flowed in (
        let e = entry m h.tracked h.unit_room u now in
        fit_back e.rows h.overflow e.place.tracked h.unit_room e.place.at (outcome_at h u cost now e).used (fit_entry m h.tracked h.unit_room u now k.rows))

pub handed_head : (h : Shedder) (m : Rows) (u : Unit) (cost : List Float) → Whole h → Whole (handed_back (kept_by h m) u cost).head
unfolding handed_back flowed_back
handed_head h m u cost w = record {
  rates = w.rates;
  clock = w.clock;
  at = w.at;
  began = w.began;
  read = w.read;
  tables = w.tables;
  units_least = w.units_least;
  units_most = w.units_most;
  counted_least = w.counted_least;
  counted_most = w.counted_most;
  tracked_held = used_entry m h.tracked h.unit_room u h.flow.at_ms w.tracked_held;
  counted_held = w.counted_held;
}

pub handed_kept : (h : Shedder) (m : Rows) (u : Unit) (cost : List Float) → Kept h m → Kept (handed_back (kept_by h m) u cost).head (handed_back (kept_by h m) u cost).rows
handed_kept h m u cost k = record { head = handed_head h m u cost k.head; rows = rows }
  where
    rows : Fit (handed_back (kept_by h m) u cost).rows (handed_back (kept_by h m) u cost).head.tracked (handed_back (kept_by h m) u cost).head.unit_room
    rows = unfold handed_back flowed_back in (
        let e = entry m h.tracked h.unit_room u h.flow.at_ms in
        fit_back e.rows h.overflow e.place.tracked h.unit_room e.place.at (flow.handed_back (used_at e.rows h.overflow e.place.at) cost) (fit_entry m h.tracked h.unit_room u h.flow.at_ms k.rows))

-- ---- the counts: a row is left free
sources_all : (b : Bool) (x y : Sources) (P : Sources → Type 0) → (b ≡ true → P x) → (b ≡ false → P y) → P (cond b x y)
sources_all true x y P p q = p refl
sources_all false x y P p q = q refl

count_held : (tags : List ℕ) (rows : List (List ℕ)) (n : ℕ) (name : Name) (cause : ℕ) → (counts.count tags rows n name cause).count ≤ n + 1
unfolding counts.count
count_held tags rows n name cause = sources_all (ltb (counted_find tags rows name n) n) _ _ (λ (s : Sources). s.count ≤ n + 1) (λ e. omega arith) (λ e. omega arith)

up_length : (rows : List (List ℕ)) (i cause : ℕ) → length (counted_up rows i cause) ≡ length rows
unfolding counted_up
up_length rows i cause = length-set rows i (set (counts.counted_row rows i) (5 + cause) ((get_or (counts.counted_row rows i) (5 + cause) 0 + 1) % 2 ^ 64))

add_length : (rows : List (List ℕ)) (i : ℕ) (w : Words) → length (counted_add rows i w) ≡ length rows
unfolding counted_add
add_length rows i w = length-set rows i (w.kind ∷ w.a ∷ w.b ∷ w.c ∷ w.d ∷ 0 ∷ 0 ∷ 0 ∷ [])

count_length : (tags : List ℕ) (rows : List (List ℕ)) (n : ℕ) (name : Name) (cause : ℕ) → length (counts.count tags rows n name cause).rows ≡ length rows
unfolding counts.count
count_length tags rows n name cause =
    sources_all (ltb (counted_find tags rows name n) n) (sources n (counted_up rows (counted_find tags rows name n) cause)) (sources (n + 1) (counted_up (counted_add rows n name.words) n cause)) (λ (s : Sources). length s.rows ≡ length rows)
    (λ e. up_length rows (counted_find tags rows name n) cause) (λ e. up_length (counted_add rows n name.words) n cause ∙ add_length rows n name.words)

pruned_held : (s : Sources) (c : ℕ) → s.count ≤ c → length s.rows ≡ c → 2 ≤ c → (counts.pruned s).count < c
unfolding counts.pruned
pruned_held s c p e q =
    sources_all (ltb s.count (length s.rows)) s _ (λ (t : Sources). t.count < c)
    (λ y. omega (arith, ltb-true s.count (length s.rows) y, e))
    (λ y. let long : length s.rows ≤ s.count = ltb-false s.count (length s.rows) y in omega (arith, frees s.rows s.count (omega (arith, long, e, q)) (omega (arith, p, e)), p))

pub tallied_whole : (h : Shedder) (i : List ℕ) (k : List (List ℕ)) (n : Name) (cause receptions : ℕ) → Whole h → length k ≡ h.counted_room → Whole (tallied (tally h i k) n cause receptions).head
unfolding tallied added
tallied_whole h i k n cause receptions w e = record {
  rates = w.rates;
  clock = w.clock;
  at = w.at;
  began = w.began;
  read = w.read;
  tables = w.tables;
  units_least = w.units_least;
  units_most = w.units_most;
  counted_least = w.counted_least;
  counted_most = w.counted_most;
  tracked_held = w.tracked_held;
  counted_held =
      pruned_held (counts.count (source_tags (tally h i k)) k h.counted n cause) h.counted_room (omega (arith, count_held (source_tags (tally h i k)) k h.counted n cause, w.counted_held))
      (count_length (source_tags (tally h i k)) k h.counted n cause ∙ e) w.counted_least;
}

-- the tags of the unit records stay in front
tallied_tags : (h : Shedder) (i : List ℕ) (k : List (List ℕ)) (n : Name) (cause receptions : ℕ) → h.unit_room ≤ length i → h.unit_room ≤ length (tallied (tally h i k) n cause receptions).tags
unfolding tallied
tallied_tags h i k n cause receptions l =
    omega (arith, length-append (take h.unit_room i) (counts.pruned_tags (counts.count (drop h.unit_room i) k h.counted n cause) (counts.count_tags (drop h.unit_room i) k h.counted n)), length-take-le h.unit_room i l)

-- with the lists of records, whose tags those of the tally are
abbrev pub Told : Rows → Tally → Type 0
Told m t = Kept t.head (with_tags m t.tags)

tallied_kept : (h : Shedder) (m : Rows) (k : List (List ℕ)) (n : Name) (cause receptions : ℕ) → Kept h m → length k ≡ h.counted_room → Told m (tallied (tally h m.tags k) n cause receptions)
tallied_kept h m k n cause receptions w e = record { head = tallied_whole h m.tags k n cause receptions w.head e; rows = rows }
  where
    long : h.unit_room ≤ length m.tags
    long = let u = w.rows in let z = u.sized in omega (arith, u.units, z.tags)

    rows : Fit (with_tags m (tallied (tally h m.tags k) n cause receptions).tags) (tallied (tally h m.tags k) n cause receptions).head.tracked (tallied (tally h m.tags k) n cause receptions).head.unit_room
    rows = unfold tallied added in fit_tags m _ h.tracked h.unit_room w.rows (tallied_tags h m.tags k n cause receptions long)

cond_tally : (m : Rows) (b : Bool) (x y : Tally) → Told m x → Told m y → Told m (cond b x y)
cond_tally m true x y p q = p
cond_tally m false x y p q = q

pub counted_kept : (h : Shedder) (m : Rows) (k : List (List ℕ)) (n : Name) (v : Verdict) (cost : List ℕ) → Kept h m → length k ≡ h.counted_room → Told m (count_verdict (tally h m.tags k) n v cost)
unfolding count_verdict
counted_kept h m k n v cost w e =
    cond_tally m (is_admitted v) (tally h m.tags k) (tallied (tally h m.tags k) n (cause_of v) (get_or cost 0 0)) w (tallied_kept h m k n (cause_of v) (get_or cost 0 0) w e)

-- ---- a judgement
pub judged_room : (h : Shedder) (m : Rows) (u : Unit) (cost : List Float) (now : ℕ) → (judged h m u cost now).head.counted_room ≡ h.counted_room
unfolding judged
judged_room h m u cost now = refl

pub latest : (a b : ℕ) → a < 9007199254740992 → b < 9007199254740992 → max a b < 9007199254740992
latest a b p q = omega (arith, p, q)

-- what the questions show, as it is kept
pub kept_of : (h : Shedder) (m : Rows) (k : List (List ℕ)) → Long m → whole_with h m.offsets ≡ true → CutReady h (sizes_of m k) m.offsets → Kept h m
kept_of h m k l e w =
    let x = with_of h m.offsets e in
    record {
      head = whole_of h x.head;
      rows = record { sized = sized_of h m k w; units = w.units_room; used = w.tracked_held; long = l; whole = x.parts };
    }

kept_with : (h : Shedder) (m : Rows) → Kept h m → whole_with h m.offsets ≡ true
kept_with h m w = with_is h m.offsets (whole_is h w.head) (let f = w.rows in f.whole)

bounded_kept : (h : Shedder) (m : Memory) (u : Unit) (cost : List ℕ) (stamp : ℕ) → Kept h m.rows → stamp < 9007199254740992 → length m.counted ≡ h.counted_room → judged_whole (bounded h m u cost stamp)
unfolding bounded
bounded_kept h m u cost stamp w p e =
    let clock = max stamp h.flow.at_ms in
    let g = w.head in
    let held : clock < 9007199254740992 = latest stamp h.flow.at_ms p g.clock in
    let j = judged h m.rows u (numbers cost) clock in
    let t = count_verdict (tally j.head j.rows.tags m.counted) (name_of u) j.verdict cost in
    kept_with _ _ (scanned_kept (scanning t.head (with_tags j.rows t.tags) m.hist) clock
    (counted_kept j.head j.rows m.counted (name_of u) j.verdict cost (judged_kept h m.rows u (numbers cost) clock w held) (e ∙ sym (judged_room h m.rows u (numbers cost) clock))) held)

cond_judged : (b : Bool) (x y : Judged) → (b ≡ true → judged_whole x) → judged_whole y → judged_whole (cond b x y)
cond_judged true x y p q = p refl
cond_judged false x y p q = q

judge_keeps : (h : Shedder) (m : Memory) (u : Unit) (cost : List ℕ) (stamp : ℕ) → Long m.rows → whole_with h m.rows.offsets ≡ true → judged_whole (judge h m u cost stamp)
unfolding judge
judge_keeps h m u cost stamp l w =
    let a = judge_asked h (sizes_of m.rows m.counted) m.rows.offsets cost stamp in
    cond_judged (eqb a 0) _ _ (λ e.
    let r = asked_ready h (sizes_of m.rows m.counted) m.rows.offsets cost stamp (eqb-true a 0 e) in
    cond_judged (is_unbounded h.flow.rate) _ _ (λ y. w)
    (bounded_kept h m u cost stamp (kept_of h m.rows m.counted l w r.cut) r.stamp_held
    (memory_counted h (sizes_of m.rows m.counted) (judge_memory h _ m.rows.offsets cost stamp (eqb-true a 0 e))))) w

-- ---- a cut
after_kept : (s : KeptBy) (k : List (List ℕ)) (u : Unit) (c : Cause) (cost : List ℕ) → Kept s.head s.rows → length k ≡ s.head.counted_room → cut_whole (cut_after k u c cost s)
unfolding noted
after_kept s k u c cost w e = kept_with _ _ (tallied_kept s.head s.rows k (name_of u) (index_of c) (get_or cost 0 0) w e)

pub handed_room : (h : Shedder) (m : Rows) (u : Unit) (cost : List Float) → (handed_back (kept_by h m) u cost).head.counted_room ≡ h.counted_room
unfolding handed_back
handed_room h m u cost = refl

cond_cut : (b : Bool) (x y : Cut) → (b ≡ true → cut_whole x) → cut_whole y → cut_whole (cond b x y)
cond_cut true x y p q = p refl
cond_cut false x y p q = q

cut_keeps : (h : Shedder) (m : Rows) (k : List (List ℕ)) (u : Unit) (c : Cause) (cost : List ℕ) → Long m → whole_with h m.offsets ≡ true → cut_whole (cut h m k u c cost)
unfolding cut
cut_keeps h m k u c cost l w =
    let a = cut_asked h (sizes_of m k) m.offsets cost in
    cond_cut (eqb a 0) _ _ (λ e.
    let room : length k ≡ h.counted_room = memory_counted h (sizes_of m k) (cut_memory h _ m.offsets cost (eqb-true a 0 e)) in
    let f = kept_of h m k l w (cut_ready h (sizes_of m k) m.offsets cost (eqb-true a 0 e)) in
    cond_cut (hands_back h.flow.rate c) _ _ (λ y.
    (after_kept (handed_back (kept_by h m) u (numbers cost)) k u c cost (handed_kept h m u (numbers cost) f) (room ∙ sym (handed_room h m u (numbers cost)))))
    (after_kept (kept_by h m) k u c cost f room)) w

pub stays : Stays
stays = record { start_whole = start_whole; start_keeps = start_keeps; judge_keeps = judge_keeps; cut_keeps = cut_keeps; rates_keeps = rates_keeps }
