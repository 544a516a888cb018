-- The calls of the page are those of the contracts. Assumes nothing.
use mathlib.Core.Path.{◌≡◌, refl}
use mathlib.Core.Bool.{Bool, true, false, cond, not, ◌&&◌}
use mathlib.Core.List.{List, [], ◌∷◌, ◌++◌}
use Prim.Native.Nat.{ℕ}
use lib.Dec.{eqb, leb}
use lib.ListN.{length, get_or, drop}
use Rattle.flow.specs.Flow.{numbers}
use Rattle.sender.specs.declared.Unit.{Unit}
use Rattle.sender.specs.Sender.{name_of}
use Rattle.head.specs.declared.Shedder.{Shedder}
use Rattle.store.specs.declared.Cause.{Cause}
use Rattle.store.specs.Held.{sizes_of}
use Rattle.flow.specs.declared.Dim.{Dim}
use Rattle.std.proofs.Common.{Ok}
use Rattle.verdict.specs.declared.Verdict.TheVariants as verdict
use Rattle.head.specs.Answers.{refusal_of as refusal_by, refused}
use Rattle.head.specs.Questions as asked
use Rattle.head.specs.Start as starts
use Rattle.head.specs.Readings as readings
use Rattle.head.specs.Readings.{index_of}
use Rattle.judge.specs.Judging as judging
use Rattle.judge.specs.Judging.{Memory, judge_ends}
use Rattle.cut.specs.Cutting as cutting
use Rattle.rates.specs.Rates as rates
use Rattle.report.specs.Report as reports
use Rattle.meaning.specs.State.{after, ask}
use Rattle.meaning.specs.Page as page
use Rattle.meaning.specs.Agrees.{of, started, judged, cut, changed, start_with, report_with, front_with, asked_with, Agrees}
use Rattle.meaning.proofs.Asked.{unbounded_is, rates_is, stamp_is, costs_is, head_is, memory_is, sizes_is}
use Rattle.meaning.proofs.Judged.{counted_is, handed_is, kept}
use Rattle.meaning.proofs.Bounded.{memory_whole, bounded_is, rule_is, hands_is}

-- ---- start
start_is : (h : Shedder) (m : Memory) (rate ceiling : List ℕ) → page.start (of h m) rate ceiling ≡ started m (start_with h m rate ceiling)
unfolding page.start page.opened starts.start starts.opening starts.buckets starts.first_levels asked.start_asked
start_is h m rate ceiling = rw (rates_is rate, sizes_is (of h m)) (go (asked.rates_whole rate) (asked.sizes_whole (sizes_of m.rows m.counted)) _)
  where
    go : (a b : Bool) (x : starts.Beginning) → ask ((1, a) ∷ (2, b) ∷ []) (λ n. after (refused n) (of h m)) (started m x) ≡ started m (cond (eqb (cond a (cond b 0 2) 1) 0) x (starts.start_ends (refused (cond a (cond b 0 2) 1)) h m.rows m.hist))
    go true true x = refl
    go true false x = refl
    go false b x = refl

-- ---- judge
judge_is : (h : Shedder) (m : Memory) (u : Unit) (cost : List ℕ) (stamp : ℕ) → page.judge (of h m) u cost stamp ≡ judged (judging.judge h m u cost stamp)
unfolding page.judge page.judge_asks judging.judge asked.judge_asked
judge_is h m u cost stamp =
    let s = of h m in
    rw (head_is h m.rows.offsets, memory_is s, costs_is cost, stamp_is stamp, unbounded_is h.flow.rate, bounded_is h m u cost stamp)
    (go (asked.whole_with h m.rows.offsets) (memory_whole h m) (asked.costs_held cost) (asked.is_stamp stamp) (asked.is_unbounded h.flow.rate) (judging.bounded h m u cost stamp))
  where
    go : (a b c d e : Bool) (x : judging.Judged) → ask ((3, a) ∷ (4, b) ∷ (5, c) ∷ (6, d) ∷ []) (λ n. after (refused n) (of h m)) (cond e (after (Ok verdict.Admitted) (of h m)) (judged x))
        ≡ judged (cond (eqb (cond a (cond b (cond c (cond d 0 6) 5) 4) 3) 0) (cond e (judge_ends (Ok verdict.Admitted) h m) x) (judge_ends (refused (cond a (cond b (cond c (cond d 0 6) 5) 4) 3)) h m))
    go true true true true true x = refl
    go true true true true false x = refl
    go true true true false e x = refl
    go true true false d e x = refl
    go true false c d e x = refl
    go false b c d e x = refl

-- ---- cut
cut_is : (h : Shedder) (m : Memory) (u : Unit) (c : Cause) (cost : List ℕ) → page.cut (of h m) u c cost ≡ cut m.hist (cutting.cut h m.rows m.counted u c cost)
unfolding page.cut cutting.cut cutting.noted asked.cut_asked
cut_is h m u c cost =
    let s = of h m in
    rw (head_is h m.rows.offsets, memory_is s, costs_is cost, unbounded_is h.flow.rate, hands_is h.flow.rate c, handed_is s u (numbers cost))
    (go (asked.whole_with h m.rows.offsets) (memory_whole h m) (asked.costs_held cost) (cutting.hands_back h.flow.rate c))
  where
    back : cutting.KeptBy
    back = cutting.handed_back (cutting.kept_by h m.rows) u (numbers cost)

    counted : cutting.KeptBy → cutting.Cut
    counted k = cutting.cut_after m.counted u c cost k

    one : (k : cutting.KeptBy) → after (Ok tt) (page.counted (kept (of h m) k) (name_of u) (index_of c) (get_or cost 0 0)) ≡ cut m.hist (counted k)
    one k = rw (counted_is (kept (of h m) k) (name_of u) (index_of c) (get_or cost 0 0)) refl

    go : (a b c' e : Bool) → ask ((3, a) ∷ (4, b) ∷ (5, c') ∷ []) (λ n. after (refused n) (of h m)) (after (Ok tt) (page.counted (cond e (kept (of h m) back) (of h m)) (name_of u) (index_of c) (get_or cost 0 0)))
        ≡ cut m.hist (cond (eqb (cond a (cond b (cond c' 0 5) 4) 3) 0)
        (cond e (counted back) (counted (cutting.kept_by h m.rows)))
        (cutting.cut_ends (refused (cond a (cond b (cond c' 0 5) 4) 3)) h m.rows m.counted))
    go true true true true = one back
    go true true true false = one (cutting.kept_by h m.rows)
    go true true false e = refl
    go true false c' e = refl
    go false b c' e = refl

-- ---- new rates
change_is : (h : Shedder) (m : Memory) (rate ceiling : List ℕ) (stamp : ℕ)
    → page.set_rates (of h m) rate ceiling stamp ≡ changed m (rates.set_rates h m.rows m.counted rate ceiling stamp)
unfolding page.set_rates page.rates_asks page.clock_by page.turned page.opened rates.set_rates rates.turned asked.rates_asked asked.both_bounded
change_is h m rate ceiling stamp =
    let s = of h m in
    rw (head_is h m.rows.offsets, memory_is s, rates_is rate, stamp_is stamp, unbounded_is h.flow.rate, unbounded_is rate)
    (go (asked.whole_with h m.rows.offsets) (memory_whole h m) (asked.rates_whole rate) (asked.is_stamp stamp) (not (asked.is_unbounded h.flow.rate) && not (asked.is_unbounded rate)) _)
  where
    go : (a b c d e : Bool) (x : Shedder) → ask ((3, a) ∷ (4, b) ∷ (1, c) ∷ (6, d) ∷ (10, e) ∷ []) (λ n. after (refused n) (of h m)) (after (Ok tt) (of x m))
        ≡ changed m (cond (eqb (cond a (cond b (cond c (cond d (cond e 0 10) 6) 1) 4) 3) 0) (rates.change_ends (Ok tt) x) (rates.change_ends (refused (cond a (cond b (cond c (cond d (cond e 0 10) 6) 1) 4) 3)) h))
    go true true true true true x = refl
    go true true true true false x = refl
    go true true true false e x = refl
    go true true false d e x = refl
    go true false c d e x = refl
    go false b c d e x = refl

-- ---- report
module _ (h : Shedder) (m : Memory) (out : List ℕ) where
  lines : List ℕ
  lines = page.lines (of h m)

  asks : Bool → Bool → Bool → ℕ
  asks a b c = cond a (cond b (cond c 0 7) 4) 3

  answered : (a b c : Bool) → page.Reported
  answered a b c = ask ((3, a) ∷ (4, b) ∷ (7, c) ∷ []) (λ n. record { answer = refused n; front = []; out = out }) (record { answer = Ok (length lines); front = lines; out = lines ++ drop (length lines) out })

  ends_is : (a b c : Bool) → reports.ends (answered a b c).answer (answered a b c).out ≡ cond (eqb (asks a b c) 0) (reports.ends (Ok (length lines)) (lines ++ drop (length lines) out)) (reports.ends (refused (asks a b c)) out)
  unfolding answered asks
  ends_is true true true = refl
  ends_is true true false = refl
  ends_is true false c = refl
  ends_is false b c = refl

  front_of : (a b c : Bool) → (answered a b c).front ≡ cond (eqb (asks a b c) 0) lines []
  unfolding answered asks
  front_of true true true = refl
  front_of true true false = refl
  front_of true false c = refl
  front_of false b c = refl

  report_is : reports.ends (page.report (of h m) out).answer (page.report (of h m) out).out ≡ report_with h m out
  unfolding page.report page.report_asks reports.report reports.report_asked lines answered asks
  report_is = rw (head_is h m.rows.offsets, memory_is (of h m)) (ends_is (asked.whole_with h m.rows.offsets) (memory_whole h m) (leb (length lines) (length out)))

  front_is : (page.report (of h m) out).front ≡ front_with h m (length out)
  unfolding page.report page.report_asks reports.front reports.report_asked lines answered asks
  front_is = rw (head_is h m.rows.offsets, memory_is (of h m)) (front_of (asked.whole_with h m.rows.offsets) (memory_whole h m) (leb (length lines) (length out)))

  refusal_of : (a b c : Bool) → ask ((3, a) ∷ (4, b) ∷ (7, c) ∷ []) (λ n. n) 0 ≡ asks a b c
  unfolding asks
  refusal_of true true true = refl
  refusal_of true true false = refl
  refusal_of true false c = refl
  refusal_of false b c = refl

  refusal_is : page.report_refusal (of h m) out ≡ asked_with h m (length out)
  unfolding page.report_refusal page.report_asks reports.report_asked asks
  refusal_is = rw (head_is h m.rows.offsets, memory_is (of h m)) (refusal_of (asked.whole_with h m.rows.offsets) (memory_whole h m) (leb (length (page.lines (of h m))) (length out)))

-- ---- readings
module _ (h : Shedder) (os : List ℕ) where
  visited_is : page.visited h os ≡ readings.visited h os
  unfolding page.visited readings.visited refusal_by
  visited_is = simp head_is

  batches_is : (c : Cause) → page.cut_batches h os c ≡ readings.cut_batches h os c
  unfolding page.cut_batches readings.cut_batches refusal_by
  batches_is c = simp head_is

  level_is : (d : Dim) → page.level h os d ≡ readings.level_read h os d
  unfolding page.level readings.level_read refusal_by
  level_is d = simp head_is

  rate_is : (d : Dim) → page.rate h os d ≡ readings.rate_read h os d
  unfolding page.rate readings.rate_read refusal_by
  rate_is d = simp (head_is, unbounded_is)

  bounded_reads : page.is_bounded h os ≡ readings.is_bounded h os
  unfolding page.is_bounded readings.is_bounded refusal_by
  bounded_reads = simp (head_is, unbounded_is)

pub agrees : Agrees
agrees = record {
  start_is = start_is;
  judge_is = judge_is;
  rule_is = rule_is;
  cut_is = cut_is;
  rates_is = change_is;
  report_is = report_is;
  front_is = front_is;
  refusal_is = refusal_is;
  visited_is = visited_is;
  batches_is = batches_is;
  level_is = level_is;
  rate_is = rate_is;
  bounded_is = bounded_reads;
}
