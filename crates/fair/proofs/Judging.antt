-- A judgement that is not refused: the real state after it is tied to the model's store after the model's judgement. Assumes nothing.
use mathlib.Core.Path.{◌≡◌, refl, sym, ap, ◌∙◌, subst}
use Prim.Native.Nat.{ℕ, ◌^◌, ◌≤◌, ◌<◌, max}
use native.Mathlib.Nat.{le_trans}
use native.Mathlib.Omega.{arith}
use mathlib.Core.Bool.{Bool, true, false, cond, true≢false}
use mathlib.Core.List.{List, ◌++◌}
use lib.Dec.{eqb, leb, ltb}
use lib.ListN.{length, get_or, take}
use lib.Ieee.{Float}
use borrow.Author.Tests.{eqb-true, leb-true, ltb-false}
use Rattle.flow.proofs.Parts.{all-at}
use Rattle.sender.specs.Sender as sender
use Rattle.flow.specs.Flow.{dims, bucket_at}
use Rattle.verdict.specs.Verdict.{is_admitted}
use Rattle.flow.specs.declared.Bucket.{Bucket}
use Rattle.flow.specs.declared.Use.{Use}
use Rattle.verdict.specs.declared.Outcome.{Outcome}
use Rattle.verdict.specs.declared.Verdict.{Verdict}
use Rattle.verdict.specs.declared.Verdict.TheVariants as verdict
use Rattle.sender.specs.declared.Unit as unit
use Rattle.sender.specs.declared.Name as sender_name
use Rattle.cut_sources.specs.Counted as counts
use Rattle.store.specs.Store.{with_tags}
use Rattle.parts.specs.Parts.{Rows, end}
use Rattle.store.specs.Held.{sizes_of}
use Rattle.store.specs.declared.lent.Sizes.{Sizes}
use Rattle.std.proofs.lemmas.Bool.{and_parts}
use Rattle.head.proofs.Tests.{zero_yes}
use Rattle.head.specs.declared.Shedder.{Shedder}
use Rattle.head.specs.declared.Flow.{Flow}
use Rattle.std.proofs.Common.{Ok}
use Rattle.head.specs.Answers.{refusal_of, refused}
use Rattle.head.proofs.Numbers.{number_some}
use Rattle.fair.specs.Given as goal
use Rattle.fair.specs.Given.{Memory, memory}
use Rattle.head.proofs.Asked.{asked_ready}
use Rattle.fair.specs.Tokens.{Pot, pot_of, holding}
use Rattle.fair.specs.Store as model
use Rattle.fair.specs.Demand as demand
use Rattle.fair.specs.Demand.{Batch, Here, present, verdict_here, does}
use Rattle.fair.specs.Calls as calls
use Rattle.fair.proofs.View.{Name, same, shares, name_of, R, listed}
use Rattle.fair.proofs.Back.{Whole}
use Rattle.fair.proofs.Entry as entry
use Rattle.fair.proofs.Entry.{Placed, viewed}
use Rattle.fair.proofs.Behind.{listed_behind, held_behind}
use Rattle.fair.proofs.Tied as tied
use Rattle.fair.proofs.Tied.{Tied}
use Rattle.fair.proofs.Outcome as outcome
use Rattle.fair.proofs.Outcome.{batch_of, outcome_of}

-- ---- what a judgement finds, from the real head and rows
abbrev pub found_at : Shedder → goal.Entered → Use
found_at h e = goal.used_at e.rows h.overflow e.place.at

abbrev pub fills : Shedder → List Float
fills h = goal.fills h.level (goal.numbers h.flow.rate)

abbrev pub batch_at : Shedder → unit.Unit → List ℕ → ℕ → goal.Entered → Batch
batch_at h u cost t e = batch_of h.flow.buckets (found_at h e) h.flow.at_ms t cost (fills h) h.level (goal.rank_at (sender.hash_of u) e.place.at h.unit_room)

abbrev outcome_at : Shedder → unit.Unit → List ℕ → ℕ → goal.Entered → Outcome
outcome_at h u cost t e = outcome_of h.flow.buckets (found_at h e) h.flow.at_ms t cost (fills h) h.level (goal.rank_at (sender.hash_of u) e.place.at h.unit_room)

-- how many records stand before the unit's if it is new: up to the end of its table's part
abbrev pub new_place : Rows → unit.Unit → ℕ
new_place m u = end m (sender.table_of_tag (sender.name_of u).tag)

outcome_is : (h : Shedder) (u : unit.Unit) (cost : List ℕ) (t : ℕ) (e : goal.Entered) → goal.outcome_at h u (goal.numbers cost) (max t h.flow.at_ms) e ≡ outcome_at h u cost t e
unfolding goal.outcome goal.numbers
outcome_is h u cost t e = refl

module _ (room : ℕ) (rate ceiling : List ℕ) where
  abbrev S : Type 0
  S = entry.S room

  abbrev K : Type 0
  K = entry.K room

  abbrev pub resolve : S → unit.Unit → K
  resolve st u = model.resolve Name same shares room st (name_of u)

  abbrev pub seen : K → S → demand.State
  seen k st = model.seen Name same shares room k st

  abbrev pub after : ℕ → K → demand.State → S → S
  after place k t st = model.after Name same shares room place k t st

  over_whole : (k : K) (x o : Use) → Whole x → Whole o → Whole (model.overflow_with Name same shares room k (present x) o)
  over_whole model.shared x o p q = p
  over_whole (model.own v) x o p q = q

  -- ---- a use is put back, and the flow is another
  module _ (h : Shedder) (m : Rows) (st : S) (clk : ℕ) (b : Tied room rate ceiling h m st clk) where
    so : viewed room st.pot m h.tracked h.overflow ≡ st
    so = ap (λ (xs : List (R room)). record { pot = st.pot; rows = xs; overflow = h.overflow }) b.rows_is ∙ ap (λ (x : Use). record { pot = st.pot; rows = st.rows; overflow = x }) b.overflow_is

    pub placed : (u : unit.Unit) (now : ℕ) → Placed room m h.tracked h.overflow (new_place m u) (resolve st u) st.pot u now (goal.entry m h.tracked h.unit_room u now)
    placed u now =
        subst (λ (r : ℕ). Placed room m h.tracked h.overflow (new_place m u) (resolve st u) st.pot u now (goal.entry m h.tracked r u now)) (sym b.room_is)
        (subst (λ (z : S). Placed room m h.tracked h.overflow (new_place m u) (resolve z u) st.pot u now (goal.entry m h.tracked room u now)) so
        (entry.entry_placed room st.pot m h.tracked h.overflow b.whole b.held u now))

    -- the use that is found is the model's
    pub found-is : (u : unit.Unit) (now : ℕ) (e : goal.Entered) → Placed room m h.tracked h.overflow (new_place m u) (resolve st u) st.pot u now e
        → goal.used_at e.rows h.overflow e.place.at ≡ demand.found (seen (resolve st u) st).used now
    found-is u now e p = p.used ∙ ap (λ (z : S). demand.found (model.look Name same shares room (resolve st u) z) now) so

    pub headed_tied : (u : unit.Unit) (now : ℕ) (e : goal.Entered) → Placed room m h.tracked h.overflow (new_place m u) (resolve st u) st.pot u now e
        → (f : Flow) (x : Use) (t : demand.State) → Whole x → present x ≡ t.used → f.rate ≡ rate → f.ceiling ≡ ceiling → clk ≤ f.at_ms → length f.buckets ≡ dims
        → ((d : ℕ) → d < dims → pot_of (bucket_at f.buckets d) (get_or rate d 0) (get_or ceiling d 0) ≡ t.pot d)
        → Tied room rate ceiling (goal.headed h f (goal.put_back e.rows h.overflow e.place.at x).overflow e.place.tracked)
        (goal.put_back e.rows h.overflow e.place.at x).rows
        (after (new_place m u) (resolve st u) t st) f.at_ms
    headed_tied u now e p f x t hx ux fr fz fc fl fb =
        let a = p.back x hx in
        let k = resolve st u in
        record {
          rate_is = fr;
          ceiling_is = fz;
          room_is = b.room_is;
          clock_is = refl;
          long = fl;
          pot_is = fb;
          rows_is = a.list ∙ ap (λ (y : demand.Kept). model.rows_with Name same shares room (new_place m u) k y (listed room m h.tracked)) ux
              ∙ ap (λ (xs : List (R room)). model.rows_with Name same shares room (new_place m u) k t.used xs) b.rows_is;
          overflow_is = a.over ∙ ap (λ (y : demand.Kept). model.overflow_with Name same shares room k y h.overflow) ux
              ∙ ap (λ (o : Use). model.overflow_with Name same shares room k t.used o) b.overflow_is;
          whole = subst Whole (sym a.over) (over_whole k x h.overflow hx b.whole);
          level_is = b.level_is;
          scan_is = le_trans b.scan_is fc;
          tables_is = b.tables_is;
          held = a.held;
        }

  -- ---- the judgement before counting and scanning
  module _ (h : Shedder) (m : Rows) (st : S) (b : Tied room rate ceiling h m st h.flow.at_ms) (u : unit.Unit) (cost : List ℕ) (t : ℕ) where
    abbrev now : ℕ
    now = max t h.flow.at_ms

    abbrev e : goal.Entered
    e = goal.entry m h.tracked h.unit_room u now

    -- the model's judgement
    abbrev deed : demand.Deed
    deed = Here (batch_at h u cost t e) (fills h)

    abbrev k : K
    k = resolve st u

    sound : outcome.Sound (seen k st) h.flow.buckets h.flow.at_ms t cost (fills h) h.level (goal.rank_at (sender.hash_of u) e.place.at h.unit_room) (found_at h e)
    sound = outcome.outcome_sound h.flow.buckets h.flow.at_ms t cost (fills h) h.level (goal.rank_at (sender.hash_of u) e.place.at h.unit_room) b.long (seen k st) (λ d small. ap (λ (p : Pot). p.bucket) (b.pot_is d small))
        (found_at h e) (found-is h m st h.flow.at_ms b u now e (placed h m st h.flow.at_ms b u now))

    passing_tied : (cst : List Float) (o : Outcome) → o ≡ outcome_at h u cost t e
        → Tied room rate ceiling (goal.passing h now cst e o (goal.put_back e.rows h.overflow e.place.at o.used)).head
        (goal.passing h now cst e o (goal.put_back e.rows h.overflow e.place.at o.used)).rows (after (new_place m u) k (does (seen k st) h.flow.at_ms deed) st) now
    unfolding goal.flowed
    passing_tied cst o q =
        headed_tied h m st h.flow.at_ms b u now e (placed h m st h.flow.at_ms b u now) (goal.flowed h.flow o cst now) o.used (does (seen k st) h.flow.at_ms deed)
        (subst (λ (o : Outcome). Whole o.used) (sym q)
        (outcome.outcome_whole h.flow.buckets h.flow.at_ms t cost (fills h) h.level (goal.rank_at (sender.hash_of u) e.place.at h.unit_room) b.long (found_at h e) (placed h m st h.flow.at_ms b u now).whole))
        (ap (λ (o : Outcome). present o.used) q ∙ sound.used)
        b.rate_is
        b.ceiling_is
        (let x : h.flow.at_ms ≤ max t h.flow.at_ms = omega arith in x)
        (ap (λ (o : Outcome). length o.buckets) q ∙ outcome.outcome_long h.flow.buckets h.flow.at_ms t cost (fills h) h.level (goal.rank_at (sender.hash_of u) e.place.at h.unit_room) b.long (found_at h e))
        (λ d small. ap (λ (x : Bucket). pot_of x (get_or rate d 0) (get_or ceiling d 0)) (ap (λ (o : Outcome). bucket_at o.buckets d) q ∙ sound.bucket d small)
        ∙ ap (λ (p : Pot). holding p ((does (seen k st) h.flow.at_ms deed).pot d).bucket) (b.pot_is d small))

    abbrev p : goal.Through
    p = goal.judged h m u (goal.numbers cost) now

    pub judged_tied : Tied room rate ceiling p.head p.rows (after (new_place m u) k (does (seen k st) h.flow.at_ms deed) st) now
    unfolding goal.judged
    judged_tied = passing_tied (goal.numbers cost) (goal.outcome_at h u (goal.numbers cost) now e) (outcome_is h u cost t e)

    pub judged_verdict : p.verdict ≡ verdict_here (seen k st) h.flow.at_ms (batch_at h u cost t e) (fills h)
    unfolding goal.judged
    judged_verdict = ap (λ (o : Outcome). o.verdict) (outcome_is h u cost t e) ∙ sound.verdict

  -- ---- counting leaves the tie
  counted_tied : (h : Shedder) (n c r : ℕ) (m : Rows) (st : S) (clk : ℕ) → Tied room rate ceiling h m st clk → Tied room rate ceiling (goal.added h n c r) m st clk
  unfolding goal.added
  counted_tied h n c r m st clk b = record {
    rate_is = b.rate_is;
    ceiling_is = b.ceiling_is;
    room_is = b.room_is;
    clock_is = b.clock_is;
    long = b.long;
    pot_is = b.pot_is;
    rows_is = b.rows_is;
    overflow_is = b.overflow_is;
    whole = b.whole;
    level_is = b.level_is;
    scan_is = b.scan_is;
    tables_is = b.tables_is;
    held = b.held;
  }

  -- other tags behind those of the unit records leave it too
  behind_tied : (h : Shedder) (m : Rows) (ts : List ℕ) (st : S) (clk : ℕ) → Tied room rate ceiling h m st clk → Tied room rate ceiling h (with_tags m (take h.unit_room m.tags ++ ts)) st clk
  behind_tied h m ts st clk b =
      let l = b.held.well.sound.room in
      subst (λ (r : ℕ). Tied room rate ceiling h (with_tags m (take r m.tags ++ ts)) st clk) (sym b.room_is) (record {
        rate_is = b.rate_is;
        ceiling_is = b.ceiling_is;
        room_is = b.room_is;
        clock_is = b.clock_is;
        long = b.long;
        pot_is = b.pot_is;
        rows_is = listed_behind room m h.tracked b.held ts h.tracked (omega (arith, b.held.room_is)) ∙ b.rows_is;
        overflow_is = b.overflow_is;
        whole = b.whole;
        level_is = b.level_is;
        scan_is = b.scan_is;
        tables_is = b.tables_is;
        held = held_behind room m h.tracked b.held ts;
      })

  abbrev tally_on : Shedder → Rows → List (List ℕ) → goal.Tally
  tally_on h m k = goal.tally h m.tags k

  abbrev rows_then : Rows → goal.Tally → Rows
  rows_then m t = with_tags m t.tags

  pub tallied_tied : (h : Shedder) (k : List (List ℕ)) (n : sender_name.Name) (c r : ℕ) (m : Rows) (st : S) (clk : ℕ) → Tied room rate ceiling h m st clk
      → Tied room rate ceiling (goal.tallied (tally_on h m k) n c r).head (rows_then m (goal.tallied (tally_on h m k) n c r)) st clk
  unfolding goal.tallied
  tallied_tied h k n c r m st clk b =
      let own : List ℕ = goal.source_tags (tally_on h m k) in
      let s = counts.count own k h.counted n c in
      let ts = counts.pruned_tags s (counts.count_tags own k h.counted n) in
      counted_tied h (counts.pruned s).count c r (with_tags m (take h.unit_room m.tags ++ ts)) st clk (behind_tied h m ts st clk b)

  pub verdict_tied : (h : Shedder) (k : List (List ℕ)) (n : sender_name.Name) (v : Verdict) (cost : List ℕ) (m : Rows) (st : S) (clk : ℕ) → Tied room rate ceiling h m st clk
      → Tied room rate ceiling (goal.count_verdict (tally_on h m k) n v cost).head (rows_then m (goal.count_verdict (tally_on h m k) n v cost)) st clk
  unfolding goal.count_verdict
  verdict_tied h k n v cost m st clk b = go (is_admitted v)
    where
      go : (c : Bool) → Tied room rate ceiling (cond c (tally_on h m k) (goal.tallied (tally_on h m k) n (goal.cause_of v) (get_or cost 0 0))).head (rows_then m (cond c (tally_on h m k) (goal.tallied (tally_on h m k) n (goal.cause_of v) (get_or cost 0 0)))) st clk
      go true = b
      go false = tallied_tied h k n (goal.cause_of v) (get_or cost 0 0) m st clk b

  -- ---- the whole judgement, as the model's
  abbrev pub C : Type 0
  C = model.Call Name same shares room

  -- the head that the scan finds
  abbrev tally_then : Shedder → Memory → unit.Unit → List ℕ → ℕ → goal.Tally
  tally_then h m u cost now =
      goal.count_verdict (tally_on (goal.judged h m.rows u (goal.numbers cost) now).head (goal.judged h m.rows u (goal.numbers cost) now).rows m.counted) (sender.name_of u) (goal.judged h m.rows u (goal.numbers cost) now).verdict cost

  abbrev head_then : Shedder → Memory → unit.Unit → List ℕ → ℕ → Shedder
  head_then h m u cost now = (tally_then h m u cost now).head

  abbrev pub judge_call_at : Shedder → Memory → unit.Unit → List ℕ → ℕ → ℕ → goal.Entered → C
  judge_call_at h m u cost t now e = model.Judge (name_of u) (batch_at h u cost t e) (fills h) (tied.came room rate ceiling (head_then h m u cost now) (rows_then (goal.judged h m.rows u (goal.numbers cost) now).rows (tally_then h m u cost now)) m.hist now) (new_place m.rows u)

  abbrev pub judge_call : Shedder → Memory → unit.Unit → List ℕ → ℕ → C
  judge_call h m u cost t = judge_call_at h m u cost t (max t h.flow.at_ms) (goal.entry m.rows h.tracked h.unit_room u (max t h.flow.at_ms))

  module _ (h : Shedder) (m : Memory) (st : S) (b : Tied room rate ceiling h m.rows st h.flow.at_ms) (u : unit.Unit) (cost : List ℕ) (t : ℕ) where
    pub bounded_tied : Tied room rate ceiling (goal.bounded h m u cost t).head (goal.bounded h m u cost t).memory.rows (model.step Name same shares room st h.flow.at_ms (judge_call h m u cost t)) (max t h.flow.at_ms)
    unfolding goal.bounded
    bounded_tied =
        let now = max t h.flow.at_ms in
        let p = goal.judged h m.rows u (goal.numbers cost) now in
        tied.scanned_tied room rate ceiling (head_then h m u cost now) (rows_then p.rows (tally_then h m u cost now)) m.hist _ now
        (verdict_tied p.head m.counted (sender.name_of u) p.verdict cost p.rows _ now (judged_tied h m.rows st b u cost t))

    pub bounded_answer : (goal.bounded h m u cost t).answer
        ≡ goal.answer_of (verdict_here (seen (resolve st u) st) h.flow.at_ms (batch_at h u cost t (goal.entry m.rows h.tracked h.unit_room u (max t h.flow.at_ms))) (fills h))
    unfolding goal.bounded
    bounded_answer = ap goal.answer_of (judged_verdict h m.rows st b u cost t)

-- ---- a judgement that is not refused
pub bounded_rates : (rate : List ℕ) → goal.all_rates rate ≡ true → (d : ℕ) → d < dims → (1 ≤ get_or rate d 0) × (get_or rate d 0 ≤ 2 ^ 40)
unfolding goal.all_rates goal.is_rate
bounded_rates rate e d small =
    let r = get_or rate d 0 in
    let y = and_parts (leb 1 r) (leb r 1099511627776) (all-at (λ (d : ℕ). goal.is_rate (get_or rate d 0)) dims d small e) in
    (leb-true 1 r y.0, leb-true r 1099511627776 y.1)

pub not_unbounded : (rate : List ℕ) → goal.all_rates rate ≡ true → goal.is_unbounded rate ≡ false
unfolding goal.is_unbounded goal.is_max
not_unbounded rate e = go (goal.is_unbounded rate) refl
  where
    go : (c : Bool) → goal.is_unbounded rate ≡ c → goal.is_unbounded rate ≡ false
    go true f = absurd (omega (arith, (bounded_rates rate e 0 (omega arith)).1, eqb-true (get_or rate 0 0) 18446744073709551615 (all-at (λ (d : ℕ). goal.is_max (get_or rate d 0)) dims 0 (omega arith) f)))
    go false f = f

pub record Taken (h : Shedder) (m : Memory) (u : unit.Unit) (cost : List ℕ) (t : ℕ) : Type 0 where
  pub asked : goal.judge_asked h (sizes_of m.rows m.counted) m.rows.offsets cost t ≡ 0
  pub is : goal.judge h m u cost t ≡ goal.bounded h m u cost t

chosen : (h : Shedder) (m : Memory) (n : ℕ) (to : goal.Judged) (a b : Bool) → eqb n 0 ≡ a → b ≡ false
    → ltb 0 (goal.judge_number (cond a (cond b (goal.judge_ends (Ok verdict.Admitted) h m) to) (goal.judge_ends (refused n) h m)).answer) ≡ false
    → (a ≡ true) × (cond a (cond b (goal.judge_ends (Ok verdict.Admitted) h m) to) (goal.judge_ends (refused n) h m) ≡ to)
unfolding goal.answer_number
chosen h m n to true true q e f = absurd (true≢false e)
chosen h m n to true false q e f = (refl, refl)
chosen h m n to false b q e f = absurd (omega (arith, ltb-false 0 _ f, number_some (refusal_of n)))

pub taken : (h : Shedder) (m : Memory) (u : unit.Unit) (cost : List ℕ) (t : ℕ) → goal.is_unbounded h.flow.rate ≡ false → calls.refused (calls.state_of h m) (calls.Judge u cost t) ≡ false → Taken h m u cost t
unfolding goal.judge
taken h m u cost t unb f =
    let n = goal.judge_asked h (sizes_of m.rows m.counted) m.rows.offsets cost t in
    let r = chosen h m n (goal.bounded h m u cost t) (eqb n 0) (goal.is_unbounded h.flow.rate) refl unb f in
    record { asked = eqb-true n 0 r.0; is = r.1 }

-- question 5
pub small_costs : (cost : List ℕ) → goal.costs_held cost ≡ true → (d : ℕ) → d < dims → get_or cost d 0 ≤ 2 ^ 40
unfolding goal.costs_held
small_costs cost e d small = leb-true (get_or cost d 0) 1099511627776 (all-at (λ (d : ℕ). leb (get_or cost d 0) 1099511627776) dims d small e)

pub judge_costs : (h : Shedder) (s : Sizes) (os cost : List ℕ) (t : ℕ) → goal.judge_asked h s os cost t ≡ 0 → goal.costs_held cost ≡ true
unfolding goal.judge_asked
judge_costs h s os cost t e =
    let a = zero_yes (goal.whole_with h os) _ 2 e in
    let b = zero_yes (goal.memory_whole h s) _ 3 a.1 in
    (zero_yes (goal.costs_held cost) _ 4 b.1).0

-- THE JUDGEMENT
module _ (room : ℕ) (rate ceiling : List ℕ) (rates : goal.all_rates rate ≡ true) (h : Shedder) (m : Memory) (st : entry.S room) (b : Tied room rate ceiling h m.rows st h.flow.at_ms) (u : unit.Unit) (cost : List ℕ) (t : ℕ)
    (f : calls.refused (calls.state_of h m) (calls.Judge u cost t) ≡ false) where
  pub took : Taken h m u cost t
  took = taken h m u cost t (ap goal.is_unbounded b.rate_is ∙ not_unbounded rate rates) f

  pub judge_tied : Tied room rate ceiling (goal.judge h m u cost t).head (goal.judge h m u cost t).memory.rows (model.step Name same shares room st h.flow.at_ms (judge_call room rate ceiling h m u cost t)) (max t h.flow.at_ms)
  judge_tied =
      subst (λ (j : goal.Judged). Tied room rate ceiling j.head j.memory.rows (model.step Name same shares room st h.flow.at_ms (judge_call room rate ceiling h m u cost t)) (max t h.flow.at_ms)) (sym took.is)
      (bounded_tied room rate ceiling h m st b u cost t)

  pub judge_answer : (goal.judge h m u cost t).answer
      ≡ goal.answer_of (verdict_here (seen room rate ceiling (resolve room rate ceiling st u) st) h.flow.at_ms (batch_at h u cost t (goal.entry m.rows h.tracked h.unit_room u (max t h.flow.at_ms))) (fills h))
  judge_answer = ap (λ (j : goal.Judged). j.answer) took.is ∙ bounded_answer room rate ceiling h m st b u cost t

  pub judge_stamp : t < 2 ^ 53
  judge_stamp = (asked_ready h (sizes_of m.rows m.counted) m.rows.offsets cost t took.asked).stamp_held

  pub judge_small : (d : ℕ) → d < dims → get_or cost d 0 ≤ 2 ^ 40
  judge_small = small_costs cost (judge_costs h (sizes_of m.rows m.counted) m.rows.offsets cost t took.asked)

  -- the record that it uses is the model's
  pub judge_key : resolve room rate ceiling st u ≡ entry.lift room (calls.key (calls.state_of h m) u (max t h.flow.at_ms))
  judge_key =
      (placed room rate ceiling h m.rows st h.flow.at_ms b u (max t h.flow.at_ms)).key
      ∙ ap (λ (r : ℕ). entry.lift room (calls.key_at (ltb (goal.entry m.rows h.tracked h.unit_room u (max t h.flow.at_ms)).place.at r) u)) (sym b.room_is)
