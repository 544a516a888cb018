-- WHAT EACH CALL MEANS, on one page: a step on the state (specs/State), from the questions down to the answer. A heading names the section of document 01 where it has one.
-- What is cited from other pages: the hash, rank and name of a unit (sender), the fade (fade), finding and adding a record, dropping the stale (parts),
-- the wants of a table and the level of a histogram (scan_visit, wants), the counted sources (cut_sources), the report's text (report_lines). specs/Agrees: the contracts of the program say the same.
use Rattle.std.specs.Prelude.{ℕ, ◌+◌, ◌-◌, ◌/◌, ◌^◌, ◌%◌, min, max, unwrap_or, Bool, cond, not, ◌&&◌, ◌||◌, List, [], ◌∷◌, ◌++◌, length, take, drop, Float, Some, None, Ok}
use Rattle.std.specs.Float.{binary64}
use Rattle.std.specs.Float.Ieee.{of_bits}
use Rattle.ieee.specs.Doubles.{◌⊕◌, ◌⊖◌, ◌⊗◌, ◌⊘◌, ◌⊴◌, ◌⊲◌, whole, nothing, one, half, thousand}
use Rattle.ieee.specs.Extremes.{least, most, clamped}
use Rattle.fade.specs.Fade.{fade}
use Rattle.flow.specs.Flow.{dims, numbers, seconds, zeros, largest, all, dim_of, dim_at, bucket_at, is_fresh, added as new_use}
use Rattle.verdict.specs.Verdict.{is_admitted}
use Rattle.verdict.specs.declared.Verdict.TheVariants as verdict
use Rattle.verdict.specs.declared.Side.TheVariants as sides
use Rattle.verdict.specs.declared.Rule.TheVariants as rules
use Rattle.verdict.specs.Rules.{lacking}
use Rattle.sender.specs.declared.Unit.TheVariants as units
use Rattle.sender.specs.Sender.{name_of, is_overflow, rank, table_of_tag}
use Rattle.store.specs.Store.{with_tags}
use Rattle.parts.specs.Parts as records
use Rattle.wants.specs.Wants as wants
use Rattle.cut_sources.specs.Counted as counts
use Rattle.cut_sources.specs.Sorted.{sorted}
use Rattle.head.specs.Answers.{refused}
use Rattle.head.specs.Readings.{index_of}
use Rattle.cut_counts.specs.Counting.{added, cause_of}
use Rattle.scan_visit.specs.Walking.{walk_use}
use Rattle.scan_visit.specs.Visiting.{walk_part}
use Rattle.scan_trim.specs.Trimming.{is_finite}
use Rattle.judge.specs.Judging.{answer_of}
use Rattle.report_lines.specs.Lines.{text}
use Rattle.meaning.specs.State.{State, After, after, with_head, with_rows, with_hist, with_flow, with_overflow, with_tracked, with_visit, with_level, scan_at, scan_read, flow_at, with_tokens, new_head, no_buckets}
use Rattle.meaning.specs.State.{ask, ◌<=?◌, ◌<?◌, ◌=?◌, ◌!◌, ◌#◌, parts, each}
use Rattle.meaning.specs.State.{Unit, Name, Cause, Dim, Verdict, Outcome, Rule, Ruling, Bucket, Use, Flow, Shedder, Begin, Answer, Done, Written, Reading, LevelRead, RateRead, BoundedRead}

-- ==== The numbers, by the Rust's names where it has them; a double by its bits
-- a relay that is not bounded; the highest rate and cost, 2^40, which is also the most of a ceiling that a burst takes; stamps are below 2^53
abbrev pub «UNBOUNDED» : ℕ
«UNBOUNDED» = 18446744073709551615

abbrev pub RATE_MOST : ℕ
RATE_MOST = 2 ^ 40

abbrev pub COST_MOST : ℕ
COST_MOST = 2 ^ 40

abbrev pub STAMP_END : ℕ
STAMP_END = 2 ^ 53

-- the most unit records and counted sources that memory is lent for; one counted record more is spare
abbrev pub UNITS_TRACKED : ℕ
UNITS_TRACKED = 131072

abbrev pub SOURCES_COUNTED : ℕ
SOURCES_COUNTED = 4096

-- tables; a scan begins each quarter of ACTIVE_MS; the window of a want, in milliseconds and in seconds (2.0)
abbrev pub «TABLES» : ℕ
«TABLES» = 64

abbrev pub ACTIVE_MS : ℕ
ACTIVE_MS = 2000

abbrev pub WINDOW_MS : ℕ
WINDOW_MS = 2000

abbrev pub WINDOW_SECS : Float
WINDOW_SECS = of_bits binary64 0x4000_0000_0000_0000

-- a full credit is 4.0 seconds of the fill; the reserve 0.1 and the rank's weight in it 0.000001
abbrev pub CREDIT_SECS : Float
CREDIT_SECS = of_bits binary64 0x4010_0000_0000_0000

abbrev pub «RESERVE» : Float
«RESERVE» = of_bits binary64 0x3fb9_9999_9999_999a

abbrev pub RANK_WEIGHT : Float
RANK_WEIGHT = of_bits binary64 0x3eb0_c6f7_a0b5_ed8d

-- the trim's step 0.05, its time 1.0 s and its floor 0.5; the highest first level, 1e15
abbrev pub TRIM_STEP : Float
TRIM_STEP = of_bits binary64 0x3fa9_9999_9999_999a

abbrev pub TRIM_SECS : Float
TRIM_SECS = one

abbrev pub TRIM_FLOOR : Float
TRIM_FLOOR = half

abbrev pub LEVEL_MOST : Float
LEVEL_MOST = of_bits binary64 0x430c_6bf5_2634_0000

-- ==== Questions before any result (document 01, the same section)
-- A call asks its own of these, in the order of their numbers. The first answered no refuses the call by that number, and the state stays as it was.

-- 1: the rates. A relay is unbounded where every rate is 2^64 − 1; else each is 1 to 2^40
unfoldable pub is_unbounded : (rate : List ℕ) → Bool
is_unbounded rate = all (λ d. rate # d =? «UNBOUNDED») dims

unfoldable pub rates_whole : (rate : List ℕ) → Bool
rates_whole rate = is_unbounded rate || all (λ d. 1 <=? rate # d && rate # d <=? RATE_MOST) dims

-- 2: the rooms. A unit record is a place of five lists, a counted record of two, its tag standing behind those of the unit records; so the lists fit each other, and there is room for
-- 1 to 131,072 unit records and 2 to 4,097 counted ones, of which one is spare
unfoldable pub records_whole : State → Bool
records_whole s =
    let units = length s.rows.units in
    length s.rows.tags =? units + length s.counted && length s.rows.slots =? units && length s.rows.free =? units && length s.rows.uses =? units

unfoldable pub rooms_whole : (units counted : ℕ) → Bool
rooms_whole units counted = 1 <=? units && units <=? UNITS_TRACKED && 2 <=? counted && counted <=? SOURCES_COUNTED + 1

-- 6, and the stamps of 3: below 2^53
unfoldable pub is_stamp : ℕ → Bool
is_stamp t = t <? STAMP_END

-- the records lie table by table: a table's part begins at its offset and ends at the next. The offsets, lent beside the head, begin at 0, never fall and end at the number of records in use
unfoldable pub offsets_whole : (offsets : List ℕ) (tracked : ℕ) → Bool
offsets_whole offsets tracked = offsets # 0 =? 0 && offsets # «TABLES» =? tracked && all (λ t. offsets # t <=? offsets # (t + 1)) «TABLES»

-- 3: the head. Rates as in 1, four stamps as in 6, a scan with its next of 64 tables, or none, rooms as in 2, no more records in use than there is room for, and their offsets
unfoldable pub head_whole : Shedder → (offsets : List ℕ) → Bool
head_whole h offsets =
    let stamps = is_stamp h.flow.at_ms && is_stamp h.scan.at_ms && is_stamp h.scan.began_ms && is_stamp h.scan.read_ms in
    let sum = h.scan.remaining + h.scan.next in
    let tables = h.scan.remaining <=? «TABLES» && h.scan.next <=? «TABLES» && (sum =? «TABLES» || sum =? 0) in
    let used = h.tracked <=? h.unit_room && h.counted <? h.counted_room in
    rates_whole h.flow.rate && stamps && tables && rooms_whole h.unit_room h.counted_room && used && offsets_whole offsets h.tracked

-- 4: the memory lent has the rooms noted at the start
unfoldable pub memory_whole : State → Bool
memory_whole s = records_whole s && length s.rows.units =? s.head.unit_room && length s.counted =? s.head.counted_room

-- 5: the costs, each up to 2^40
unfoldable pub costs_held : (cost : List ℕ) → Bool
costs_held cost = all (λ d. cost # d <=? COST_MOST) dims

-- ==== Start: 1, 2
-- a full bucket: burst is the largest of the rate, the ceiling up to 2^40, and 1
unfoldable pub opened : (rate ceiling : ℕ) → Bucket
opened rate ceiling =
    let burst = most (most (whole rate) (whole (min ceiling RATE_MOST))) one in
    record { tokens = burst; burst = burst; rate_per_ms = whole rate ⊘ thousand }

-- the first level is the rate, at most 1e15; head and histogram are new, every part is empty and every slot free; no record is written
unfoldable pub start : State → (rate ceiling : List ℕ) → After Begin
start s rate ceiling =
    let units = length s.rows.units in
    let counted = length s.counted in
    let buckets = each no_buckets λ d. opened (rate # d) (ceiling # d) in
    let level = parts λ d. least (numbers rate ! d) LEVEL_MOST in
    let flow : Flow = record { rate = rate; ceiling = ceiling; buckets = buckets; at_ms = 0; admitted = zeros } in
    ask ((1, rates_whole rate) ∷ (2, records_whole s && rooms_whole units counted) ∷ [])
    (λ n. after (refused n) s)
    (after (Ok tt) (with_hist (with_rows (with_head s (new_head flow level units counted)) (records.started s.rows)) wants.cleared))

-- ==== The sender and its record (document 01: the verdict, `Use`)
-- the place of the record that a call uses: the unit's own, sought in the part of its table; a new one at the end of that part where there is room, the records behind it going up a place; else
-- overflow's, whose place is the room
unfoldable pub entry : State → Unit → (clock : ℕ) → After ℕ
entry s u clock =
    let room = s.head.unit_room in
    let tracked = s.head.tracked in
    let name = name_of u in
    let found = unwrap_or (records.find s.rows name) room in
    let end = records.end s.rows (table_of_tag name.tag) in
    cond (is_overflow u) (after room s)
    (cond (found <? room) (after found s)
    (cond (tracked <? room) (after end (with_rows (with_tracked s (tracked + 1)) (records.added s.rows tracked name (new_use clock))))
    (after room s)))

unfoldable pub used_at : State → (place : ℕ) → Use
used_at s i = cond (i <? length s.rows.units) (records.use_of s.rows i) s.head.overflow

unfoldable pub put_back : State → (place : ℕ) → Use → State
put_back s i u =
    cond (i <? length s.rows.units) (with_rows s (records.put s.rows i u)) (with_overflow s u)

-- ==== The verdict (document 01: the verdict, `Bucket`, `judged`)
-- a want up to 1 is asked for credit, then for tokens; a larger one for both and for the reserve, and is over share where one lacks
unfoldable pub decided : (want : Float) (credit tokens reserve : Bool) → Verdict
decided want credit tokens reserve =
    cond (want ⊴ one)
    (cond (not credit) verdict.OverShare (cond (not tokens) verdict.RelayRate verdict.Admitted))
    (cond (credit && tokens && reserve) verdict.Admitted verdict.OverShare)

-- the buckets after so many milliseconds
abbrev pub refilled_for : List Bucket → (elapsed : ℕ) → List Bucket
refilled_for buckets elapsed = each buckets λ d. let b = bucket_at buckets d in with_tokens b (least (b.tokens ⊕ whole elapsed ⊗ b.rate_per_ms) b.burst)

-- what a batch meets on a record: the buckets refilled, the credit, what was tried with this batch, the want, and the mark that a want over the level must leave
pub record Met : Type 0 where
  pub buckets : List Bucket
  pub credit : List Float
  pub attempted : List Float
  pub want : Float
  pub mark : Float

-- refill, credit, weigh, fade, add
unfoldable pub met : Flow → (level : List Float) → Use → (rank : Float) (cost : List Float) (clock : ℕ) → Met
met f level u rank cost clock =
    let refilled = refilled_for f.buckets (clock - f.at_ms) in
    let fresh = is_fresh u.fresh in
    let idle = clock - u.at_ms in
    let fill = parts λ d. least (level ! d) (numbers f.rate ! d) in
    let credit = each u.credit λ d. cond fresh (fill ! d ⊗ CREDIT_SECS) (least (u.credit ! d ⊕ fill ! d ⊗ seconds idle) (fill ! d ⊗ CREDIT_SECS)) in
    let weight = cond (fresh || WINDOW_MS <=? idle) one half in
    let faded = each u.attempted λ d. u.attempted ! d ⊗ fade idle in
    let attempted = each faded λ d. faded ! d ⊕ cost ! d in
    let want = largest (λ d. (attempted ! d ⊕ (weight ⊖ one) ⊗ cost ! d) ⊘ WINDOW_SECS ⊘ level ! d) dims in
    let mark = «RESERVE» ⊗ (one ⊖ one ⊘ (want ⊗ (one ⊕ rank ⊗ RANK_WEIGHT))) in
    record { buckets = refilled; credit = credit; attempted = attempted; want = want; mark = mark }

-- the part of a dimension's burst that the batch would leave
unfoldable pub part_left : Met → (cost : List Float) (d : ℕ) → Float
part_left m cost d = ((bucket_at m.buckets d).tokens ⊖ cost ! d) ⊘ (bucket_at m.buckets d).burst

-- decide. An admission alone spends tokens and credit; what was tried stays in any case
unfoldable pub outcome : Flow → (level : List Float) → Use → (rank : Float) (cost : List Float) (clock : ℕ) → Outcome
outcome f level u rank cost clock =
    let m = met f level u rank cost clock in
    let credit_holds = all (λ d. cost ! d ⊴ m.credit ! d) dims in
    let tokens_hold = all (λ d. cost ! d ⊴ (bucket_at m.buckets d).tokens) dims in
    let reserve_holds = all (λ d. m.mark ⊴ part_left m cost d) dims in
    let verdict = decided m.want credit_holds tokens_hold reserve_holds in
    let spent = each m.buckets λ d. with_tokens (bucket_at m.buckets d) ((bucket_at m.buckets d).tokens ⊖ cost ! d) in
    let charged = each m.credit λ d. m.credit ! d ⊖ cost ! d in
    record {
      verdict = verdict;
      buckets = cond (is_admitted verdict) spent m.buckets;
      used = record { attempted = m.attempted; credit = cond (is_admitted verdict) charged m.credit; at_ms = max u.at_ms clock; fresh = 0 };
    }

-- the rank that a judgement goes by: that of the unit, or overflow's where its record is used
unfoldable pub ranked : State → Unit → (place : ℕ) → Float
ranked s u i = cond (i <? s.head.unit_room) (rank u) (rank units.Overflow)

-- on the state: the outcome on the record used, ranked by its unit, and put back there
unfoldable pub judged : State → Unit → (cost : List Float) (clock : ℕ) → After Verdict
judged s u cost clock =
    let f = s.head.flow in
    let e = entry s u clock in
    let o = outcome f s.head.level (used_at e.state e.answer) (ranked s u e.answer) cost clock in
    let admitted = cond (is_admitted o.verdict) (parts λ d. f.admitted ! d ⊕ cost ! d) f.admitted in
    after o.verdict (put_back (with_flow e.state (flow_at f o.buckets clock admitted)) e.answer o.used)

-- ==== The rule that decides (document 02, K1)
-- credit, then tokens, then, over the level, the reserve; each is asked of receptions, then of bytes, and the first dimension that lacks is named. specs/Told: the verdict is that of the rule
unfoldable pub rule : Flow → (level : List Float) → Use → (rank : Float) (cost : List Float) (clock : ℕ) → Rule
rule f level u rank cost clock =
    let m = met f level u rank cost clock in
    let side = cond (m.want ⊴ one) sides.Within sides.Over in
    let no_credit = lacking (λ d. cost ! d ⊴ m.credit ! d) dims in
    let no_tokens = lacking (λ d. cost ! d ⊴ (bucket_at m.buckets d).tokens) dims in
    let no_reserve = lacking (λ d. m.mark ⊴ part_left m cost d) dims in
    cond (no_credit <? dims) (rules.Credit side (dim_at no_credit))
    (cond (no_tokens <? dims) (rules.Tokens side (dim_at no_tokens))
    (cond (m.want ⊴ one || dims <=? no_reserve) (rules.Admitted m.want)
    (rules.Reserve (dim_at no_reserve) m.mark (part_left m cost no_reserve))))

-- on the state: the rule on the record used
unfoldable pub ruled : State → Unit → (cost : List Float) (clock : ℕ) → Rule
ruled s u cost clock =
    let e = entry s u clock in
    rule s.head.flow s.head.level (used_at e.state e.answer) (ranked s u e.answer) cost clock

-- ==== The counts of a cut (document 01: cuts and report, `count`, `add`)
-- a batch and its receptions more for the cause, and one cut more of the unit named, whichever record was used. Where that takes the spare row, only the sources stay whose total is above the one at a quarter of the ascending totals
unfoldable pub counted : State → Name → (cause receptions : ℕ) → State
counted s name cause receptions =
    let room = s.head.unit_room in
    let own = drop room s.rows.tags in
    let more = counts.count own s.counted s.head.counted name cause in
    let tags = counts.count_tags own s.counted s.head.counted name in
    let fits = more.count <? length more.rows in
    let totals = counts.totals more.rows more.count in
    let k = sorted totals # (length totals / 4) in
    let kept = cond fits more (counts.prune more.rows k more.count) in
    let kept_tags = cond fits tags (counts.prune_tags tags more.rows k more.count) in
    let head = added s.head kept.count cause receptions in
    record { head = head; rows = with_tags s.rows (take room s.rows.tags ++ kept_tags); hist = s.hist; counted = kept.rows }

-- ==== The scan and the level (document 01: the level, `scanned`, `trimmed`)
-- where no scan runs and the last one began 500 ms ago or earlier, one begins at the clock, over 64 tables and an empty histogram
unfoldable pub begun : State → (clock : ℕ) → State
begun s clock =
    let scan = s.head.scan in
    let due = scan.remaining =? 0 && scan.began_ms + ACTIVE_MS / 4 <=? clock in
    cond due (with_hist (with_visit s (scan_at scan «TABLES» 0 clock clock) s.head.tracked s.head.visits) wants.cleared) s

-- one table at the scan's stamp: overflow's wants first at table 0, if it was judged; of the records in the table's part those older than 8,000 ms are dropped; the wants of the others are added in order of arrival
unfoldable pub visit : State → State
visit s =
    let scan = s.head.scan in
    let overflow = s.head.overflow in
    let table = scan.next in
    let t = scan.at_ms in
    let first = cond (table =? 0 && not (is_fresh overflow.fresh)) (walk_use overflow t s.hist) s.hist in
    let rows = records.dropped s.rows s.head.tracked table t in
    let left = records.left s.rows s.head.tracked table t in
    let hist = walk_part rows table t first in
    let next = scan_at scan (scan.remaining - 1) (table + 1) t scan.began_ms in
    with_hist (with_rows (with_visit s next left ((s.head.visits + 1) % 2 ^ 64)) rows) hist

-- 1 where the level found is not finite; else the trim before times a step, 0.5 to 1; as before where no time passed or the gain is not above 0. A step would bring the rate admitted to the rate in 1 s, and is held to 0.95 to 1.05
unfoldable pub trim_of : («open» trim rate gain span : Float) → Float
trim_of «open» trim rate gain span =
    let gained = gain ⊘ span in
    let step = clamped (one ⊕ span ⊘ TRIM_SECS ⊗ (rate ⊘ gained ⊖ one)) (one ⊖ TRIM_STEP) (one ⊕ TRIM_STEP) in
    cond (not (is_finite «open»)) one
    (cond (nothing ⊲ span && nothing ⊲ gained) (clamped (trim ⊗ step) TRIM_FLOOR one)
    trim)

-- the level found, trimmed, is stored, at least 1; clock and amount admitted are noted as read
unfoldable pub trimmed : State → State
trimmed s =
    let f = s.head.flow in
    let scan = s.head.scan in
    let rate = numbers f.rate in
    let span = seconds (f.at_ms - scan.read_ms) in
    let «open» = parts λ d. wants.level s.hist d (rate ! d) in
    let trim = parts λ d. trim_of («open» ! d) (scan.trim ! d) (rate ! d) (f.admitted ! d ⊖ scan.read_admitted ! d) span in
    let level = parts λ d. most («open» ! d ⊗ trim ! d) one in
    with_level s (scan_read scan «open» trim f.at_ms f.admitted) level

-- a judgement's part of a scan: two tables, so that the 32nd judgement visits the last and stores the level
unfoldable pub runs : State → Bool
runs s = 1 <=? s.head.scan.remaining

unfoldable pub scanned : State → (clock : ℕ) → State
scanned s clock =
    let begun = begun s clock in
    let once = visit begun in
    let twice = cond (runs once) (visit once) once in
    cond (runs begun) (cond (runs twice) twice (trimmed twice)) begun

-- ==== Judge: 3, 4, 5, 6
-- the clock never goes back
unfoldable pub clock_by : State → (stamp : ℕ) → ℕ
clock_by s stamp = max stamp s.head.flow.at_ms

-- the verdict, the count of a cut, the scan
unfoldable pub bounded : State → Unit → (cost : List ℕ) (stamp : ℕ) → After Answer
bounded s u cost stamp =
    let clock = clock_by s stamp in
    let j = judged s u (numbers cost) clock in
    let noted = cond (is_admitted j.answer) j.state (counted j.state (name_of u) (cause_of j.answer) (cost # 0)) in
    after (answer_of j.answer) (scanned noted clock)

unfoldable pub judge_asks : State → (cost : List ℕ) (stamp : ℕ) → List (ℕ × Bool)
judge_asks s cost stamp = (3, head_whole s.head s.rows.offsets) ∷ (4, memory_whole s) ∷ (5, costs_held cost) ∷ (6, is_stamp stamp) ∷ []

-- an unbounded relay admits, seeks no record and changes nothing
unfoldable pub judge : State → Unit → (cost : List ℕ) (stamp : ℕ) → After Answer
judge s u cost stamp =
    let free = is_unbounded s.head.flow.rate in
    ask (judge_asks s cost stamp)
    (λ n. after (refused n) s)
    (cond free (after (Ok verdict.Admitted) s) (bounded s u cost stamp))

-- the rule that it answers beside the verdict: none where it is refused, a want of 0 on an unbounded relay
unfoldable pub judge_rule : State → Unit → (cost : List ℕ) (stamp : ℕ) → Ruling
judge_rule s u cost stamp =
    let free = is_unbounded s.head.flow.rate in
    let clock = clock_by s stamp in
    ask (judge_asks s cost stamp)
    (λ n. None)
    (cond free (Some (rules.Admitted nothing)) (Some (ruled s u (numbers cost) clock)))

-- ==== Cut: 3, 4, 5 (document 01: cuts and report, `cut`)
-- the whole cost back: tokens up to the burst, admitted and attempted down to 0, credit without a cap; a record added for it is fresh, stamped with the clock
unfoldable pub handed_back : State → Unit → (cost : List Float) → State
handed_back s u cost =
    let f = s.head.flow in
    let buckets = each f.buckets λ d. let b = bucket_at f.buckets d in with_tokens b (least (b.tokens ⊕ cost ! d) b.burst) in
    let admitted = parts λ d. most (f.admitted ! d ⊖ cost ! d) nothing in
    let flow = flow_at f buckets f.at_ms admitted in
    let e = entry s u f.at_ms in
    let u = used_at e.state e.answer in
    let attempted = each u.attempted λ d. most (u.attempted ! d ⊖ cost ! d) nothing in
    let credit = each u.credit λ d. u.credit ! d ⊕ cost ! d in
    put_back (with_flow e.state flow) e.answer (record { attempted = attempted; credit = credit; at_ms = u.at_ms; fresh = u.fresh })

-- a bounded relay hands back what was cut for the receiver's ceiling; every cut is counted
unfoldable pub cut : State → Unit → Cause → (cost : List ℕ) → After Done
cut s u c cost =
    let hands = not (is_unbounded s.head.flow.rate) && index_of c =? 0 in
    let back = cond hands (handed_back s u (numbers cost)) s in
    ask ((3, head_whole s.head s.rows.offsets) ∷ (4, memory_whole s) ∷ (5, costs_held cost) ∷ [])
    (λ n. after (refused n) s)
    (after (Ok tt) (counted back (name_of u) (index_of c) (cost # 0)))

-- ==== New rates: 3, 4, 1, 6, 10, the last of which is that the running rates and the new ones are bounded (document 02, K3)
-- burst and rate per millisecond as at a start; of the tokens no more than the burst
unfoldable pub turned : Bucket → (rate ceiling : ℕ) → Bucket
turned b rate ceiling =
    let full = opened rate ceiling in
    record { tokens = least b.tokens full.burst; burst = full.burst; rate_per_ms = full.rate_per_ms }

unfoldable pub rates_asks : State → (rate : List ℕ) (stamp : ℕ) → List (ℕ × Bool)
rates_asks s rate stamp =
    (3, head_whole s.head s.rows.offsets) ∷ (4, memory_whole s) ∷ (1, rates_whole rate) ∷ (6, is_stamp stamp) ∷ (10, not (is_unbounded s.head.flow.rate) && not (is_unbounded rate)) ∷ []

-- the clock as at a judgement, the refill up to it at the rates before, then the new ones. Level, records, counts and a scan under way stay
unfoldable pub set_rates : State → (rate ceiling : List ℕ) (stamp : ℕ) → After Done
set_rates s rate ceiling stamp =
    let f = s.head.flow in
    let clock = clock_by s stamp in
    let refilled = refilled_for f.buckets (clock - f.at_ms) in
    let buckets = each refilled λ d. turned (bucket_at refilled d) (rate # d) (ceiling # d) in
    let flow : Flow = record { rate = rate; ceiling = ceiling; buckets = buckets; at_ms = clock; admitted = f.admitted } in
    ask (rates_asks s rate stamp)
    (λ n. after (refused n) s)
    (after (Ok tt) (with_flow s flow))

-- ==== Report: 3, 4, 7, the last of which is that the whole text fits (document 01: cuts and report)
-- the state stays; the text goes to the front of the buffer, the bytes behind it stay
pub record Reported : Type 0 where
  pub answer : Written
  pub front : List ℕ
  pub out : List ℕ

-- the whole text. The tags of the counted sources stand behind those of the unit records
abbrev pub lines : State → List ℕ
lines s = text s.head (drop s.head.unit_room s.rows.tags) s.counted

unfoldable pub report_asks : State → (out : List ℕ) → List (ℕ × Bool)
report_asks s out = (3, head_whole s.head s.rows.offsets) ∷ (4, memory_whole s) ∷ (7, length (lines s) <=? length out) ∷ []

unfoldable pub report : State → (out : List ℕ) → Reported
report s out =
    let page = lines s in
    ask (report_asks s out)
    (λ n. record { answer = refused n; front = []; out = out })
    (record { answer = Ok (length page); front = page; out = page ++ drop (length page) out })

-- the call beside it: the number, 0 where the report would be written
unfoldable pub report_refusal : State → (out : List ℕ) → ℕ
report_refusal s out = ask (report_asks s out) (λ n. n) 0

-- ==== Readings: 3, of the head and the offsets lent beside it
abbrev pub read : {A : Type 0} → Shedder → (offsets : List ℕ) → (ℕ → A) → A → A
read h offsets refused result = ask ((3, head_whole h offsets) ∷ []) refused result

unfoldable pub visited : Shedder → (offsets : List ℕ) → Reading
visited h offsets = read h offsets refused (Ok h.visits)

unfoldable pub cut_batches : Shedder → (offsets : List ℕ) → Cause → Reading
cut_batches h offsets c = read h offsets refused (Ok (h.batches # index_of c))

unfoldable pub level : Shedder → (offsets : List ℕ) → Dim → LevelRead
level h offsets d = read h offsets refused (Ok (h.level ! dim_of d))

unfoldable pub rate : Shedder → (offsets : List ℕ) → Dim → RateRead
rate h offsets d = read h offsets refused (Ok (cond (is_unbounded h.flow.rate) None (Some (h.flow.rate # dim_of d))))

unfoldable pub is_bounded : Shedder → (offsets : List ℕ) → BoundedRead
is_bounded h offsets = read h offsets refused (Ok (not (is_unbounded h.flow.rate)))
