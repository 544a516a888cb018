-- A judgement: the questions, the record, the verdict, the counts, the scan. Definitions only.
use Rattle.std.specs.Prelude.{ℕ, ◌-◌, max, cond, List, eqb, ltb, Float, Option, Some, None, Result, Ok}
use Rattle.ieee.specs.Doubles.{◌⊕◌, nothing}
use Rattle.flow.specs.Flow as flow
use Rattle.verdict.specs.Verdict as verdicts
use Rattle.verdict.specs.Rules as rules
use Rattle.flow.specs.Flow.{at, upto, zeros, dims}
use Rattle.verdict.specs.Verdict.{is_admitted}
use Rattle.flow.specs.declared.Use.{Use}
use Rattle.verdict.specs.declared.Outcome.{Outcome}
use Rattle.verdict.specs.declared.Verdict.{Verdict}
use Rattle.verdict.specs.declared.Verdict.TheVariants as verdict
use Rattle.verdict.specs.declared.Rule.{Rule}
use Rattle.verdict.specs.declared.Rule.TheVariants as rule_kind
use Rattle.sender.specs.declared.Unit as unit
use Rattle.sender.specs.declared.Unit.TheVariants as units
use Rattle.sender.specs.Sender as sender
use Rattle.store.specs.Store.{Rows, with_tags}
use Rattle.store.specs.Held.{sizes_of}
use Rattle.wants.specs.Wants.{Hist}
use Rattle.head.specs.declared.Flow.{Flow}
use Rattle.head.specs.declared.Shedder.{Shedder}
use Rattle.head.specs.declared.Refusal.{Refusal}
use Rattle.head.specs.Answers.{refused}
use Rattle.judge.specs.declared.Passed.{Passed}
use Rattle.judge.specs.declared.Judgement.{Judgement}
use Rattle.head.specs.Questions.{is_unbounded, judge_asked}
use Rattle.scan.specs.Scanning.{Scanning, scanning, scanned}
use Rattle.store_entry.specs.Entering.{Entered, entry, used_at, Back, put_back}
use Rattle.head.specs.Headed.{headed}
use Rattle.cut_counts.specs.Counting.{Tally, tally, count_verdict}

-- what was admitted so far, and this cost
unfoldable pub raised : List Float → List Float → List Float
raised xs cost = upto (λ (d : ℕ). at xs d ⊕ at cost d) dims zeros

-- the rank of the record used: by the unit's hash, or overflow's
unfoldable pub rank_at : ℕ → ℕ → ℕ → Float
rank_at hash i room = cond (ltb i room) (sender.rank_of_hash hash) (sender.rank units.Overflow)

-- the verdict on a use, the buckets refilled since the clock before, with the level as it stands before this call's scan
unfoldable pub outcome : Flow → List Float → Use → Float → List Float → ℕ → Outcome
outcome f level u rank cost clock = verdicts.judged f.buckets u clock (clock - f.at_ms) cost (flow.fills level (flow.numbers f.rate)) level rank

-- the rule that decides it
unfoldable pub rule : Flow → List Float → Use → Float → List Float → ℕ → Rule
rule f level u rank cost clock = rules.ruled f.buckets u clock (clock - f.at_ms) cost (flow.fills level (flow.numbers f.rate)) level rank

-- only an admission adds to it
unfoldable pub admitted_then : Verdict → List Float → List Float → List Float
admitted_then v admitted cost = cond (is_admitted v) (raised admitted cost) admitted

-- the flow after a judgement: clock and buckets have moved, also where the batch is cut
unfoldable pub flowed : Flow → Outcome → List Float → ℕ → Flow
flowed f o cost clock = record { rate = f.rate; ceiling = f.ceiling; buckets = o.buckets; at_ms = clock; admitted = admitted_then o.verdict f.admitted cost }

-- a verdict, the head and the rows
pub record Through : Type 0 where
  pub verdict : Verdict
  pub head : Shedder
  pub rows : Rows

abbrev pub passed : Passed → Rows → Through
passed p m = record { verdict = p.verdict; head = p.head; rows = m }

-- with the record's place e, the use u found there, the outcome o, and what putting it back leaves
abbrev pub passing : Shedder → ℕ → List Float → Entered → Outcome → Back → Through
passing h clock cost e o b = record {
  verdict = o.verdict;
  head = headed h (flowed h.flow o cost clock) b.overflow e.place.tracked;
  rows = b.rows;
}

-- the outcome at an entered place
abbrev pub outcome_at : Shedder → unit.Unit → List Float → ℕ → Entered → Outcome
outcome_at h u cost clock e =
    outcome h.flow h.level (used_at e.rows h.overflow e.place.at) (rank_at (sender.hash_of u) e.place.at h.unit_room) cost clock

-- and the rule there
abbrev pub rule_at : Shedder → unit.Unit → List Float → ℕ → Entered → Rule
rule_at h u cost clock e =
    rule h.flow h.level (used_at e.rows h.overflow e.place.at) (rank_at (sender.hash_of u) e.place.at h.unit_room) cost clock

abbrev pub judged_at : Shedder → unit.Unit → List Float → ℕ → Entered → Through
judged_at h u cost clock e =
    passing h clock cost e (outcome_at h u cost clock e) (put_back e.rows h.overflow e.place.at (outcome_at h u cost clock e).used)

-- a judgement on the record that is found, added or overflow's
unfoldable pub judged : Shedder → Rows → unit.Unit → List Float → ℕ → Through
judged h m u cost clock = judged_at h u cost clock (entry m h.tracked h.unit_room u clock)

unfoldable pub ruled : Shedder → Rows → unit.Unit → List Float → ℕ → Rule
ruled h m u cost clock = rule_at h u cost clock (entry m h.tracked h.unit_room u clock)

-- the lent memory: the unit records, the histogram, the counted records
pub record Memory : Type 0 where
  pub rows : Rows
  pub hist : Hist
  pub counted : List (List ℕ)

abbrev pub memory : Rows → Hist → List (List ℕ) → Memory
memory m g rows = record { rows = m; hist = g; counted = rows }

-- an answer, the head and the memory
pub record Judged : Type 0 where
  pub answer : Result Verdict Refusal
  pub head : Shedder
  pub memory : Memory

abbrev pub judgement : Judgement → Memory → Judged
judgement j m = record { answer = j.answer; head = j.head; memory = m }

abbrev pub judge_ends : Result Verdict Refusal → Shedder → Memory → Judged
judge_ends a h m = record { answer = a; head = h; memory = m }

-- a verdict as an answer
unfoldable pub answer_of : Verdict → Result Verdict Refusal
answer_of v = Ok v

-- the answer, once the scan was made
abbrev pub bounded_scanned : Result Verdict Refusal → List (List ℕ) → Scanning → Judged
bounded_scanned a counted s = judge_ends a s.head (memory s.rows s.hist counted)

-- the scan, once the cut was counted
abbrev pub bounded_counted : Hist → ℕ → Through → Tally → Judged
bounded_counted g clock p t = bounded_scanned (answer_of p.verdict) t.counted (scanned (scanning t.head (with_tags p.rows t.tags) g) clock)

-- the count, under the unit named, once the verdict is there
abbrev pub bounded_passed : Memory → unit.Unit → List ℕ → ℕ → Through → Judged
bounded_passed m u cost clock p = bounded_counted m.hist clock p (count_verdict (tally p.head p.rows.tags m.counted) (sender.name_of u) p.verdict cost)

-- a judgement of a bounded relay: the clock is the later of stamp and clock; verdict, count and scan follow
unfoldable pub bounded : Shedder → Memory → unit.Unit → List ℕ → ℕ → Judged
bounded h m u cost stamp = bounded_passed m u cost (max stamp h.flow.at_ms) (judged h m.rows u (flow.numbers cost) (max stamp h.flow.at_ms))

-- THE JUDGEMENT: the first question answered no gives its number and nothing changes; an unbounded relay admits, and nothing changes
unfoldable pub judge : Shedder → Memory → unit.Unit → List ℕ → ℕ → Judged
judge h m u cost stamp =
    cond (eqb (judge_asked h (sizes_of m.rows m.counted) m.rows.offsets cost stamp) 0)
    (cond (is_unbounded h.flow.rate) (judge_ends (Ok verdict.Admitted) h m) (bounded h m u cost stamp))
    (judge_ends (refused (judge_asked h (sizes_of m.rows m.counted) m.rows.offsets cost stamp)) h m)

-- ---- THE RULE that decides it (document 02, K1): a refused judgement has none; an unbounded relay admits with a want of 0
unfoldable pub bounded_ruling : Shedder → Rows → unit.Unit → List ℕ → ℕ → Option Rule
bounded_ruling h m u cost stamp = Some (ruled h m u (flow.numbers cost) (max stamp h.flow.at_ms))

unfoldable pub ruling : Shedder → Memory → unit.Unit → List ℕ → ℕ → Option Rule
ruling h m u cost stamp =
    cond (eqb (judge_asked h (sizes_of m.rows m.counted) m.rows.offsets cost stamp) 0)
    (cond (is_unbounded h.flow.rate) (Some (rule_kind.Admitted nothing)) (bounded_ruling h m.rows u cost stamp)) None
