-- The rule that a judgement answers, and its verdict: the verdict is that of the rule, for every input, and the rule says which bound failed (verdict/specs/Says). Statements only;
-- proofs/Told proves them.
use Rattle.std.specs.Prelude.{ℕ, max, ◌≡◌, true, false, List, Float, Some, None}
use Rattle.ieee.specs.Doubles.{nothing}
use Rattle.flow.specs.Flow.{numbers}
use Rattle.sender.specs.declared.Unit.TheVariants as units
use Rattle.sender.specs.Sender.{rank}
use Rattle.verdict.specs.declared.Rule.TheVariants as rules
use Rattle.verdict.specs.Rules.{verdict_of}
use Rattle.verdict.specs.Says as verdicts
use Rattle.head.specs.Answers.{judge_number, refused}
use Rattle.judge.specs.Judging.{answer_of}
use Rattle.meaning.specs.State.{State, after, Unit, Use, Flow, Answer, Ruling, Rule}
use Rattle.meaning.specs.Page as page
use Rattle.meaning.specs.Named.{Tracked, entered, place, use_in}

-- the answer of a rule; where there is none, the refusal by the number n
unfoldable pub answer_by : (n : ℕ) → Ruling → Answer
answer_by n None = refused n
answer_by n (Some r) = answer_of (verdict_of r)

-- what the rule says of what the batch meets on a record; the credit, the buckets and the cost are those of `page.met`
abbrev pub Says : Flow → (level : List Float) → Use → (rank : Float) (cost : List Float) (clock : ℕ) → Rule → Type 0
Says f level x rank cost clock =
    verdicts.Says (page.met f level x rank cost clock).want rank (page.met f level x rank cost clock).credit (page.met f level x rank cost clock).buckets cost

pub record Told : Type 0 where
  -- of a call: its answer is its rule's, or its refusal's number and no rule
  pub answer : (s : State) (u : Unit) (cost : List ℕ) (stamp : ℕ) → (page.judge s u cost stamp).answer ≡ answer_by (judge_number (page.judge s u cost stamp).answer) (page.judge_rule s u cost stamp)
  pub unbounded : (s : State) (u : Unit) (cost : List ℕ) (stamp : ℕ) → page.is_unbounded s.head.flow.rate ≡ true → judge_number (page.judge s u cost stamp).answer ≡ 0
      → page.judge_rule s u cost stamp ≡ Some (rules.Admitted nothing)
  pub bounded : (s : State) (u : Unit) (cost : List ℕ) (stamp : ℕ) → page.is_unbounded s.head.flow.rate ≡ false → judge_number (page.judge s u cost stamp).answer ≡ 0
      → page.judge_rule s u cost stamp ≡ Some (page.ruled s u (numbers cost) (max stamp s.head.flow.at_ms))
  -- of a record: the verdict without the rule is the rule's; the rule says what was met, and no other rule says it
  pub verdict : (f : Flow) (level : List Float) (x : Use) (rank : Float) (cost : List Float) (clock : ℕ) → verdict_of (page.rule f level x rank cost clock) ≡ (page.outcome f level x rank cost clock).verdict
  pub says : (f : Flow) (level : List Float) (x : Use) (rank : Float) (cost : List Float) (clock : ℕ) → Says f level x rank cost clock (page.rule f level x rank cost clock)
  pub only : (f : Flow) (level : List Float) (x : Use) (rank : Float) (cost : List Float) (clock : ℕ) (r : Rule) → Says f level x rank cost clock r → r ≡ page.rule f level x rank cost clock
  -- of a unit just found or just added: the rule is that on its own record, ranked by the unit
  pub own : (s : State) (u : Unit) (cost : List Float) (clock : ℕ) → Tracked s u
      → page.ruled s u cost clock ≡ page.rule s.head.flow s.head.level (use_in (entered s u clock) (place s u clock)) (rank u) cost clock
  -- where overflow's record is used (store_entry/specs/Own says when): the rule is that on it, with overflow's rank
  pub shared : (s : State) (u : Unit) (cost : List Float) (clock : ℕ) → page.memory_whole s ≡ true → page.entry s u clock ≡ after s.head.unit_room s
      → page.ruled s u cost clock ≡ page.rule s.head.flow s.head.level s.head.overflow (rank units.Overflow) cost clock
