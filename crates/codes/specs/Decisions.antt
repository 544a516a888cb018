-- A judgement's answer as numbers: the refusal, the verdict, the rule, its dimension and its two doubles, each in a field of its own. Definitions only.
use Rattle.std.specs.Prelude.{ℕ, Float, Option, Some, None, Result, Ok, Err}
use Rattle.ieee.specs.Doubles.{nothing}
use Rattle.flow.specs.declared.Dim.{Dim}
use Rattle.flow.specs.Flow.{dim_of}
use Rattle.verdict.specs.declared.Side.{Side}
use Rattle.verdict.specs.declared.Side.TheVariants as side
use Rattle.verdict.specs.declared.Rule.{Rule}
use Rattle.verdict.specs.declared.Rule.TheVariants as rule
use Rattle.verdict.specs.declared.Verdict.{Verdict}
use Rattle.verdict.specs.declared.Verdict.TheVariants as verdict
use Rattle.head.specs.declared.Refusal.{Refusal}
use Rattle.head.specs.Answers.{judge_number}
use Rattle.codes.specs.declared.Decision.{Decision}

-- 0: the call was refused and gave no verdict
abbrev pub verdict_code : Result Verdict Refusal → ℕ
verdict_code (Ok verdict.Admitted) = 1
verdict_code (Ok verdict.OverShare) = 2
verdict_code (Ok verdict.RelayRate) = 3
verdict_code (Err r) = 0

-- a dimension's place, by which a level or a rate is read; 2^64 − 1 where the rule names none
abbrev pub DIM_NONE : ℕ
DIM_NONE = 18446744073709551615

abbrev pub dim_code : Dim → ℕ
dim_code d = dim_of d

abbrev pub by_side : Side → (within over : ℕ) → ℕ
by_side side.Within within over = within
by_side side.Over within over = over

abbrev pub coded : Result Verdict Refusal → (rule dim : ℕ) (want_or_mark part : Float) → Decision
coded a rule dim want_or_mark part = record { refusal = judge_number a; verdict = verdict_code a; rule = rule; dim = dim; want_or_mark = want_or_mark; part = part }

-- 1 admitted, with the want; credit 2 within the level, 3 over it; tokens 4 and 5; 6 the reserve, with the mark and the part of the burst. A double that the rule does not have is 0
unfoldable pub ruled : Result Verdict Refusal → Rule → Decision
ruled a (rule.Admitted want) = coded a 1 DIM_NONE want nothing
ruled a (rule.Credit side dim) = coded a (by_side side 2 3) (dim_code dim) nothing nothing
ruled a (rule.Tokens side dim) = coded a (by_side side 4 5) (dim_code dim) nothing nothing
ruled a (rule.Reserve dim mark part) = coded a 6 (dim_code dim) mark part

-- 0: the call was refused and had no rule
unfoldable pub decision_of : Result Verdict Refusal → Option Rule → Decision
decision_of a None = coded a 0 DIM_NONE nothing nothing
decision_of a (Some rule) = ruled a rule
