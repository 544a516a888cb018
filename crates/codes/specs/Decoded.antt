-- What is read from the numbers of a decision, as a relay in C reads them by the constants of link/tankpost.h and `told` of link/tankpost.rs; and that nothing is lost: from the
-- numbers come the answer and the rule that they were made of. Definitions and statement only; proofs/Decoded proves it.
use Rattle.std.specs.Prelude.{◌≡◌, cond, eqb, Option, Some, None, Result, Ok}
use Rattle.flow.specs.declared.Dim.{Dim}
use Rattle.verdict.specs.declared.Side.TheVariants.{Within, Over}
use Rattle.verdict.specs.declared.Rule.TheVariants as rule
use Rattle.verdict.specs.declared.Rule.{Rule}
use Rattle.verdict.specs.declared.Verdict.{Verdict}
use Rattle.verdict.specs.declared.Verdict.TheVariants as verdict
use Rattle.head.specs.declared.Refusal.{Refusal}
use Rattle.head.specs.Answers.{judge_number, refused}
use Rattle.codes.specs.declared.Decision.{Decision}
use Rattle.codes.specs.Numbers.{dim_of}
use Rattle.codes.specs.Decisions.{dim_code, decision_of}

unfoldable pub answer_in : Decision → Result Verdict Refusal
answer_in d =
    cond (eqb d.verdict 1) (Ok verdict.Admitted)
    (cond (eqb d.verdict 2) (Ok verdict.OverShare)
    (cond (eqb d.verdict 3) (Ok verdict.RelayRate)
    (refused d.refusal)))

unfoldable pub ruling_in : Decision → Option Rule
ruling_in d =
    cond (eqb d.rule 1) (Some (rule.Admitted d.want_or_mark))
    (cond (eqb d.rule 2) (Some (rule.Credit Within (dim_of d.dim)))
    (cond (eqb d.rule 3) (Some (rule.Credit Over (dim_of d.dim)))
    (cond (eqb d.rule 4) (Some (rule.Tokens Within (dim_of d.dim)))
    (cond (eqb d.rule 5) (Some (rule.Tokens Over (dim_of d.dim)))
    (cond (eqb d.rule 6) (Some (rule.Reserve (dim_of d.dim) d.want_or_mark d.part))
    None)))))

pub record Decoded : Type 0 where
  pub answer : (a : Result Verdict Refusal) (r : Option Rule) → answer_in (decision_of a r) ≡ a
  pub ruling : (a : Result Verdict Refusal) (r : Option Rule) → ruling_in (decision_of a r) ≡ r
  -- the refusal's number stands in its field, 0 where there was none
  pub refusal : (a : Result Verdict Refusal) (r : Option Rule) → (decision_of a r).refusal ≡ judge_number a
  -- the number of a dimension is the one by which a level or a rate is asked
  pub dim : (d : Dim) → dim_of (dim_code d) ≡ d
