-- Nothing is lost in the numbers of a decision (specs/Decoded). Assumes nothing.
use Prim.Native.Nat.{ℕ}
use mathlib.Core.Path.{◌≡◌, refl, ap}
use lib.Ieee.{Float}
use Rattle.flow.specs.declared.Dim.{Dim}
use Rattle.flow.specs.declared.Dim.TheVariants.{Receptions, Bytes}
use Rattle.flow.specs.Flow as flow
use Rattle.verdict.specs.declared.Side.TheVariants.{Within, Over}
use Rattle.verdict.specs.declared.Rule.TheVariants as rule
use Rattle.std.proofs.Common.{Option, Some, None, Result, Ok, Err}
use Rattle.verdict.specs.declared.Rule.{Rule}
use Rattle.verdict.specs.declared.Verdict.{Verdict}
use Rattle.verdict.specs.declared.Verdict.TheVariants as verdict
use Rattle.head.specs.declared.Refusal.{Refusal}
use Rattle.head.specs.Answers.{judge_number, answer_number}
use Rattle.head.proofs.Numbers.{refusal_back as of_number}
use Rattle.codes.specs.Numbers.{dim_of}
use Rattle.codes.specs.Decisions.{coded, dim_code, ruled, decision_of}
use Rattle.codes.specs.Decoded.{answer_in, ruling_in, Decoded}

dim_back : (d : Dim) → dim_of (dim_code d) ≡ d
unfolding dim_of flow.dim_at flow.dim_of
dim_back Receptions = refl
dim_back Bytes = refl

coded_answer : (a : Result Verdict Refusal) (r d : ℕ) (x y : Float) → answer_in (coded a r d x y) ≡ a
unfolding answer_in answer_number
coded_answer (Ok verdict.Admitted) r d x y = refl
coded_answer (Ok verdict.OverShare) r d x y = refl
coded_answer (Ok verdict.RelayRate) r d x y = refl
coded_answer (Err q) r d x y = ap Err (of_number q)

answer_back : (a : Result Verdict Refusal) (r : Option Rule) → answer_in (decision_of a r) ≡ a
unfolding decision_of ruled
answer_back a None = coded_answer a _ _ _ _
answer_back a (Some (rule.Admitted w)) = coded_answer a _ _ _ _
answer_back a (Some (rule.Credit s d)) = coded_answer a _ _ _ _
answer_back a (Some (rule.Tokens s d)) = coded_answer a _ _ _ _
answer_back a (Some (rule.Reserve d m p)) = coded_answer a _ _ _ _

refusal_back : (a : Result Verdict Refusal) (r : Option Rule) → (decision_of a r).refusal ≡ judge_number a
unfolding decision_of ruled
refusal_back a None = refl
refusal_back a (Some (rule.Admitted w)) = refl
refusal_back a (Some (rule.Credit s d)) = refl
refusal_back a (Some (rule.Tokens s d)) = refl
refusal_back a (Some (rule.Reserve d m p)) = refl

ruling_back : (a : Result Verdict Refusal) (r : Option Rule) → ruling_in (decision_of a r) ≡ r
unfolding ruling_in decision_of ruled
ruling_back a None = refl
ruling_back a (Some (rule.Admitted w)) = refl
ruling_back a (Some (rule.Credit Within d)) = ap (λ (d : Dim). Some (rule.Credit Within d)) (dim_back d)
ruling_back a (Some (rule.Credit Over d)) = ap (λ (d : Dim). Some (rule.Credit Over d)) (dim_back d)
ruling_back a (Some (rule.Tokens Within d)) = ap (λ (d : Dim). Some (rule.Tokens Within d)) (dim_back d)
ruling_back a (Some (rule.Tokens Over d)) = ap (λ (d : Dim). Some (rule.Tokens Over d)) (dim_back d)
ruling_back a (Some (rule.Reserve d m p)) = ap (λ (d : Dim). Some (rule.Reserve d m p)) (dim_back d)

pub decoded : Decoded
decoded = record { answer = answer_back; ruling = ruling_back; refusal = refusal_back; dim = dim_back }
