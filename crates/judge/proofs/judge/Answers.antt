use Rattle.std.specs.Prelude.{⊤}
use Rattle.std.proofs.Common.{◌≡◌, ℕ, List, ap, ◌∙◌, Ok, Err, None, Option, Result}
use Rattle.head.proofs.Asked.{asked_ready}
use Rattle.head.proofs.Numbers.{refused_is, answered_none}
use Rattle.head.specs.declared.Refusal.{Refusal}
use Rattle.head.specs.declared.Shedder.{Shedder}
use Rattle.head.specs.Answers.{answer_number}
use Rattle.head.specs.Questions.{judge_asked}
use Rattle.sender.specs.declared.Unit.{Unit}
use Rattle.store.specs.declared.lent.Sizes.{Sizes}
use Rattle.store.specs.Held.{lent_rows}
use Rattle.verdict.specs.declared.Rule.{Rule}
use Rattle.judge.specs.Judging.{judge, judge_ends, ruling, bounded, bounded_ruling}
use Rattle.judge.specs.Lending.{lent_memory}
use mathlib.Core.Path.{sym}
use Rattle.judge.proofs.judge.Goals as goal

-- the number of what the questions answer, by the sizes of the lent rows
asked_by : (h : Shedder) (os cost : List ℕ) (stamp : ℕ) (a : Result ⊤ Refusal) (s t : Sizes) → s ≡ t
    → answer_number a ≡ judge_asked h s os cost stamp → answer_number a ≡ judge_asked h t os cost stamp
asked_by h os cost stamp a s t e q = q ∙ ap (λ (s : Sizes). judge_asked h s os cost stamp) e

none_asked : (h : Shedder) (os cost : List ℕ) (stamp : ℕ) (a : Result ⊤ Refusal) (s t : Sizes) → s ≡ t → (x : ⊤) → a ≡ Ok x
    → answer_number a ≡ judge_asked h s os cost stamp → judge_asked h t os cost stamp ≡ 0
none_asked h os cost stamp a s t e x is q = answered_none a x _ is (asked_by h os cost stamp a s t e q)

pub returns-in-Err-clause-same_but_nan_bits : goal.returns-in-Err-clause-same_but_nan_bits
unfolding judge
returns-in-Err-clause-same_but_nan_bits c =
    refused_is
    (λ (r : Refusal). judge_ends (Err r) c.args.head
    (lent_memory c.args.lent.now c.args.histogram.now))
    _ c.judge_asked.result c.in-Err.refusal _ c.in-Err.is (asked_by c.args.head c.args.lent.now.offsets.now c.args.cost c.args.stamp _ _ _ c.sizes.ensures c.judge_asked.ensures)

pub returns-in-Err-clause-answer_value : goal.returns-in-Err-clause-answer_value
unfolding answer_number
returns-in-Err-clause-answer_value c = ap answer_number (sym c.in-Err.is) ∙ (asked_by c.args.head c.args.lent.now.offsets.now c.args.cost c.args.stamp _ _ _ c.sizes.ensures c.judge_asked.ensures)

pub returns-in-Err-clause-same_but_nan_bits_2 : goal.returns-in-Err-clause-same_but_nan_bits_2
unfolding ruling
returns-in-Err-clause-same_but_nan_bits_2 c =
    let none : Refusal → Option Rule = λ r. None in
    refused_is none _ c.judge_asked.result c.in-Err.refusal _ c.in-Err.is (asked_by c.args.head c.args.lent.now.offsets.now c.args.cost c.args.stamp _ _ _ c.sizes.ensures c.judge_asked.ensures)

pub returns-then-is_unbounded-clause-same_but_nan_bits : goal.returns-then-is_unbounded-clause-same_but_nan_bits
unfolding judge
returns-then-is_unbounded-clause-same_but_nan_bits c =
    simp ((none_asked c.args.head c.args.lent.now.offsets.now c.args.cost c.args.stamp _ _ _ c.sizes.ensures _ c.in_default.is c.judge_asked.ensures), sym c.is_unbounded.ensures, c.if-is_unbounded.true)

pub returns-then-is_unbounded-clause-answer_value : goal.returns-then-is_unbounded-clause-answer_value
unfolding answer_number
returns-then-is_unbounded-clause-answer_value c = sym (none_asked c.args.head c.args.lent.now.offsets.now c.args.cost c.args.stamp _ _ _ c.sizes.ensures _ c.in_default.is c.judge_asked.ensures)

pub returns-then-is_unbounded-clause-same_but_nan_bits_2 : goal.returns-then-is_unbounded-clause-same_but_nan_bits_2
unfolding ruling
returns-then-is_unbounded-clause-same_but_nan_bits_2 c =
    simp ((none_asked c.args.head c.args.lent.now.offsets.now c.args.cost c.args.stamp _ _ _ c.sizes.ensures _ c.in_default.is c.judge_asked.ensures), sym c.is_unbounded.ensures, c.if-is_unbounded.true)

pub bounded-requires : goal.bounded-requires
bounded-requires c = asked_ready c.args.head _ c.args.lent.now.offsets.now c.args.cost c.args.stamp (none_asked c.args.head c.args.lent.now.offsets.now c.args.cost c.args.stamp _ _ _ c.sizes.ensures _ c.in_default.is c.judge_asked.ensures)

pub returns-clause-same_but_nan_bits : goal.returns-clause-same_but_nan_bits
unfolding judge
returns-clause-same_but_nan_bits c =
    simp ((none_asked c.args.head c.args.lent.now.offsets.now c.args.cost c.args.stamp _ _ _ c.sizes.ensures _ c.in_default.is c.judge_asked.ensures), sym c.is_unbounded.ensures, c.if-is_unbounded.false)
    (c.bounded.ensures.memory_after ∙ ap (λ (u : Unit). bounded c.args.head (lent_memory c.args.lent.now c.args.histogram.now) u c.args.cost c.args.stamp) c.of.ensures)

pub returns-clause-answer_value : goal.returns-clause-answer_value
returns-clause-answer_value c = c.bounded.ensures.answer_value ∙ sym (none_asked c.args.head c.args.lent.now.offsets.now c.args.cost c.args.stamp _ _ _ c.sizes.ensures _ c.in_default.is c.judge_asked.ensures)

pub returns-clause-same_but_nan_bits_2 : goal.returns-clause-same_but_nan_bits_2
unfolding ruling
returns-clause-same_but_nan_bits_2 c =
    simp ((none_asked c.args.head c.args.lent.now.offsets.now c.args.cost c.args.stamp _ _ _ c.sizes.ensures _ c.in_default.is c.judge_asked.ensures), sym c.is_unbounded.ensures, c.if-is_unbounded.false)
    (c.bounded.ensures.ruling_value ∙ ap (λ (u : Unit). bounded_ruling c.args.head (lent_rows c.args.lent.now) u c.args.cost c.args.stamp) c.of.ensures)
