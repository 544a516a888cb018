-- `set_rates` meets its contract. Assumes nothing.
use Rattle.std.specs.Prelude.{⊤}
use Rattle.std.proofs.Common.{◌≡◌, ℕ, List, ap, ◌∙◌, Ok, Err, Result}
use Rattle.head.specs.declared.Flow.{Flow}
use Rattle.head.specs.declared.Refusal.{Refusal}
use Rattle.head.specs.declared.Shedder.{Shedder}
use Rattle.head.specs.Answers.{answer_number}
use Rattle.head.specs.Headed.{headed}
use Rattle.head.specs.Questions.{rates_asked}
use Rattle.head.proofs.Numbers.{refused_is, answered_is, answered_none}
use Rattle.store.specs.declared.lent.Sizes.{Sizes}
use Rattle.rates.specs.Rates as rates
use Rattle.rates.specs.Rates.{turned, change_ends}
use Rattle.rates.proofs.set_rates.Goals as goal

-- the number of what the questions answer, by the sizes of the lent rows
asked_by : (h : Shedder) (os rate : List ℕ) (stamp : ℕ) (a : Result ⊤ Refusal) (s t : Sizes) → s ≡ t → answer_number a ≡ rates_asked h s os rate stamp
    → answer_number a ≡ rates_asked h t os rate stamp
asked_by h os rate stamp a s t e q = q ∙ ap (λ (s : Sizes). rates_asked h s os rate stamp) e

pub returns-in-Err-clause-same_but_nan_bits : goal.returns-in-Err-clause-same_but_nan_bits
unfolding rates.set_rates
returns-in-Err-clause-same_but_nan_bits c =
    refused_is (λ (r : Refusal). change_ends (Err r) c.args.head)
    _ c.rates_asked.result c.in-Err.refusal _ c.in-Err.is (asked_by c.args.head c.args.lent.now.offsets.now c.args.rate c.args.stamp _ _ _ c.sizes.ensures c.rates_asked.ensures)

pub returns-clause-same_but_nan_bits : goal.returns-clause-same_but_nan_bits
unfolding rates.set_rates
returns-clause-same_but_nan_bits c =
    ap (λ (f : Flow). change_ends (Ok tt) (headed c.args.head f c.args.head.overflow c.args.head.tracked))
    (c.turned-flow.ensures ∙ ap (turned c.args.head.flow c.args.rate c.args.ceiling) c.later-clock.ensures)
    ∙ answered_is _ _ _ (answered_none c.rates_asked.result _ _ c.in_default.is
    (asked_by c.args.head c.args.lent.now.offsets.now c.args.rate c.args.stamp _ _ _ c.sizes.ensures c.rates_asked.ensures))
