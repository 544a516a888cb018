-- `answers::refused_text` meets its contract: three texts put one after the other.
use Rattle.std.proofs.Common.{[]}
use mathlib.Core.Path.{ap, ◌∙◌}
use mathlib.Core.List.{◌∷◌}
use native.Mathlib.Omega.{arith}
use Rattle.label.proofs.Labels.{decimal_short}
use Rattle.text.specs.Number.{decimal}
use Rattle.text.specs.Page.{Page, write}
use Rattle.trial_script.specs.Answers.{refused_text}
use Rattle.trial_script.proofs.Texts.{three_front}
use Rattle.trial_script.proofs.answers.refused_text.Goals as goal

pub returns : goal.returns
unfolding refused_text
returns c =
    let word = 114 ∷ 101 ∷ 102 ∷ 117 ∷ 115 ∷ 101 ∷ 100 ∷ 32 ∷ [] in
    let all_of_them = three_front word (decimal c.args.n) (10 ∷ []) c.args.out.now _ _ (omega (arith, decimal_short c.args.n))
    (c.put.ensures.value ∙ ap (λ (p : Page). write p word) c.at_front-text.ensures.value)
    c.put_decimal.ensures.value c.put-2.ensures.value in record {
      prefix_len = all_of_them.0;
      out_after = all_of_them.1;
    }
