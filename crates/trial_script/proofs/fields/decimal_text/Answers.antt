-- `fields::decimal_text` meets its contract.
use mathlib.Core.Path.{ap, ◌∙◌}
use native.Mathlib.Omega.{arith}
use Rattle.text.specs.Number.{decimal}
use Rattle.text.specs.Page.{Page, write}
use Rattle.text.proofs.Writing.{front}
use Rattle.label.proofs.Labels.{decimal_short}
use Rattle.trial_script.proofs.fields.decimal_text.Goals as goal

pub returns : goal.returns
returns c =
    let all_of_them = front c.args.out.now (decimal c.args.n) _ _ (omega (arith, decimal_short c.args.n))
    (c.put_decimal.ensures.value ∙ ap (λ (p : Page). write p (decimal c.args.n)) c.at_front-text.ensures.value) in record {
      prefix_len = all_of_them.0;
      out_after = all_of_them.1;
    }
