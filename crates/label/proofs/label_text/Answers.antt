-- `label::label_text` meets its contract: each label has room, so that it stands at the front.
use Rattle.std.proofs.Common.{◌≤◌, length, ◌∙◌, arith}
use Rattle.text.proofs.Writing.{fits, front}
use Rattle.label.specs.Label.{label}
use Rattle.label.proofs.Labels.{label_short}
use Rattle.label.proofs.label_text.Goals as goal

pub returns : goal.returns
returns c =
    let room : length (label c.args.unit) ≤ length c.args.out.now = omega (arith, label_short c.args.unit) in
    let at_front = front _ _ _ _ room c.put_at_front.ensures in
    record {
      prefix_len = at_front.0;
      out_after = at_front.1;
      result_after = c.put_at_front.ensures ∙ fits _ _ (omega arith);
    }
