-- `report_lines::write_text` meets its contract: the lines of the head and of the sources, in a buffer with room for any text. Assumes nothing.
use mathlib.Core.Path.{ap, ◌∙◌}
use native.Mathlib.Omega.{arith}
use Rattle.text.specs.Page.{Page, writes}
use Rattle.report_lines.specs.Lines.{head_lines}
use Rattle.report_lines.proofs.Writing.{text_put}
use Rattle.report_lines.proofs.Lengths.{text_short}
use Rattle.report_lines.proofs.write_text.Goals as goal

pub returns : goal.returns
returns c =
    let all_of_them = text_put c.args.head c.args.tags.now c.args.counted.now c.args.own.now c.put_sources.new.out.out.now c.put_sources.new.out.at
    (omega (arith, text_short c.args.head c.args.tags.now c.args.counted.now c.put_head.ensures.head_len_bound))
    (c.put_head.ensures.value ∙ ap (λ (q : Page). writes q (head_lines c.args.head)) c.at_front-out.ensures.value)
    c.put_sources.ensures.value in record {
      prefix_len = all_of_them.0;
      own_after = all_of_them.1.0;
      result_after = all_of_them.1.1;
    }
