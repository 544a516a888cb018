-- `write_report` meets its contract: the text composed before is put whole, or nothing is. Assumes nothing.
use mathlib.Core.Path.{ap, ◌∙◌}
use borrow.Author.Rules.{rules}
use Rattle.head.specs.Answers.{written_number}
use Rattle.report.proofs.Asking.{written, answer_number}
use Rattle.report.proofs.write_report.Goals as goal

pub slice_bounds-put-end : goal.slice_bounds-put-end
slice_bounds-put-end c =
    rw c.bytes-n.ensures c.composed-w.ensures.prefix_len.1

pub returns : goal.returns
returns c = record {
  out_after = written c.args.head _ c.args.lent.now.counted.now c.args.out.now _ c.composed-w.new.own _ _ c.put.new.self.at c.composed-w.ensures.value c.bytes-n.ensures c.composed-w.ensures.own_after
      (search rules);
  result_value = ap written_number c.composed-w.ensures.value ∙ answer_number _ _ _ _;
}
