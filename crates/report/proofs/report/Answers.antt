-- `report` meets its contract: the front part of what `write_report` left. Assumes nothing.
use Rattle.report.proofs.Asking.{part, part_length}
use native.Mathlib.Omega.{arith}
use Rattle.report.proofs.report.Goals as goal

pub slice_bounds-result-end : goal.slice_bounds-result-end
slice_bounds-result-end c =
    omega (
      arith,
      part_length c.args.head _ c.args.lent.now.counted.now c.args.out.now c.write_report-w.result _
          c.bytes-n.result c.write_report-w.ensures.out_after c.bytes-n.ensures,
    )

pub returns : goal.returns
returns c =
    part c.args.head _ c.args.lent.now.counted.now c.args.out.now c.write_report-w.result _
    c.bytes-n.result c.write_report-w.ensures.out_after c.bytes-n.ensures
