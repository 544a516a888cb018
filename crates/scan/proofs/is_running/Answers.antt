use Rattle.head.proofs.Bounds.{le_by}
use Rattle.std.proofs.Common.{◌+◌, leb, sym, ap, arith, le-ltb, lt-ltb, le-leb}
use Rattle.head.specs.declared.Shedder.{Shedder}
use Rattle.scan.specs.Scanning.{opened, begun, started}
use borrow.Author.Tests.{lt-leb}
use Rattle.scan.proofs.is_running.Goals as goal

pub returns-then-h-gt0-clause-sums_after : goal.returns-then-h-gt0-clause-sums_after
unfolding begun
returns-then-h-gt0-clause-sums_after c = simp (le-leb _ _ c.if-h-gt0.true)

pub returns-then-clock-h-clause-sums_after : goal.returns-then-clock-h-clause-sums_after
unfolding begun
returns-then-clock-h-clause-sums_after c = simp (lt-leb 1 c.args.h.now.scan.remaining (omega arith), lt-ltb _ _ c.if-clock-h.true)

pub returns : goal.returns
unfolding begun opened
returns c = record {
  value = ap (λ (h : Shedder). leb 1 h.scan.remaining) (sym c.open.ensures);
  sums_after = simp (lt-leb 1 c.args.h.now.scan.remaining (omega arith), le-ltb _ _ c.if-clock-h.false, c.open.ensures) (ap (started _) c.clear.ensures.wants_after);
  arrays = c.clear.ensures.arrays;
  tracked_value = ap (λ (h : Shedder). h.tracked) c.open.ensures;
  next_bound_2 = le_by (ap (λ (h : Shedder). h.scan.remaining + h.scan.next) c.open.ensures) (omega arith);
}
