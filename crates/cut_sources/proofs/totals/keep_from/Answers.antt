-- `cut_sources::totals::keep_from` meets its contract. Assumes nothing.
use Rattle.std.proofs.Common.{◌-◌, ◌/◌, sym, ◌∙◌, arith, rules}
use Rattle.cut_sources.specs.Counted.{totals}
use Rattle.cut_sources.proofs.Pruning.{length_totals}
use Rattle.cut_sources.proofs.Sorted.{keep_from_none, keep_from_least, keep_from_most, keep_from_highest}
use Rattle.cut_sources.proofs.totals.keep_from.Goals as goal

pub returns-then-n-eq0 : goal.returns-then-n-eq0
returns-then-n-eq0 c = sym (keep_from_none (totals c.args.counted.now c.args.n) (length_totals c.args.counted.now c.args.n (omega arith) ∙ c.if-n-eq0.true))

pub loop-low-init : goal.loop-low-init
loop-low-init c = (
  search rules,
  search rules,
  search rules,
  omega (
    arith,
    c.highest-high.ensures,
    keep_from_highest (totals c.args.counted.now c.args.n) (omega (arith, length_totals c.args.counted.now c.args.n (omega arith))),
  ),
)

pub overflow_sub-tried-in-loop-low : goal.overflow_sub-tried-in-loop-low
overflow_sub-tried-in-loop-low c = omega arith

pub loop-low-smaller-then-below-n : goal.loop-low-smaller-then-below-n
loop-low-smaller-then-below-n c = omega arith

pub loop-low-preserved-then-below-n : goal.loop-low-preserved-then-below-n
loop-low-preserved-then-below-n c = (
  search rules,
  search rules,
  keep_from_least (totals c.args.counted.now c.args.n) (omega (arith, length_totals c.args.counted.now c.args.n (omega arith))) _
      (omega (arith, length_totals c.args.counted.now c.args.n (omega arith), c.below.ensures)),
  search rules,
)

pub overflow_sub-high : goal.overflow_sub-high
overflow_sub-high c = omega arith

pub loop-low-smaller : goal.loop-low-smaller
loop-low-smaller c = omega arith

pub loop-low-preserved : goal.loop-low-preserved
loop-low-preserved c = (
  search rules,
  search rules,
  search rules,
  omega (
    arith,
    keep_from_most (totals c.args.counted.now c.args.n) (omega (arith, length_totals c.args.counted.now c.args.n (omega arith)))
        (c.loop-low.high - (c.loop-low.high - c.loop-low.low) / 2)
        (omega (arith, length_totals c.args.counted.now c.args.n (omega arith), c.below.ensures)),
  ),
)

pub returns : goal.returns
returns c = omega arith
