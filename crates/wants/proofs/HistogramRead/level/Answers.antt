-- `wants::HistogramRead::level` meets its contract: so far every bucket fits, with what is left and who remains. Assumes nothing.
use Rattle.wants.proofs.Steps.{walked_next, empty, fitting, stopping, found_level}
use Rattle.wants.specs.Wants.{walked, found, level}
use Rattle.std.proofs.Common.{◌≡◌, sym, ap, ◌∙◌, arith, rules}
use Rattle.wants.proofs.HistogramRead.level.Goals as goal

pub loop-b-init : goal.loop-b-init
unfolding walked
loop-b-init c = simp c.counted-remaining.ensures

pub loop-b-preserved-then-n-eq0 : goal.loop-b-preserved-then-n-eq0
loop-b-preserved-then-n-eq0 c =
    walked_next _ _ _ _ _ c.loop-b.invariant ∙ empty _ _ _ _ c.if-n-eq0.true

pub loop-b-preserved : goal.loop-b-preserved
loop-b-preserved c =
    walked_next _ _ _ _ _ c.loop-b.invariant ∙ fitting _ _ _ _ _ c.if-n-eq0.false c.from-count.ensures c.if-sum-count.true

pub returns-else-sum-count : goal.returns-else-sum-count
unfolding level
returns-else-sum-count c =
    found_level _ _ _ _ _ (search rules) (
    walked_next _ _ _ _ _ c.loop-b.invariant
    ∙ stopping _ _ _ _ _ c.if-n-eq0.false c.from-count.ensures c.if-sum-count.false)

pub returns : goal.returns
unfolding level found
returns c =
    let e : c.loop-b.b ≡ 768 = omega arith in
    sym (ap found (rw e at c.loop-b.invariant))
