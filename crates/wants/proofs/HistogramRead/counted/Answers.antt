-- `wants::HistogramRead::counted` meets its contract: the whole number of all buckets is, as a double, their sum from the top. Assumes nothing.
use Rattle.wants.proofs.Orders.{first_none, first_next, from_the_top}
use Rattle.wants.specs.Laws.{first_units}
use Rattle.std.proofs.Common.{◌≡◌, sym, ap, ap₂, ◌+◌, ℕ, ◌∙◌, arith, rules}
use Rattle.wants.proofs.HistogramRead.counted.Goals as goal

pub loop-n-init : goal.loop-n-init
loop-n-init c = (search rules, sym (first_none _))

pub loop-n-preserved : goal.loop-n-preserved
loop-n-preserved c =
    (search rules, ap₂ (λ (a b : ℕ). a + b) c.loop-n.invariant.1 c.from-total.ensures ∙ sym (first_next _ _))

pub returns : goal.returns
returns c =
    let all : c.loop-n.n-index ≡ 768 = omega arith in
    c.whole.ensures ∙ from_the_top _ 768 c.loop-n.total (c.loop-n.invariant.1 ∙ ap (first_units _) all) (omega (arith, c.loop-n.invariant.0))
