-- `plan::none_unbounded` meets its contract. Assumes nothing.
use Rattle.std.proofs.Common.{◌≡◌, not}
use Rattle.flow.specs.Flow.{all}
use Rattle.plan.specs.Plan.{window_at, rates_of, is_unbounded}
use Rattle.plan.proofs.none_unbounded.Given as goal

abbrev pub invariant-loop-window : goal.invariant-loop-window
invariant-loop-window l = l.passes ≡ all (λ i. not (is_unbounded (rates_of (window_at l.windows i)))) l.window-index
