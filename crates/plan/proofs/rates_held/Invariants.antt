-- `plan::rates_held` meets its contract. Assumes nothing.
use Rattle.std.proofs.Common.{◌≡◌}
use Rattle.flow.specs.Flow.{all}
use Rattle.plan.specs.Plan.{window_at, rates_of, window_rates}
use Rattle.plan.proofs.rates_held.Given as goal

abbrev pub invariant-loop-window : goal.invariant-loop-window
invariant-loop-window l = l.passes ≡ all (λ i. window_rates (rates_of (window_at l.windows i))) l.window-index
