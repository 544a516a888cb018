-- `plan::is_apart` meets its contract. Assumes nothing.
use Rattle.std.proofs.Common.{◌≡◌, not}
use Rattle.flow.specs.Flow.{all}
use Rattle.plan.specs.Plan.{window_at, overlap}
use Rattle.plan.proofs.is_apart.Given as goal

abbrev pub invariant-loop-window : goal.invariant-loop-window
invariant-loop-window l = l.passes ≡ all (λ i. not (overlap (window_at l.windows i) l.from)) l.window-index
