-- `plan::in_range` meets its contract. Assumes nothing.
use Rattle.std.proofs.Common.{◌≡◌, ◌&&◌, length, leb}
use Rattle.flow.specs.Flow.{all}
use Rattle.plan.specs.Plan.{window_at, is_span, «WINDOWS»}
use Rattle.plan.proofs.in_range.Given as goal

abbrev pub invariant-loop-window : goal.invariant-loop-window
invariant-loop-window l = l.passes ≡ leb (length l.windows) «WINDOWS» && all (λ i. is_span (window_at l.windows i)) l.window-index
