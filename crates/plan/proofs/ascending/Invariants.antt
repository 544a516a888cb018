-- `plan::ascending` meets its contract. Assumes nothing.
use Rattle.std.proofs.Common.{◌≡◌, true}
use Rattle.flow.specs.Flow.{all}
use Rattle.plan.specs.Plan.{window_at, end_before, follows}
use Rattle.plan.proofs.ascending.Given as goal

abbrev pub invariant-loop-window : goal.invariant-loop-window
invariant-loop-window l = record {
  passes : all (λ i. follows (end_before l.windows i) (window_at l.windows i)) l.window-index ≡ true;
  last : l.last ≡ end_before l.windows l.window-index;
}
