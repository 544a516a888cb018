-- `plan::apart` meets its contract. Assumes nothing.
use Rattle.std.proofs.Common.{◌≡◌, take}
use Rattle.flow.specs.Flow.{all}
use Rattle.plan.specs.Plan.{window_at, is_apart}
use Rattle.plan.proofs.apart.Given as goal

abbrev pub invariant-loop-j : goal.invariant-loop-j
invariant-loop-j l = l.passes ≡ all (λ j. is_apart (take j l.windows) (window_at l.windows j)) l.j
