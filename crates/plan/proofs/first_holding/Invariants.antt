-- `plan::first_holding` meets its contract. Assumes nothing.
use Rattle.std.proofs.Common.{◌≡◌, drop}
use Rattle.plan.specs.Plan.{first_holding}
use Rattle.plan.proofs.first_holding.Given as goal

abbrev pub invariant-loop-window : goal.invariant-loop-window
invariant-loop-window l = first_holding l.outside l.windows l.minute ≡ first_holding l.outside (drop l.window-index l.windows) l.minute
