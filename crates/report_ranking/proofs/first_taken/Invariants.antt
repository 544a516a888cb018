-- `report_ranking::first_taken` meets its contract: the loop holds the earliest of those passed. Assumes nothing.
use Rattle.report_ranking.specs.Taken.{taken, first_taken}
use Rattle.std.specs.Option.{IfSome, unwrap_or}
use Prim.Native.Nat.{◌<◌}
use mathlib.Core.Path.{◌≡◌}
use Rattle.report_ranking.proofs.first_taken.Given as goal

abbrev pub invariant-loop-i : goal.invariant-loop-i
invariant-loop-i l =
    IfSome l.best (λ i. i < l.n) × (unwrap_or l.best l.n ≡ first_taken (taken l.tagged l.sources.tags.now l.sources.counted.now) l.sources.tags.now l.sources.counted.now l.n (unwrap_or l.p l.n) l.i)
