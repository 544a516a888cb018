-- `verdict::want` meets its contract. The loop's invariant: the parts below d are the definition's. Assumes nothing.
use mathlib.Core.Path.{◌≡◌}
use Prim.Native.Nat.{ℕ}
use Rattle.flow.specs.Flow.{at, largest}
use Rattle.verdict.specs.Verdict.{want_of}
use Rattle.verdict.proofs.want.Given as goal

abbrev pub invariant-loop-d : goal.invariant-loop-d
invariant-loop-d l = l.times ≡ largest (λ (i : ℕ). want_of l.weight (at l.attempted i) (at l.cost i) (at l.level i)) l.d
