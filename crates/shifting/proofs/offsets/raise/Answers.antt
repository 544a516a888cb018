-- `shifting::raise` meets its contract. Assumes nothing.
use Rattle.std.proofs.Common.{ℕ, ◌+◌, List, get_or, ap, ◌∙◌, arith}
use Rattle.shifting.proofs.Whole.{map_none, map_still, map_turn, map_done}
use Rattle.shifting.proofs.offsets.raise.Goals as goal

pub loop-k-init : goal.loop-k-init
loop-k-init c = map_none _ _ _

pub overflow_add-starts : goal.overflow_add-starts
overflow_add-starts c =
    let e = ap (λ (l : List ℕ). get_or l c.loop-k.k 0) c.loop-k.invariant ∙ map_still _ _ _ c.loop-k.k (omega arith) (omega arith) in
    omega (arith, c.requires.fits c.loop-k.k (omega arith) (omega arith))

pub loop-k-preserved : goal.loop-k-preserved
loop-k-preserved c = rw c.loop-k.invariant (map_turn _ _ _ _ _ (omega arith) (omega arith) (ap (λ (o : ℕ). o + 1) (map_still _ _ _ c.loop-k.k (omega arith) (omega arith))))

pub returns : goal.returns
returns c = c.loop-k.invariant ∙ map_done _ _ _ _ (omega arith) (omega arith)
