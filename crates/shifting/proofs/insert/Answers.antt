-- `shifting::insert` meets its contract. Assumes nothing.
use Rattle.std.proofs.Common.{◌≡◌, ◌+◌, ap, ◌∙◌, arith, rules}
use Rattle.shifting.proofs.Entering.{coming, come_none, held_none, come_turn, come_next, come_done}
use Rattle.shifting.proofs.insert.Goals as goal

pub loop-i-init : goal.loop-i-init
loop-i-init g c = (search rules, come_none _ _ _, held_none _ _ _)

pub loop-i-preserved : goal.loop-i-preserved
loop-i-preserved g c = (
  search rules,
  rw (c.loop-i.invariant.1, c.loop-i.invariant.2) (come_turn _ _ _ _ (omega arith) (omega arith)),
  come_next _ _ _ _ (omega arith) (omega arith) _ (rw c.loop-i.invariant.1 at c.index-entries-i.is),
)

pub returns : goal.returns
returns g c = let e : c.loop-i.i ≡ c.args.n + 1 = omega arith in c.loop-i.invariant.1 ∙ ap (coming _ _ _) e ∙ come_done _ _ _ _ c.requires.p_le_n c.requires.n_in_bounds
