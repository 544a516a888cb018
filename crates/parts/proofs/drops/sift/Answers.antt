-- `parts::drops::sift` meets its contract. Assumes nothing.
use Rattle.std.proofs.Common.{refl, arith, rules}
use Rattle.parts.proofs.Sifting.{sifted_none, turn}
use Rattle.parts.proofs.drops.sift.Goals as goal

pub loop-i-init : goal.loop-i-init
loop-i-init g c = record { low = omega arith; high = omega arith; slices = search rules; cost = omega arith; index = sifted_none _ _ _ _ _ _ _ }

pub loop-i-preserved : goal.loop-i-preserved
loop-i-preserved g c = record {
  low = omega arith;
  high = omega arith;
  slices = search rules;
  cost = omega arith;
  index = turn _ _ _ _ _ _ _ _ _ (omega arith) (omega arith) (omega arith) (omega arith) _ _ refl c.sift_one-j.ensures.index_after c.loop-i.invariant.index;
}
