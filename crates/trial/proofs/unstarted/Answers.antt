-- `trial::unstarted` meets its contract: every part is zero, but for overflow's use, which is a new one.
use lib.Ieee.{of_bits}
use Rattle.trial.proofs.unstarted.Goals as goal

pub returns : goal.returns
unfolding of_bits
returns c = simp c.new-overflow.ensures
