use Rattle.meaning.proofs.Agrees.{agrees}
use Rattle.tankpost.proofs.tankpost_level.Goals as goal

pub returns : goal.returns
returns c = simp (c.read_level.ensures, c.level.ensures.same_but_nan_bits, c.dim_of.ensures, agrees.level_is)
