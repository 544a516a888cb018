use Rattle.meaning.proofs.Agrees.{agrees}
use Rattle.tankpost.proofs.tankpost_rate.Goals as goal

pub returns : goal.returns
returns c = simp (c.read_rate.ensures, c.rate.ensures.value, c.dim_of.ensures, agrees.rate_is)
