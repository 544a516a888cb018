use Rattle.meaning.proofs.Agrees.{agrees}
use Rattle.tankpost.proofs.tankpost_is_bounded.Goals as goal

pub returns : goal.returns
returns c = simp (c.read_bounded.ensures, c.is_bounded.ensures.value, agrees.bounded_is)
