use Rattle.meaning.proofs.Agrees.{agrees}
use Rattle.tankpost.proofs.tankpost_cut_batches.Goals as goal

pub returns : goal.returns
returns c = simp (c.read_count.ensures, c.cut_batches.ensures.value, c.cause_of.ensures, agrees.batches_is)
