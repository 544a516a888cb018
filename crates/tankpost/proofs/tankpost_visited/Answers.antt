use Rattle.meaning.proofs.Agrees.{agrees}
use Rattle.tankpost.proofs.tankpost_visited.Goals as goal

pub returns : goal.returns
returns c = simp (c.read_count.ensures, c.visited.ensures.value, agrees.visited_is)
