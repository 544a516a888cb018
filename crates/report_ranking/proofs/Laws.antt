-- The law of the sources that a report names (specs/Laws). Assumes nothing.
use Rattle.report_ranking.specs.Laws.{Naming}
use Rattle.report_ranking.proofs.Ordering.{order}
use Rattle.report_ranking.proofs.Naming.{front}

pub naming : Naming
naming = record { order = order; front = front }
