use Rattle.tankpost.proofs.Told.{report_tells}
use Rattle.tankpost.proofs.tankpost_report.Goals as goal

pub returns : goal.returns
returns c =
    λ g. report_tells _ _ g _ _ _ _ _ c.write_report.ensures.out_after c.read_written.ensures
