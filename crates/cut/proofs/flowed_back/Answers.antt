use Rattle.cut.proofs.Handing.{flowed_back_is}
use Rattle.cut.proofs.flowed_back.Goals as goal

pub returns : goal.returns
returns c =
    flowed_back_is c.args.f c.args.cost _ _ c.returned_all-buckets.ensures c.lowered-admitted.ensures
