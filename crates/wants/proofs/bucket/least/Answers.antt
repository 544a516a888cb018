-- `wants::bucket::least` meets its contract: each entry was tested. Assumes nothing.
use Rattle.wants.proofs.Least.{entry}
use Rattle.wants.proofs.bucket.least.Goals as goal

pub returns : goal.returns
returns c = entry c.args.j c.requires
