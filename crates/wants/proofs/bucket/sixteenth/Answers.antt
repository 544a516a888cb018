-- `wants::bucket::sixteenth` meets its contract: the two comparisons tell the part. Assumes nothing.
use Rattle.std.proofs.Common.{rules}
use Rattle.wants.proofs.Even.{sixteenth_is}
use Rattle.wants.proofs.bucket.sixteenth.Goals as goal

pub returns : goal.returns
returns c =
    rw (c.from-2.ensures, c.from.ensures) (
    sixteenth_is _ _ _ (search rules) (search rules) c.least.ensures c.least-2.ensures)
