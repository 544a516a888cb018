use Rattle.store.specs.Causes.{index_of}
use Rattle.cut_counts.proofs.Tallying.{tallied_is}
use Rattle.cut_counts.specs.Counting.{added}
use Rattle.head.specs.declared.Shedder.{Shedder}
use Rattle.std.proofs.Common.{ap}
use Rattle.cut_counts.proofs.tallied.Goals as goal

pub returns-clause-counted_after : goal.returns-clause-counted_after
returns-clause-counted_after c =
    tallied_is c.args.h c.added.result c.args.lent.now.tags.now _ c.args.lent.now.counted.now _ c.sourced-n.result c.args.named.name (index_of c.args.cause) c.args.receptions c.sourced-n.ensures.counted_after c.added.ensures

pub returns-clause-tracked_value : goal.returns-clause-tracked_value
unfolding added
returns-clause-tracked_value c = ap (λ (h : Shedder). h.tracked) c.added.ensures

pub returns-clause-scan_value : goal.returns-clause-scan_value
unfolding added
returns-clause-scan_value c = ap (λ (h : Shedder). h.scan) c.added.ensures
