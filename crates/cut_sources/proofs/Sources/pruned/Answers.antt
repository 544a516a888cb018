-- `cut_sources::Sources::pruned` meets its contract. Assumes nothing.
use Rattle.std.proofs.Common.{arith}
use Rattle.cut_sources.proofs.Pruning.{frees_so, pruned_full}
use Rattle.cut_sources.proofs.Tagged.{pruned_tags_full}
use Rattle.cut_sources.proofs.Sources.pruned.Goals as goal

pub returns-clause-counted_after : goal.returns-clause-counted_after
returns-clause-counted_after c = pruned_full _ _ _ _ _ c.prune.ensures.counted_after c.if-n-self.false c.keep_from-k.ensures

pub returns-clause-tags_after : goal.returns-clause-tags_after
returns-clause-tags_after c = pruned_tags_full _ _ _ _ _ c.prune.ensures.tags_after c.if-n-self.false c.keep_from-k.ensures

pub returns-clause-upper_bound_2 : goal.returns-clause-upper_bound_2
returns-clause-upper_bound_2 c = λ h. let n = frees_so _ _ _ _ _ c.keep_from-k.ensures c.prune.ensures.counted_after (omega arith) (omega arith) in omega arith
