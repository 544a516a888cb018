use Rattle.store.specs.Causes.{index_of}
use Rattle.cut_counts.proofs.Tallying.{sourced_is}
use Rattle.cut_counts.proofs.sourced.Goals as goal

pub returns-clause-counted_after : goal.returns-clause-counted_after
returns-clause-counted_after c =
    sourced_is c.args.room c.args.lent.now.tags.now _ c.args.lent.now.counted.now _ c.args.had c.listed.result c.args.named.name (index_of c.args.cause) c.requires.had_in_bounds
    c.listed.ensures.counted_after c.listed.ensures.tags_after
