-- `cut_sources::Sources::prune` meets its contract. Assumes nothing.
use Rattle.std.proofs.Common.{◌≡◌, sym, ap, ◌∙◌, arith, rules}
use Rattle.cut_sources.specs.Counted.{Sources, prune_one}
use Rattle.cut_sources.proofs.Pruning.{prune_none, prune_next}
use Rattle.cut_sources.proofs.Tagged.{prune_tags_none, step_tags}
use Rattle.cut_sources.proofs.Sources.prune.Goals as goal

pub loop-i-init : goal.loop-i-init
loop-i-init c = (search rules, search rules, sym (prune_none _ _), sym (prune_tags_none _ _ _))

pub loop-i-preserved : goal.loop-i-preserved
loop-i-preserved c = (
  search rules,
  search rules,
  c.prune_one-j.ensures.counted_after ∙ ap (λ (s : Sources). prune_one s c.args.k c.loop-i.i) c.loop-i.invariant.2
      ∙ sym (prune_next _ _ _ (omega (arith, c.loop-i.invariant.1.counted_length))),
  step_tags _ _ _ _ _ _ _ _ c.loop-i.invariant.2 c.loop-i.invariant.3 c.prune_one-j.ensures.tags_after,
)

pub returns-clause-counted_after : goal.returns-clause-counted_after
returns-clause-counted_after c = let e : c.loop-i.i ≡ c.args.n = omega arith in rw e at c.loop-i.invariant.2

pub returns-clause-tags_after : goal.returns-clause-tags_after
returns-clause-tags_after c = let e : c.loop-i.i ≡ c.args.n = omega arith in rw e at c.loop-i.invariant.3
