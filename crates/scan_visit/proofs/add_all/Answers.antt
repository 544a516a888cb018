-- `scan_visit::add_all` meets its contract. Assumes nothing.
use Rattle.scan_visit.proofs.Walking.{adds_none, adds_next}
use Rattle.wants.specs.Wants as wants
use Rattle.wants.specs.Wants.{Hist}
use Rattle.flow.specs.Flow.{at, dims}
use Rattle.std.proofs.Common.{◌≡◌, sym, ap, ◌∙◌, arith, rules}
use Rattle.scan_visit.proofs.add_all.Goals as goal

pub loop-d-init : goal.loop-d-init
loop-d-init c = (sym (adds_none _ _), search rules)

pub loop-d-preserved : goal.loop-d-preserved
loop-d-preserved c = (
  c.add.ensures.wants_after ∙ ap (λ (g : Hist). wants.added g c.loop-d.d (at c.args.want c.loop-d.d)) c.loop-d.invariant.0
      ∙ sym (adds_next _ _ _),
  search rules,
)

pub returns-clause-sums_after : goal.returns-clause-sums_after
returns-clause-sums_after c = let e : c.loop-d.d ≡ dims = omega arith in rw e at c.loop-d.invariant.0
