use Rattle.scan.proofs.Scanning.{visit_is, moved_on, next_low}
use Rattle.head.proofs.Bounds.{le_by}
use Rattle.scan.specs.Scanning.{visited}
use Rattle.head.specs.declared.Shedder.{Shedder}
use Rattle.shifting.specs.Offsets.{Whole}
use Rattle.std.proofs.Common.{ℕ, ◌+◌, refl, sym, ap, subst}
use Rattle.scan.proofs.visit.Goals as goal

pub swept-n-requires : goal.swept-n-requires
swept-n-requires c = record {
  sizes = c.requires.sizes;
  tracked_fits = c.requires.tracked_fits;
  table_in_bounds = next_low _ _ c.requires.le_remaining c.requires.next_bound;
  whole = c.requires.whole;
}

pub returns-clause-sums_after : goal.returns-clause-sums_after
returns-clause-sums_after c =
    visit_is c.args.h.now _ _ c.swept-n.result _ _ c.visited.new.h c.swept-n.ensures.value c.swept-n.ensures.rows_after c.swept-n.ensures.sums_after c.visited.ensures

pub returns-clause-tracked_le_tracked : goal.returns-clause-tracked_le_tracked
unfolding visited
returns-clause-tracked_le_tracked c = le_by (ap (λ (h : Shedder). h.tracked) c.visited.ensures) c.swept-n.ensures.upper_bound

pub returns-clause-whole_after : goal.returns-clause-whole_after
unfolding visited
returns-clause-whole_after c = subst (λ (n : ℕ). Whole c.swept-n.new.parts.offsets.now n) (sym (ap (λ (h : Shedder). h.tracked) c.visited.ensures)) c.swept-n.ensures.whole_after

pub returns-clause-next_bound_2 : goal.returns-clause-next_bound_2
unfolding visited
returns-clause-next_bound_2 c =
    le_by (ap (λ (h : Shedder). h.scan.remaining + h.scan.next) c.visited.ensures) (moved_on c.args.h.now.scan.remaining c.args.h.now.scan.next c.requires.le_remaining c.requires.next_bound)
