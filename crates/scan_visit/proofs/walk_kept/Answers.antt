-- `scan_visit::walk_kept` meets its contract. Assumes nothing.
use Rattle.std.proofs.Common.{◌+◌, arith}
use Rattle.shifting.proofs.Whole.{whole_below}
use Rattle.parts.specs.Held.{held}
use Rattle.parts.proofs.Passing.{none_left, none_dropped}
use Rattle.scan_visit.proofs.Staying.{none_walked, rest_rises, some_walked}
use Rattle.scan_visit.proofs.walk_kept.Goals as goal

pub walk_to_stale-first-requires-clause-to_in_bounds : goal.walk_to_stale-first-requires-clause-to_in_bounds
walk_to_stale-first-requires-clause-to_in_bounds c = let b = whole_below _ _ c.requires.whole (c.args.table + 1) (omega arith) in omega arith

pub returns-then-first-to-clause-value : goal.returns-then-first-to-clause-value
returns-then-first-to-clause-value c =
    none_left (held c.args.parts.now) _ c.args.table _ c.requires.sizes c.requires.tracked_fits (c.requires.whole.rises c.args.table c.requires.table_in_bounds)
    (whole_below _ _ c.requires.whole (c.args.table + 1) (omega arith))
    c.walk_to_stale-first.result c.walk_to_stale-first.ensures.lower_bound c.walk_to_stale-first.ensures.upper_bound
    c.walk_to_stale-first.ensures.none c.if-first-to.true

pub returns-then-first-to-clause-rows_after : goal.returns-then-first-to-clause-rows_after
returns-then-first-to-clause-rows_after c =
    none_dropped (held c.args.parts.now) _ c.args.table _ c.requires.sizes c.requires.tracked_fits (c.requires.whole.rises c.args.table c.requires.table_in_bounds)
    (whole_below _ _ c.requires.whole (c.args.table + 1) (omega arith))
    c.walk_to_stale-first.result c.walk_to_stale-first.ensures.lower_bound c.walk_to_stale-first.ensures.upper_bound
    c.walk_to_stale-first.ensures.none c.if-first-to.true

pub returns-then-first-to-clause-sums_after : goal.returns-then-first-to-clause-sums_after
returns-then-first-to-clause-sums_after c =
    none_walked (held c.args.parts.now) c.args.tracked c.args.table c.args.at_ms c.requires.sizes c.requires.tracked_fits
    c.requires.whole c.requires.table_in_bounds
    c.walk_to_stale-first.result c.walk_to_stale-first.ensures.lower_bound c.walk_to_stale-first.ensures.upper_bound c.walk_to_stale-first.ensures.none
    _ _ c.if-first-to.true c.walk_to_stale-first.ensures.sums_after

pub walk_rest-requires-clause-from_le_to : goal.walk_rest-requires-clause-from_le_to
walk_rest-requires-clause-from_le_to c =
    let e = rest_rises (held c.args.parts.now) c.args.tracked c.args.table c.args.at_ms c.requires.sizes c.requires.tracked_fits
    c.requires.whole c.requires.table_in_bounds c.walk_to_stale-first.result c.walk_to_stale-first.ensures.lower_bound
    c.walk_to_stale-first.ensures.upper_bound c.walk_to_stale-first.ensures.none c.tell_length.ensures (held c.drop_stale-n.new.self)
    c.drop_stale-n.ensures.rows_after in
    let w = whole_below _ _ c.drop_stale-n.ensures.whole_after (c.args.table + 1) (omega arith) in
    omega (arith, e, w)

pub walk_rest-requires-clause-to_in_bounds : goal.walk_rest-requires-clause-to_in_bounds
walk_rest-requires-clause-to_in_bounds c =
    let l = c.drop_stale-n.ensures.slices.slots_length in
    let w = whole_below _ _ c.drop_stale-n.ensures.whole_after (c.args.table + 1) (omega arith) in
    omega (arith, l, w)

pub returns-clause-sums_after : goal.returns-clause-sums_after
returns-clause-sums_after c =
    some_walked (held c.args.parts.now) c.args.tracked c.args.table c.args.at_ms c.requires.sizes c.requires.tracked_fits
    c.requires.whole c.requires.table_in_bounds
    c.walk_to_stale-first.result c.walk_to_stale-first.ensures.lower_bound c.walk_to_stale-first.ensures.upper_bound c.walk_to_stale-first.ensures.none
    c.tell_length.ensures (held c.drop_stale-n.new.self) _ _ _ c.drop_stale-n.ensures.rows_after
    c.walk_to_stale-first.ensures.sums_after c.walk_rest.ensures.sums_after
