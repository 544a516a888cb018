-- `parts::Parts::drop_counted` meets its contract. Assumes nothing.
use Rattle.std.proofs.Common.{◌+◌, arith}
use Rattle.shifting.proofs.Whole.{whole_below}
use Rattle.parts.specs.Held.{held}
use Rattle.parts.proofs.Behind.{behind_dropped}
use Rattle.parts.proofs.Copied.{counted_none, counted_some, once_each}
use Rattle.parts.proofs.Passing.{none_left, none_dropped}
use Rattle.parts.proofs.Parts.drop_counted.Goals as goal

pub first_stale-first-requires-clause-to_in_bounds : goal.first_stale-first-requires-clause-to_in_bounds
first_stale-first-requires-clause-to_in_bounds g c = let b = whole_below _ _ c.requires.whole (c.args.table + 1) (omega arith) in omega arith

pub returns-then-first-to-clause-value : goal.returns-then-first-to-clause-value
returns-then-first-to-clause-value g c =
    none_left (held c.args.self.now) c.args.tracked c.args.table c.args.at_ms c.requires.sizes c.requires.tracked_fits (c.requires.whole.rises c.args.table c.requires.table_in_bounds)
    (whole_below _ _ c.requires.whole (c.args.table + 1) (omega arith)) c.first_stale-first.result c.first_stale-first.ensures.lower_bound c.first_stale-first.ensures.upper_bound c.first_stale-first.ensures.none c.if-first-to.true

pub returns-then-first-to-clause-rows_after : goal.returns-then-first-to-clause-rows_after
returns-then-first-to-clause-rows_after g c =
    none_dropped (held c.args.self.now) c.args.tracked c.args.table c.args.at_ms c.requires.sizes c.requires.tracked_fits (c.requires.whole.rises c.args.table c.requires.table_in_bounds)
    (whole_below _ _ c.requires.whole (c.args.table + 1) (omega arith)) c.first_stale-first.result c.first_stale-first.ensures.lower_bound c.first_stale-first.ensures.upper_bound c.first_stale-first.ensures.none c.if-first-to.true

pub returns-clause-tags_behind : goal.returns-clause-tags_behind
returns-clause-tags_behind g c =
    behind_dropped (held c.args.self.now) (held c.drop_from.new.self) c.args.tracked c.args.table c.args.at_ms c.requires.sizes c.requires.tracked_fits c.requires.whole c.requires.table_in_bounds
    c.drop_from.ensures.rows_after

pub returns-then-first-to-clause-cost : goal.returns-then-first-to-clause-cost
returns-then-first-to-clause-cost g c =
    counted_none (held c.args.self.now) c.args.tracked c.args.table c.args.at_ms c.args.copies.now c.requires.sizes c.requires.whole c.requires.tracked_fits c.requires.table_in_bounds
    (λ k a b. c.first_stale-first.ensures.none k a (omega arith))

pub returns-clause-cost : goal.returns-clause-cost
returns-clause-cost g c =
    counted_some (held c.args.self.now) c.args.tracked c.args.table c.args.at_ms c.first_stale-first.result c.args.copies.now c.drop_from.new.copies c.requires.sizes c.requires.whole c.requires.tracked_fits c.requires.table_in_bounds
    c.first_stale-first.ensures.lower_bound (omega arith) c.first_stale-first.ensures.none (c.first_stale-first.ensures.stale (omega arith))
    (omega (arith, c.drop_from.ensures.cost, c.drop_from.ensures.value))

pub returns-then-first-to-clause-once : goal.returns-then-first-to-clause-once
returns-then-first-to-clause-once g c = once_each (held c.args.self.now) c.args.tracked c.args.table c.args.at_ms c.requires.sizes c.requires.whole c.requires.tracked_fits c.requires.table_in_bounds

pub returns-clause-once : goal.returns-clause-once
returns-clause-once g c = once_each (held c.args.self.now) c.args.tracked c.args.table c.args.at_ms c.requires.sizes c.requires.whole c.requires.tracked_fits c.requires.table_in_bounds
