use Rattle.wants.specs.Held.{wants_held}
use Rattle.fair_row.specs.Replay.{call_of}
use Rattle.fair_row.proofs.Amounts.{read_turns}
use Rattle.fair_row.proofs.turn.Goals as goal

pub returns-in-Cut-clause-turns : goal.returns-in-Cut-clause-turns
unfolding call_of
returns-in-Cut-clause-turns c = rw c.in-Cut.is (c.cut_turn.ensures.turns _ _)

pub returns-in-Rates-clause-turns : goal.returns-in-Rates-clause-turns
unfolding call_of
returns-in-Rates-clause-turns c =
    let r = c.read.ensures in
    rw c.in-Rates.is
    (rw (r.tags_read, r.slots_read, r.offsets_read, r.free_read, r.units_read, r.uses_read, r.counted_read) at c.rates_turn.ensures c.args.watched (wants_held c.args.histogram.now))

pub returns-in-Read-clause-turns : goal.returns-in-Read-clause-turns
unfolding call_of
returns-in-Read-clause-turns c =
    let r = c.read-in-Read.ensures in
    rw (c.in-Read.is, c.empty.ensures)
    (read_turns _ _ _ _ _ (rw (r.tags_read, r.slots_read, r.offsets_read, r.free_read, r.units_read, r.uses_read, r.counted_read) at c.answer_reading-number.ensures.value (wants_held c.args.histogram.now)))

pub returns-in-Read-clause-out_after : goal.returns-in-Read-clause-out_after
unfolding call_of
returns-in-Read-clause-out_after c =
    let r = c.read-in-Read.ensures in
    rw c.in-Read.is (rw (r.tags_read, r.slots_read, r.offsets_read, r.free_read, r.units_read, r.uses_read, r.counted_read) at c.answer_reading-number.ensures.out_after (wants_held c.args.histogram.now))
