use Rattle.std.proofs.Common.{arith}
use Rattle.judge.specs.Lending.{lent_memory}
use Rattle.fair_row.proofs.Amounts.{judge_turns}
use Rattle.fair_row.proofs.judge_turn.Goals as goal

pub returns-clause-turns : goal.returns-clause-turns
returns-clause-turns c =
    rw c.empty-none.ensures
    (judge_turns c.args.head (lent_memory c.args.lent.now c.args.histogram.now) _ c.args.cost _ c.judge-judged.result _ c.args.watched c.on_watched-mine.result c.is_admitted.result _ _ _ _ (omega arith)
    (rw (c.read.ensures.tags_read, c.read.ensures.slots_read, c.read.ensures.offsets_read, c.read.ensures.free_read, c.read.ensures.units_read, c.read.ensures.uses_read, c.read.ensures.counted_read) at c.on_watched-mine.ensures)
    c.judge-judged.ensures.same_but_nan_bits c.answer_number.ensures c.is_admitted.ensures c.counted_if-admitted.ensures c.counted_if-admitted_on.ensures c.is_over_share-over_share.ensures)
