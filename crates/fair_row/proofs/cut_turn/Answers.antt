use Rattle.std.proofs.Common.{arith}
use Rattle.store.specs.Held.{lent_rows}
use Rattle.fair_row.proofs.Amounts.{cut_turns}
use Rattle.fair_row.proofs.cut_turn.Goals as goal

pub returns-clause-turns : goal.returns-clause-turns
returns-clause-turns c =
    rw c.empty-none.ensures
    (cut_turns c.args.head (lent_rows c.args.lent.now) c.args.lent.now.counted.now _ _ c.args.cost c.cut-cut.result _ _ c.is_hand_back.result _ _ (omega arith) c.cut-cut.ensures.same_but_nan_bits c.answer_number.ensures c.is_hand_back.ensures c.counted_if-handed.ensures)
