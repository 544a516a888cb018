use Rattle.store.specs.Held.{read_rows}
use Rattle.fair_row.proofs.Amounts.{rates_turns}
use Rattle.fair_row.proofs.rates_turn.Goals as goal

pub returns : goal.returns
returns c =
    rw c.empty.ensures
    (rates_turns c.args.head (read_rows c.args.lent.now) c.args.lent.now.counted.now c.args.rate c.args.ceiling c.args.stamp c.set_rates-changing.result _ c.set_rates-changing.ensures.same_but_nan_bits c.answer_number.ensures)
