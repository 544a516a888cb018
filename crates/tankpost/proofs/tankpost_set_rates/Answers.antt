use Rattle.tankpost.proofs.Told.{rates_tells}
use Rattle.tankpost.proofs.tankpost_set_rates.Goals as goal

pub returns : goal.returns
returns c g = rates_tells _ _ g _ _ _ _ _ _ c.set_rates-c.ensures.same_but_nan_bits c.answer_number.ensures
