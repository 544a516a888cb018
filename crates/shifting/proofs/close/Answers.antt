-- `shifting::close` meets its contract. Assumes nothing.
use Rattle.std.proofs.Common.{◌∙◌}
use Rattle.shifting.proofs.Closing.{closes}
use Rattle.shifting.proofs.close.Goals as goal

pub returns : goal.returns
returns g c = c.clear.ensures ∙ rw c.copy_within.ensures.after (closes _ _ _ _ _ c.requires.j_le_to c.requires.to_le_n c.requires.n_in_bounds)
