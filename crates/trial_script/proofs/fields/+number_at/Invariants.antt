-- The measure is the index.
use Rattle.trial_script.proofs.fields.+number_at.Given as goal

abbrev pub decreases-number_at : goal.decreases-number_at
decreases-number_at l = l.k
