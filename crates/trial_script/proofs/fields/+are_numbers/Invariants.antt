-- The measure is the numbers left.
use Rattle.trial_script.proofs.fields.+are_numbers.Given as goal

abbrev pub decreases-are_numbers : goal.decreases-are_numbers
decreases-are_numbers l = l.more
