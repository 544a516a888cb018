-- `report_ranking::first_after` meets its contract: the one found by words, where it is the one by tags, or that. Assumes nothing.
use Rattle.report_ranking.proofs.Found.{found_own, found_tagged, tagged_own}
use Rattle.report_ranking.proofs.first_after.Goals as goal

pub returns-then-is_own_or_none-2-clause-value : goal.returns-then-is_own_or_none-2-clause-value
returns-then-is_own_or_none-2-clause-value c =
    found_own _ _ _ _ c.requires.n_in_bounds c.requires.n_in_bounds_2 _ c.first_taken-best.ensures.upper_bound
    (c.is_own_or_none-then-is_own_or_none.ensures c.if-is_own_or_none-2.true) c.first_taken-best.ensures.value

pub first_taken-requires-clause-p_own : goal.first_taken-requires-clause-p_own
first_taken-requires-clause-p_own c = tagged_own _ _ _

pub returns-clause-value : goal.returns-clause-value
returns-clause-value c = found_tagged _ _ _ _ c.requires.n_in_bounds c.requires.n_in_bounds_2 _ c.first_taken.ensures.upper_bound c.first_taken.ensures.value
