-- `report_ranking::label_follows` meets its contract: by words where that says so, or both tags are own, else by tags. Assumes nothing.
use mathlib.Core.Path.{refl, ◌∙◌}
use mathlib.Core.Bool.{true}
use Rattle.report_ranking.proofs.Found.{follows_true, follows_tagged, follows_own}
use Rattle.report_ranking.proofs.label_follows.Goals.{then-follows-via-then-follows, then-follows-via-else-follows+then-tagged, then-follows-via-else-follows+else-tagged+then-is_own}
use Rattle.report_ranking.proofs.label_follows.Goals as goal

pub returns-then-follows : goal.returns-then-follows
returns-then-follows c = elim c.then-follows.branch [
  | then-follows-via-then-follows w ↦ follows_true _ _ _ _ _ _ c.requires.p_own c.requires.i_in_bounds c.requires.i_in_bounds_2 w.if-follows.true c.label_precedes-follows.ensures
  | then-follows-via-else-follows+then-tagged w ↦ c.label_precedes-follows.ensures ∙ follows_tagged _ _ _ _ _ w.if-tagged.true
  | then-follows-via-else-follows+else-tagged+then-is_own w ↦ c.label_precedes-follows.ensures ∙ follows_own _ _ _ _ _ c.requires.p_own (w.is_own.ensures w.if-is_own.true)
]

pub returns : goal.returns
returns c = c.label_precedes.ensures ∙ follows_tagged _ _ _ _ true refl
