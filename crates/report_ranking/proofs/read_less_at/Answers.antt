-- `report_ranking::read_less_at` meets its contract: keys by their words, other labels as texts. Assumes nothing.
use mathlib.Core.Path.{sym, ◌∙◌}
use Rattle.report_ranking.proofs.Keys.{both_keys, first_key, second_key}
use Rattle.report_ranking.proofs.read_less_at.Goals as goal

pub returns-in-Corroborated-y : goal.returns-in-Corroborated-y
returns-in-Corroborated-y c =
    c.key_less.ensures ∙ both_keys _ _ _ _ (sym c.unit_at.ensures ∙ c.in-Corroborated.is) (sym c.unit_at-y.ensures ∙ c.in-Corroborated-y.is)

pub returns-in_default-y : goal.returns-in_default-y
returns-in_default-y c = first_key _ _ _ (sym c.unit_at.ensures ∙ c.in-Corroborated.is) (λ l e. c.in_default-y.not-Corroborated l (c.unit_at-y.ensures ∙ e))

pub returns-in-Corroborated-y-2 : goal.returns-in-Corroborated-y-2
returns-in-Corroborated-y-2 c = second_key _ _ _ (λ k e. c.in_default.not-Corroborated k (c.unit_at.ensures ∙ e)) (sym c.unit_at-y.ensures ∙ c.in-Corroborated-y-2.is)
