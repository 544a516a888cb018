-- `report_ranking::is_own` meets its contract: a key that reads as a key, or no key. Assumes nothing.
use mathlib.Core.Path.{◌≡◌, sym, ap, ◌∙◌}
use mathlib.Core.Bool.{Bool, true, false, not}
use Rattle.sender.specs.Sender.{is_overflow}
use Rattle.report_ranking.proofs.Taken.{own_key_read, own_other}
use Rattle.report_ranking.proofs.is_own.Goals as goal

not_true : (b : Bool) → not b ≡ true → b ≡ false
not_true true e = sym e
not_true false e = mathlib.Core.Path.refl

pub returns-in-Corroborated : goal.returns-in-Corroborated
returns-in-Corroborated c = λ e. own_key_read _ _ _ c.requires.i_in_bounds c.requires.i_in_bounds_2 (sym (c.is_overflow.ensures ∙ ap is_overflow c.unit_at.ensures) ∙ not_true _ e)

pub returns-in_default : goal.returns-in_default
returns-in_default c = λ e. own_other _ _ _ c.requires.i_in_bounds c.requires.i_in_bounds_2 (λ k f. c.in_default.not-Corroborated k (c.from.ensures ∙ ap Rattle.sender.specs.Sender.unit_of c.words_at.ensures ∙ f))
