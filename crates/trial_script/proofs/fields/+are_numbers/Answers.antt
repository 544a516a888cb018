-- `fields::are_numbers` meets its contract, by cases on how many are left and on the first field.
use mathlib.Core.Path.{sym, ap, ◌∙◌}
use Prim.Native.Nat.{◌-◌}
use Rattle.trial_script.specs.Fields as fields
use Rattle.trial_script.proofs.Walking.{are_none, are_more}
use Rattle.trial_script.proofs.fields.+are_numbers.Goals as goal

pub returns-then-more-eq0 : goal.returns-then-more-eq0
returns-then-more-eq0 t c = c.is_number.ensures ∙ are_none c.args.s.now _ c.if-more-eq0.true

pub returns-then-not-is_number : goal.returns-then-not-is_number
returns-then-not-is_number t c =
    sym (are_more c.args.s.now _ c.if-more-eq0.false ∙ simp (ap fields.is_number (sym c.split.ensures.first) ∙ sym c.is_number-2.ensures ∙ c.if-not-is_number.true))

pub returns : goal.returns
returns t c =
    c.are_numbers.ensures ∙ ap (fields.are_numbers (c.args.more - 1)) c.split.ensures.rest
    ∙ sym (are_more c.args.s.now _ c.if-more-eq0.false ∙ simp (ap fields.is_number (sym c.split.ensures.first) ∙ sym c.is_number-2.ensures ∙ c.if-not-is_number.false))
