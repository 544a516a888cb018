-- `fields::number_at` meets its contract, by cases on the index.
use mathlib.Core.Path.{ap, ◌∙◌}
use Prim.Native.Nat.{◌-◌}
use Rattle.trial_script.specs.Fields as fields
use Rattle.trial_script.proofs.Walking.{at_none, at_more}
use Rattle.trial_script.proofs.fields.+number_at.Goals as goal

pub returns-then-k-eq0 : goal.returns-then-k-eq0
returns-then-k-eq0 t c = c.number_in.ensures ∙ ap fields.number_in c.split.ensures.first ∙ at_none c.args.s.now _ c.if-k-eq0.true

pub returns-else-k-eq0 : goal.returns-else-k-eq0
returns-else-k-eq0 t c =
    c.number_at.ensures ∙ ap (fields.number_at (c.args.k - 1)) c.split.ensures.rest ∙ at_more c.args.s.now _ c.if-k-eq0.false
