use Rattle.judge.specs.Judging.{admitted_then}
use mathlib.Core.Path.{sym}
use Rattle.judge.proofs.admitted_then.Goals as goal

pub returns-then-is_admitted : goal.returns-then-is_admitted
unfolding admitted_then
returns-then-is_admitted c = simp (sym c.is_admitted.ensures, c.if-is_admitted.true) c.raised.ensures

pub returns-else-is_admitted : goal.returns-else-is_admitted
unfolding admitted_then
returns-else-is_admitted c = simp (sym c.is_admitted.ensures, c.if-is_admitted.false)
