use Rattle.scan.specs.Scanning.{ended}
use Rattle.std.proofs.Common.{eq-eqb, ne_eqb}
use Rattle.scan.proofs.ended.Goals as goal

pub returns-then-h-eq0 : goal.returns-then-h-eq0
unfolding ended
returns-then-h-eq0 c = simp (eq-eqb _ _ c.if-h-eq0.true) c.trimmed.ensures

pub returns-else-h-eq0 : goal.returns-else-h-eq0
unfolding ended
returns-else-h-eq0 c = simp (ne_eqb _ _ c.if-h-eq0.false)
