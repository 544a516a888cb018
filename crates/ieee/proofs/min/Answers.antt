-- `ieee::min` meets its contract: each arm returns what `cond` picks where the tests came out so. Assumes nothing.
use Rattle.std.proofs.Common.{sym, ◌∙◌}
use mathlib.Core.Bool.{true≢false}
use Rattle.ieee.proofs.Extremes.{least_by_tests}
use Rattle.ieee.proofs.min.Goals.{then-is_nan, else-is_nan}
use Rattle.ieee.proofs.min.Goals as goal

pub returns-then-y-x : goal.returns-then-y-x
returns-then-y-x c =
    rw (least_by_tests, sym c.is_nan.ensures.value)
    (elim c.if-is_nan.branch [ then-is_nan w ↦ simp w.if-is_nan.true | else-is_nan w ↦ simp (w.if-is_nan.false, sym w.value-is ∙ c.if-y-x.true) ])

pub returns-else-y-x : goal.returns-else-y-x
returns-else-y-x c =
    rw (least_by_tests, sym c.is_nan.ensures.value)
    (elim c.if-is_nan.branch [ then-is_nan w ↦ absurd (true≢false (sym w.if-is_nan.true ∙ sym w.value-is ∙ c.if-y-x.false)) | else-is_nan w ↦ simp (w.if-is_nan.false, sym w.value-is ∙ c.if-y-x.false) ])
