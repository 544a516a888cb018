-- `ieee::max` meets its contract: each arm returns what `cond` picks where the tests came out so. Assumes nothing.
use Rattle.std.proofs.Common.{sym, ◌∙◌}
use mathlib.Core.Bool.{true≢false}
use Rattle.ieee.proofs.Extremes.{most_by_tests}
use Rattle.ieee.proofs.max.Goals.{then-is_nan, else-is_nan}
use Rattle.ieee.proofs.max.Goals as goal

pub returns-then-x-y : goal.returns-then-x-y
returns-then-x-y c =
    rw (most_by_tests, sym c.is_nan.ensures.value)
    (elim c.if-is_nan.branch [ then-is_nan w ↦ simp w.if-is_nan.true | else-is_nan w ↦ simp (w.if-is_nan.false, sym w.value-is ∙ c.if-x-y.true) ])

pub returns-else-x-y : goal.returns-else-x-y
returns-else-x-y c =
    rw (most_by_tests, sym c.is_nan.ensures.value)
    (elim c.if-is_nan.branch [ then-is_nan w ↦ absurd (true≢false (sym w.if-is_nan.true ∙ sym w.value-is ∙ c.if-x-y.false)) | else-is_nan w ↦ simp (w.if-is_nan.false, sym w.value-is ∙ c.if-x-y.false) ])
