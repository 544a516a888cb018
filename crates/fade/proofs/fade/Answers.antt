-- `fade::fade` meets its contract: before the end the product of two entries, from there on 0. Assumes nothing.
use lib.Ieee.{binary64, of_bits, mul}
use Rattle.std.proofs.Common.{sym, ap₂, ◌∙◌}
use Rattle.fade.proofs.Sides.{during, after}
use Rattle.fade.proofs.fade.Goals as goal

pub returns-then-d-lt-END : goal.returns-then-d-lt-END
returns-then-d-lt-END c =
    ap₂ (mul binary64) c.short.ensures c.far.ensures ∙ sym (during c.args.d c.if-d-lt-END.true)

pub returns-else-d-lt-END : goal.returns-else-d-lt-END
unfolding of_bits
returns-else-d-lt-END c = sym (after c.args.d c.if-d-lt-END.false)
