-- `shifting::rises` meets its contract. Assumes nothing.
use Rattle.std.proofs.Common.{◌≡◌, ap, sym, ◌∙◌, arith, ◌&&◌, Bool, nat_le, get_or, ◌+◌}
use Rattle.shifting.specs.Offsets.{rising}
use Rattle.shifting.proofs.Whole.{rising_none, rising_next}
use Rattle.shifting.proofs.offsets.rises.Goals as goal

pub loop-k-init : goal.loop-k-init
loop-k-init c = rising_none _

pub loop-k-preserved : goal.loop-k-preserved
loop-k-preserved c = ap (λ (b : Bool). b && nat_le (get_or c.args.starts.now c.loop-k.k 0) (get_or c.args.starts.now (c.loop-k.k + 1) 0)) c.loop-k.invariant ∙ sym (rising_next _ _)

pub returns : goal.returns
returns c = let e : c.loop-k.k ≡ 64 = omega arith in c.loop-k.invariant ∙ ap (rising _) e
