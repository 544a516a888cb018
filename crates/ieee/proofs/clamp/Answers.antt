-- `ieee::clamp` meets its contract: each arm returns what `cond` picks where the tests came out so. Assumes nothing.
use Rattle.ieee.proofs.clamp.Goals.{then-x-low, else-x-low}
use Rattle.ieee.proofs.clamp.Goals as goal

pub returns-then-high-raised : goal.returns-then-high-raised
returns-then-high-raised c = elim c.if-x-low.branch [ then-x-low w ↦ simp (w.if-x-low.true, rw w.raised-is at c.if-high-raised.true) | else-x-low w ↦ simp (w.if-x-low.false, rw w.raised-is at c.if-high-raised.true) ]

pub returns-else-high-raised : goal.returns-else-high-raised
returns-else-high-raised c = elim c.if-x-low.branch [ then-x-low w ↦ simp (w.raised-is, w.if-x-low.true, rw w.raised-is at c.if-high-raised.false) | else-x-low w ↦ simp (w.raised-is, w.if-x-low.false, rw w.raised-is at c.if-high-raised.false) ]
