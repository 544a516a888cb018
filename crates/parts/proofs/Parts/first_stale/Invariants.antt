-- `parts::Parts::first_stale` meets its contract. Assumes nothing.
use Rattle.store.specs.Store.{None}
use Rattle.parts.specs.Parts.{goes}
use Rattle.parts.proofs.Parts.first_stale.Given as goal

abbrev pub invariant-loop-i : goal.invariant-loop-i
invariant-loop-i l = None (goes l.self.slots.now l.self.units.now l.at_ms) l.from l.i
