-- `text::page::copy` meets its contract. The loop's invariant: out is what it was with the first i bytes of the text copied in from at.
use mathlib.Core.Path.{◌≡◌}
use lib.ListN.{length}
use lib.Seq.{paste}
use Rattle.text.proofs.page.copy.Given as goal

abbrev pub invariant-loop-i : goal.invariant-loop-i
invariant-loop-i l = (l.out ≡ paste l.initial.out l.at l.text l.i) × (length l.out ≡ length l.initial.out)
