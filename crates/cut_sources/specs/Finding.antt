-- Which counted source a unit's cuts are counted under: the first that reads as the unit, overflow too. Statement only; proofs/Reading proves it.
use Rattle.std.specs.Prelude.{ℕ, List}
use Rattle.sender.specs.declared.Unit.{Unit}
use Rattle.sender.specs.Sender.{name_of}
use Rattle.store.specs.Laws.{FirstThatReads}
use Rattle.cut_sources.specs.Counted.{counted_find}

abbrev pub FindsSources : Type 0
FindsSources = (tags : List ℕ) (rows : List (List ℕ)) (u : Unit) (n : ℕ) → FirstThatReads tags rows u n (counted_find tags rows (name_of u) n)
