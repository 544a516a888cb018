-- The lent memory of a judgement: what the slices and arrays that it is lent hold. Definitions only.
use Rattle.store.specs.declared.lent.Lent.{Lent}
use Rattle.store.specs.Held.{lent_rows}
use Rattle.wants.specs.declared.Histogram.{Histogram}
use Rattle.wants.specs.Held.{wants_held}
use Rattle.judge.specs.Judging.{Memory, memory}

abbrev pub lent_memory : Lent → Histogram → Memory
lent_memory l g = memory (lent_rows l) (wants_held g) l.counted.now
