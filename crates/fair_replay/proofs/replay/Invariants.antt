use Rattle.store.specs.Held.{SameLent}
use Rattle.wants.specs.Held.{SameArrays}
use Rattle.fair_row.specs.Replay.{held_lent, run as steps}
use Rattle.fair_replay.specs.Runs.{Ran}
use Rattle.fair_replay.proofs.replay.Given as goal

abbrev pub invariant-loop-i : goal.invariant-loop-i
invariant-loop-i l =
    Ran l.watched (held_lent l.initial.run.head l.initial.lent l.initial.histogram) (steps (held_lent l.initial.run.head l.initial.lent l.initial.histogram) l.from l.initial.out l.list l.i) l.run
    (held_lent l.run.head l.lent l.histogram) l.out
    × SameLent l.initial.lent l.lent × SameArrays l.initial.histogram l.histogram
