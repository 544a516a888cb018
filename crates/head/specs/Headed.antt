-- The head with other parts. Definitions only.
use Rattle.std.specs.Prelude.{ℕ}
use Rattle.flow.specs.declared.Use.{Use}
use Rattle.head.specs.declared.Flow.{Flow}
use Rattle.head.specs.declared.Shedder.{Shedder}

-- other flow, overflow's use, and number of records
abbrev pub headed : Shedder → Flow → Use → ℕ → Shedder
headed h f o tracked = record {
  flow = f;
  overflow = o;
  scan = h.scan;
  visits = h.visits;
  level = h.level;
  batches = h.batches;
  receptions = h.receptions;
  tracked = tracked;
  counted = h.counted;
  unit_room = h.unit_room;
  counted_room = h.counted_room;
}
