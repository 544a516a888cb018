-- The loop's invariant: the rest of the reading gives what the whole gives, and the number has as many digits as were read.
use mathlib.Core.Path.{◌≡◌}
use Prim.Native.Nat.{◌-◌, ◌^◌, ◌<◌}
use Rattle.label_parse.specs.Parse.{field, from}
use Rattle.label_parse.proofs.field_at.Given as goal

abbrev pub invariant-loop-at : goal.invariant-loop-at
invariant-loop-at l = record {
  same : field l.base (l.end - l.at) l.s (record { value = l.value; at = l.at }) ≡ field l.base l.most l.s (from l.start);
  within : l.value < l.base ^ (l.at - l.start);
}
