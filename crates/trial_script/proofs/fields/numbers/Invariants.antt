-- The loop's invariant: what was read and what is left make the whole.
use mathlib.Core.Path.{◌≡◌}
use mathlib.Core.List.{◌++◌}
use Prim.Native.Nat.{suc, ◌-◌}
use lib.ListN.{length, take}
use Rattle.trial_script.specs.Fields.{are_numbers, numbers}
use Rattle.trial_script.proofs.fields.numbers.Given as goal

abbrev pub invariant-loop-k : goal.invariant-loop-k
invariant-loop-k g l = record {
  room : length l.numbers ≡ suc l.last;
  are : are_numbers (l.last - l.k) l.left ≡ are_numbers l.last l.s;
  values : take l.k l.numbers ++ numbers (suc l.last - l.k) l.left ≡ numbers (suc l.last) l.s;
}
