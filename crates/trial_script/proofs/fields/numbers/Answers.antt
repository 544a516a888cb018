-- `fields::numbers` meets its contract.
use mathlib.Core.Path.{◌≡◌, sym, ap, ◌∙◌}
use Prim.Native.Nat.{suc, ◌-◌}
use native.Mathlib.Omega.{arith}
use Rattle.std.proofs.lemmas.List.{length-set}
use Rattle.trial_script.specs.Fields.{is_number, are_numbers, number_in}
use Rattle.trial_script.proofs.Walking.{are_go, are_stop, are_last, values_go, values_last}
use Rattle.trial_script.proofs.Reading.{number_first}
use Rattle.trial_script.proofs.fields.numbers.Goals as goal

pub loop-k-preserved : goal.loop-k-preserved
loop-k-preserved g c =
    let is = ap is_number (sym c.split.ensures.first) ∙ c.in_ok-numbers.ensures.0 in
    let value = c.in_ok-numbers.ensures.1 ∙ ap number_in c.split.ensures.first in
    record {
      room = length-set _ _ _ ∙ c.loop-k.invariant.room;
      are = ap (are_numbers _) c.split.ensures.rest ∙ are_go c.loop-k.left.now _ c.loop-k.k (omega arith) is ∙ c.loop-k.invariant.are;
      values = rw (← c.split.ensures.rest) at (values_go c.loop-k.left.now (g.row.N - 1) c.loop-k.k (omega arith) c.loop-k.numbers _ _ (omega (arith, c.loop-k.invariant.room)) value c.loop-k.invariant.values);
    }

pub returns-in_err-numbers : goal.returns-in_err-numbers
returns-in_err-numbers g c =
    let no = ap is_number (sym c.split.ensures.first) ∙ c.in_err-numbers.ensures in
    rw c.from_residual.ensures (sym c.loop-k.invariant.are ∙ are_stop c.loop-k.left.now _ c.loop-k.k (omega arith) no)

pub returns-in_err-numbers-2 : goal.returns-in_err-numbers-2
returns-in_err-numbers-2 g c =
    rw c.from_residual-in_err-numbers-2.ensures
    (sym c.loop-k.invariant.are ∙ are_last c.loop-k.left.now _ c.loop-k.k (omega arith) (omega arith) ∙ c.in_err-numbers-2.ensures)

pub returns : goal.returns
returns g c =
    let is = c.in_ok-numbers-2.ensures.0 in
    let whole : suc (g.row.N - 1) ≡ g.row.N = omega arith in (
      sym c.loop-k.invariant.are ∙ are_last c.loop-k.left.now _ c.loop-k.k (omega arith) (omega arith) ∙ is,
      rw whole at (values_last c.loop-k.left.now (g.row.N - 1) c.loop-k.k (omega arith) (omega arith) c.loop-k.numbers _ _ c.loop-k.invariant.room
          (number_first _ is) c.in_ok-numbers-2.ensures.1 c.loop-k.invariant.values),
    )
