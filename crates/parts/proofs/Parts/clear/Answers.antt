-- `parts::Parts::clear` meets its contract. Assumes nothing.
use Rattle.std.proofs.Common.{ap, ◌∙◌, arith, rules}
use Rattle.parts.specs.Held.{held}
use Rattle.parts.specs.Parts.{Rows, cleared_one}
use Rattle.parts.proofs.Clearing.{rows_none, rows_turn}
use Rattle.parts.proofs.Parts.clear.Goals as goal

pub loop-k-init : goal.loop-k-init
loop-k-init c = record { slices = search rules; rows = rows_none _ _ }

pub loop-k-preserved : goal.loop-k-preserved
loop-k-preserved c = record {
  slices = search rules;
  rows = c.clear_one.ensures.rows_after ∙ ap (λ (m : Rows). cleared_one m c.loop-k.k) c.loop-k.invariant.rows ∙ rows_turn (held c.args.self.now) _ _ (omega arith) (omega arith) c.requires.sizes.uses;
}
