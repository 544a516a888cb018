-- `parts::Parts::insert` meets its contract. Assumes nothing.
use Rattle.std.proofs.Common.{◌+◌, ◌≤◌, ap, ◌∙◌, sym, arith}
use Rattle.shifting.proofs.Whole.{whole_below}
use Rattle.parts.specs.Parts.{Rows, added}
use Rattle.parts.proofs.Behind.{behind_inserted, whole_raised}
use Rattle.parts.proofs.Parts.insert.Goals as goal

pub insert-requires-clause-p_le_n : goal.insert-requires-clause-p_le_n
insert-requires-clause-p_le_n c = whole_below _ _ c.requires.whole (c.table_of_tag-table.result + 1) (omega arith)

pub insert-requires-2-clause-p_le_n : goal.insert-requires-2-clause-p_le_n
insert-requires-2-clause-p_le_n c = whole_below _ _ c.requires.whole (c.table_of_tag-table.result + 1) (omega arith)

pub raise-requires-clause-fits : goal.raise-requires-clause-fits
raise-requires-clause-fits c = λ k h l. let z : k ≤ 64 = omega arith in omega (arith, whole_below _ _ c.requires.whole k z)

pub returns-clause-rows_after : goal.returns-clause-rows_after
unfolding added
returns-clause-rows_after c =
    let t = c.table_of_tag-table.ensures.0 in
    c.write.ensures.rows_after ∙ simp (sym t, c.insert.ensures, c.insert-2.ensures, c.raise.ensures, sym c.slot_of.ensures.value)

pub returns-clause-upper_bound : goal.returns-clause-upper_bound
returns-clause-upper_bound c = whole_below _ _ c.requires.whole (c.table_of_tag-table.result + 1) (omega arith)

pub returns-clause-tags_behind : goal.returns-clause-tags_behind
returns-clause-tags_behind c =
    behind_inserted _ _ _ _ _ _ (ap (λ (m : Rows). m.tags) c.write.ensures.rows_after ∙ c.insert.ensures) (returns-clause-upper_bound c) c.requires.some_free c.requires.sizes.tags

pub returns-clause-whole_after : goal.returns-clause-whole_after
returns-clause-whole_after c =
    whole_raised _ _ c.args.tracked c.table_of_tag-table.result (omega arith) c.requires.whole (omega arith) (ap (λ (m : Rows). m.offsets) c.write.ensures.rows_after ∙ c.raise.ensures)
