-- `parts::Parts::drop_from` meets its contract. Assumes nothing.
use Rattle.std.proofs.Common.{ℕ, ◌+◌, ◌-◌, ◌≤◌, ◌∙◌, List, length, get_or, refl, ap, arith}
use Rattle.shifting.specs.Offsets.{from_on}
use Rattle.shifting.proofs.Whole.{whole_below, whole_mono}
use Rattle.parts.specs.Held.{held}
use Rattle.parts.proofs.Behind.{whole_lowered}
use Rattle.parts.proofs.Passing.{offsets_stay}
use Rattle.parts.proofs.Squeezing.{squeezed_left, squeezed_dropped}
use Rattle.parts.proofs.Parts.drop_from.Goals as goal

pub squeeze-j-requires-clause-to_le_n : goal.squeeze-j-requires-clause-to_le_n
squeeze-j-requires-clause-to_le_n g c = whole_below _ _ c.requires.whole (c.args.table + 1) (omega arith)

pub clear-requires-clause-b_in_bounds : goal.clear-requires-clause-b_in_bounds
clear-requires-clause-b_in_bounds g c = let b = whole_below _ _ c.requires.whole (c.args.table + 1) (omega arith) in omega arith

pub lower-requires-clause-d_le : goal.lower-requires-clause-d_le
lower-requires-clause-d_le g c =
    let e = offsets_stay (held c.args.self.now) (held c.args.self.now) (held c.squeeze-j.new.self) (held c.clear.new.self) _ _ refl c.squeeze-j.ensures.records.offsets c.clear.ensures.rows_after in
    λ k p q.
    let z : k ≤ 64 = omega (arith, ap (length {A = ℕ}) e) in
    omega (arith, ap (λ (l : List ℕ). get_or l k 0) e, whole_mono _ _ c.requires.whole (c.args.table + 1) k p z)

pub overflow_sub-result-2 : goal.overflow_sub-result-2
overflow_sub-result-2 g c = let b = whole_below _ _ c.requires.whole (c.args.table + 1) (omega arith) in omega arith

pub returns-clause-value : goal.returns-clause-value
returns-clause-value g c =
    squeezed_left (held c.args.self.now) c.args.tracked c.args.table c.args.at_ms c.requires.sizes c.requires.tracked_fits (c.requires.whole.rises c.args.table c.requires.table_in_bounds)
    (whole_below _ _ c.requires.whole (c.args.table + 1) (omega arith)) c.args.first c.requires.first_within.0 c.requires.first_within.1 c.requires.none
    c.squeeze-j.result (held c.squeeze-j.new.self) (held c.clear.new.self) c.squeeze-j.ensures.value

pub returns-clause-rows_after : goal.returns-clause-rows_after
returns-clause-rows_after g c =
    squeezed_dropped (held c.args.self.now) c.args.tracked c.args.table c.args.at_ms c.requires.sizes c.requires.tracked_fits (c.requires.whole.rises c.args.table c.requires.table_in_bounds)
    (whole_below _ _ c.requires.whole (c.args.table + 1) (omega arith)) c.args.first c.requires.first_within.0 c.requires.first_within.1 c.requires.none
    c.squeeze-j.result (held c.squeeze-j.new.self) (held c.clear.new.self) c.squeeze-j.ensures.value c.lower.new.starts
    c.squeeze-j.ensures.tags_after c.squeeze-j.ensures.slots_after c.squeeze-j.ensures.free_after
    c.squeeze-j.ensures.records.offsets c.squeeze-j.ensures.records.units c.squeeze-j.ensures.records.uses c.clear.ensures.rows_after c.lower.ensures

pub returns-clause-whole_after : goal.returns-clause-whole_after
returns-clause-whole_after g c =
    let e = offsets_stay (held c.args.self.now) (held c.args.self.now) (held c.squeeze-j.new.self) (held c.clear.new.self) _ _ refl c.squeeze-j.ensures.records.offsets c.clear.ensures.rows_after in
    whole_lowered c.args.self.now.offsets.now c.lower.new.starts c.args.tracked c.args.table (get_or c.args.self.now.offsets.now (c.args.table + 1) 0 - c.squeeze-j.result) (omega arith) c.requires.whole c.requires.table_in_bounds (omega arith)
    (c.lower.ensures ∙ ap (λ (x : List ℕ). from_on (λ (o : ℕ). o - (get_or c.args.self.now.offsets.now (c.args.table + 1) 0 - c.squeeze-j.result)) x (c.args.table + 1)) e)

pub returns-clause-cost : goal.returns-clause-cost
returns-clause-cost g c = let b = whole_below _ _ c.requires.whole (c.args.table + 1) (omega arith) in omega arith
