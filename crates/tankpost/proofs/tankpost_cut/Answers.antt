use Rattle.std.proofs.Common.{◌≡◌, rules}
use Rattle.tankpost.proofs.Told.{cut_tells}
use Rattle.tankpost.proofs.tankpost_cut.Goals as goal

pub returns : goal.returns
returns c =
    let tags_are : c.tags-1.given.0 ≡ c.cut-c.new.lent.tags.now = search rules in
    let slots_are : c.slots-1.given.0 ≡ c.cut-c.new.lent.slots.now = search rules in
    let offsets_are : c.offsets-1.given.0 ≡ c.cut-c.new.lent.offsets.now = search rules in
    let free_are : c.free-1.given.0 ≡ c.cut-c.new.lent.free.now = search rules in
    let units_are : c.units-1.given.0 ≡ c.cut-c.new.lent.units.now = search rules in
    let uses_are : c.uses-1.given.0 ≡ c.cut-c.new.lent.uses.now = search rules in
    let counted_are : c.counted-1.given.0 ≡ c.cut-c.new.lent.counted.now = search rules in
    rw (tags_are, slots_are, offsets_are, free_are, units_are, uses_are, counted_are) (λ g. cut_tells _ _ g _ _ _ _ _ _ _ _ _ _ c.cut-c.ensures.same_but_nan_bits c.from.ensures c.cause_of.ensures c.answer_number.ensures)
