use Rattle.std.proofs.Common.{◌≡◌, refl, rules}
use Rattle.tankpost.proofs.Told.{start_tells}
use Rattle.tankpost.proofs.tankpost_start_const.Goals as goal

pub returns : goal.returns
returns c =
    let same = c.start-s.ensures.slices in
    let offsets_are : c.offsets-1.given.0 ≡ c.start-s.new.lent.offsets.now = search rules in
    let free_are : c.free-1.given.0 ≡ c.start-s.new.lent.free.now = search rules in
    let counts_are : c.counts-1.given.0 ≡ c.start-s.new.histogram.counts.now = search rules in
    let sums_are : c.sums-1.given.0 ≡ c.start-s.new.histogram.sums.now = search rules in
    rw (offsets_are, free_are, counts_are, sums_are) (start_tells _ _ _ _ _ _ _ _ _ _ _ (rw (same.tags_same, same.slots_same, same.units_same, same.uses_same) at c.start-s.ensures.same_but_nan_bits) refl c.answer_number.ensures)
