use Rattle.std.proofs.Common.{◌≡◌, rules}
use Rattle.judge.specs.Judging.{memory}
use Rattle.tankpost.proofs.Told.{judge_tells}
use Rattle.tankpost.proofs.tankpost_judge.Goals as goal

pub returns : goal.returns
returns c =
    let tags_are : c.tags-1.given.0 ≡ c.judge-j.new.lent.tags.now = search rules in
    let slots_are : c.slots-1.given.0 ≡ c.judge-j.new.lent.slots.now = search rules in
    let offsets_are : c.offsets-1.given.0 ≡ c.judge-j.new.lent.offsets.now = search rules in
    let free_are : c.free-1.given.0 ≡ c.judge-j.new.lent.free.now = search rules in
    let units_are : c.units-1.given.0 ≡ c.judge-j.new.lent.units.now = search rules in
    let uses_are : c.uses-1.given.0 ≡ c.judge-j.new.lent.uses.now = search rules in
    let counted_are : c.counted-1.given.0 ≡ c.judge-j.new.lent.counted.now = search rules in
    let counts_are : c.counts-1.given.0 ≡ c.judge-j.new.histogram.counts.now = search rules in
    let sums_are : c.sums-1.given.0 ≡ c.judge-j.new.histogram.sums.now = search rules in
    rw (tags_are, slots_are, offsets_are, free_are, units_are, uses_are, counted_are, counts_are, sums_are) (judge_tells _ _ _ _ _ _ _ _ _ (memory _ _ _) _ c.judge-j.ensures.same_but_nan_bits c.judge-j.ensures.same_but_nan_bits_2 c.from.ensures
    c.decision_of.ensures)
