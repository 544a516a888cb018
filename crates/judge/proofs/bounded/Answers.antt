use Rattle.judge.proofs.Bounding.{bounded_is, ruling_is}
use Rattle.head.specs.Answers.{answer_number}
use Rattle.judge.specs.Judging.{answer_of}
use Rattle.std.proofs.Common.{◌≡◌, refl, sym, ◌∙◌, ap, rules, ℕ, List}
use Rattle.parts.specs.Held.{held}
use Rattle.scan.specs.Scanning.{scanning, scanned}
use Rattle.store.specs.Held.{lent_rows}
use Rattle.store.specs.Store.{Rows, with_tags}
use Rattle.wants.specs.Held.{wants_held}
use Rattle.judge.proofs.bounded.Goals as goal

pub returns-clause-memory_after : goal.returns-clause-memory_after
unfolding answer_of
returns-clause-memory_after c =
    let t : c.lent-5-1.given.0 ≡ c.judged-p.new.parts.tags.now = search rules in
    let s : c.lent-4-1.given.0 ≡ c.judged-p.new.parts.slots.now = search rules in
    let f : c.lent-3-1.given.0 ≡ c.judged-p.new.parts.free.now = search rules in
    let u : c.lent-2-1.given.0 ≡ c.judged-p.new.parts.units.now = search rules in
    let v : c.lent-1.given.0 ≡ c.judged-p.new.parts.uses.now = search rules in
    let t1 : c.lent-10-1.given.0 ≡ c.scanned-s.new.parts.tags.now = search rules in
    let s1 : c.lent-9-1.given.0 ≡ c.scanned-s.new.parts.slots.now = search rules in
    let f1 : c.lent-8-1.given.0 ≡ c.scanned-s.new.parts.free.now = search rules in
    let u1 : c.lent-7-1.given.0 ≡ c.scanned-s.new.parts.units.now = search rules in
    let v1 : c.lent-6-1.given.0 ≡ c.scanned-s.new.parts.uses.now = search rules in
    let e : lent_rows c.count_verdict-t.new.lent ≡ with_tags (held c.judged-p.new.parts) c.count_verdict-t.new.lent.tags.now = rw (s, f, u, v) at c.count_verdict-t.ensures.rows_after in
    rw (t1, s1, f1, u1, v1)
    (bounded_is c.args.head _ _ _ c.args.named.unit c.args.cost c.args.stamp c.later-clock.result c.numbers.result c.judged-p.result (held c.judged-p.new.parts) c.args.named.name c.count_verdict-t.result c.count_verdict-t.new.lent.tags.now _ c.scanned-s.result (held c.scanned-s.new.parts) _
    c.later-clock.ensures c.numbers.ensures c.judged-p.ensures.rows_after c.args.named.name_is (rw t at c.count_verdict-t.ensures.counted_after)
    (c.scanned-s.ensures.sums_after ∙ ap (λ (m : Rows). scanned (scanning c.count_verdict-t.result m (wants_held c.args.histogram.now)) c.later-clock.result) e))

pub returns-clause-answer_value : goal.returns-clause-answer_value
unfolding answer_number
returns-clause-answer_value c = refl

pub returns-clause-ruling_value : goal.returns-clause-ruling_value
returns-clause-ruling_value c =
    ruling_is c.args.head _ c.args.named.unit c.args.cost c.args.stamp c.later-clock.result c.numbers.result _ c.later-clock.ensures c.numbers.ensures c.judged-p.ensures.rule_value
