use Rattle.fair_row.specs.Replay.{own_used}
use Rattle.fair_row.proofs.Watched.{searchable}
use mathlib.Core.Path.{sym, ap, ◌∙◌}
use Rattle.std.specs.Option.{is_some}
use borrow.Author.Tests.{lt-ltb, le-ltb}
use native.Mathlib.Omega.{arith}
use Rattle.fair_row.proofs.own.uses_own.Goals as goal

pub returns-then-is_overflow : goal.returns-then-is_overflow
unfolding own_used
returns-then-is_overflow c = simp (sym c.is_overflow.ensures ∙ c.if-is_overflow.true)

pub returns-then-head : goal.returns-then-head
unfolding own_used
returns-then-head c =
    let head = c.args.head in
    simp (sym c.is_overflow.ensures ∙ c.if-is_overflow.false, lt-ltb head.tracked head.unit_room (omega (arith, c.if-head.true)))

pub returns-then-not-is_held : goal.returns-then-not-is_held
unfolding own_used
returns-then-not-is_held c =
    simp (sym c.is_overflow.ensures ∙ c.if-is_overflow.false, le-ltb _ _ c.if-head.false, sym c.is_held.ensures ∙ c.if-not-is_held.true)

pub find_in-requires-clause-some : goal.find_in-requires-clause-some
find_in-requires-clause-some c = (searchable c.args.head _ _ _ c.is_held.ensures c.if-not-is_held.false).some

pub find_in-requires-clause-whole : goal.find_in-requires-clause-whole
find_in-requires-clause-whole c = (searchable c.args.head _ _ _ c.is_held.ensures c.if-not-is_held.false).whole

pub find_in-requires-clause-tags_room : goal.find_in-requires-clause-tags_room
find_in-requires-clause-tags_room c = (searchable c.args.head _ _ _ c.is_held.ensures c.if-not-is_held.false).tags

pub find_in-requires-clause-slots_room : goal.find_in-requires-clause-slots_room
find_in-requires-clause-slots_room c = (searchable c.args.head _ _ _ c.is_held.ensures c.if-not-is_held.false).slots

pub returns : goal.returns
unfolding own_used
returns c =
    let over = sym c.is_overflow.ensures ∙ c.if-is_overflow.false in
    simp (over, le-ltb _ _ c.if-head.false, sym c.is_held.ensures ∙ c.if-not-is_held.false)
    (c.is_some.ensures ∙ ap is_some (rw c.name_of-name.ensures at c.find_in.ensures.value _ _))
