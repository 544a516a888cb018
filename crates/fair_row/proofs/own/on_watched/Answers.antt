use Rattle.fair_row.proofs.Watched.{told_own, told_shared}
use borrow.Author.Rules.{rules}
use mathlib.Core.Path.{◌≡◌, sym, ◌∙◌}
use Rattle.sender.specs.Sender.{Tells, is_overflow}
use Rattle.fair_row.proofs.own.on_watched.Goals as goal

pub returns-then-uses_own : goal.returns-then-uses_own
returns-then-uses_own c =
    let same : Tells c.eq.result (c.args.watched ≡ c.args.unit) = search rules in
    told_own _ _ _ _ _ _ (sym c.uses_own.ensures ∙ c.if-uses_own.true) same

pub returns : goal.returns
returns c =
    let is : c.is_overflow.result ≡ is_overflow c.args.watched = c.is_overflow.ensures in
    is ∙ told_shared _ _ _ c.args.watched _ (sym c.uses_own.ensures ∙ c.if-uses_own.false)
