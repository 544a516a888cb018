-- `store_search::next_tagged` meets its contract. Assumes nothing.
use borrow.Author.Rules.{rules}
use Rattle.store.specs.Store.{has_tag}
use Rattle.store_search.proofs.next_tagged.Goals as goal

pub returns-clause-none : goal.returns-clause-none
unfolding has_tag
returns-clause-none c = λ k h l. let e = c.next.ensures.passed.none k h l in search rules
