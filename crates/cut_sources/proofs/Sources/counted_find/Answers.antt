-- `cut_sources::Sources::counted_find` meets its contract. Assumes nothing.
use borrow.Author.Rules.{rules}
use mathlib.Core.Path.{ap, sym, ◌∙◌}
use Rattle.sender.specs.Sender.{name_of, reads}
use Rattle.sender.proofs.Reading.{is_shared}
use Rattle.sender.specs.declared.Name.{Name}
use Rattle.store.specs.Store.{first, has_tag, same, words_at}
use Rattle.store.specs.Found.{found}
use Rattle.store_search.proofs.Finding.{first_of}
use Rattle.cut_sources.specs.Counted.{counted_find}
use Rattle.cut_sources.proofs.Reading.{raw_at, find_own}
use Rattle.cut_sources.proofs.Sources.counted_find.Goals as goal

pub returns-then-is_overflow-clause-value : goal.returns-then-is_overflow-clause-value
returns-then-is_overflow-clause-value c =
    let w = c.args.named.name_is ∙ ap name_of (is_shared c.args.named.unit (sym c.is_overflow.ensures ∙ c.if-is_overflow.true)) in
    c.find_shared.ensures.value
    ∙ ap (λ (x : Name). found c.args.n (counted_find c.args.self.now.tags.now c.args.self.now.counted.now x c.args.n)) (sym w)

pub returns-clause-value : goal.returns-clause-value
unfolding has_tag
returns-clause-value c =
    let t = c.args.self.now.tags.now in
    let r = c.args.self.now.counted.now in
    let w = c.args.named.name_is in
    first_of (has_tag t c.args.named.name.tag) (λ k. same (words_at r k) c.args.named.name.words) c.args.n
    c.find_tagged.result c.find_tagged.ensures.value c.find_tagged.ensures.upper_bound
    (λ w k l t. let e = w k l t in search rules)
    (λ i b w. let e = w.0.1 in ((w.0.0, search rules), λ k l t. let e = w.1 k l t in search rules))
    ∙ ap (λ (x : Name). found c.args.n (first (raw_at t r x) c.args.n)) w
    ∙ ap (found c.args.n) (find_own t r c.args.named.unit c.args.n (ap reads (sym w) ∙ c.args.named.read_is) (sym c.is_overflow.ensures ∙ c.if-is_overflow.false))
    ∙ ap (λ (x : Name). found c.args.n (counted_find t r x c.args.n)) (sym w)
