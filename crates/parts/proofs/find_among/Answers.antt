-- `parts::find_among` meets its contract. Assumes nothing.
use Rattle.std.proofs.Common.{ℕ, ◌+◌, length, rules}
use Rattle.store.specs.Store.{has_tag}
use Rattle.store_search.proofs.Finding.{first_of}
use Rattle.parts.specs.Parts.{has_words, find_among}
use Rattle.parts.proofs.find_among.Goals as goal

pub returns-clause-value : goal.returns-clause-value
unfolding find_among has_tag
returns-clause-value c =
    first_of (has_tag c.args.tags.now c.args.name.tag) (λ (k : ℕ). has_words c.args.slots.now c.args.units.now c.args.name.words (c.args.from + k)) (length c.args.tags.now)
    c.find_tagged.result c.find_tagged.ensures.value c.find_tagged.ensures.upper_bound
    (λ w k l t. let e = w k l t in search rules)
    (λ i b w. let e = w.0.1 in ((w.0.0, search rules), λ k l t. let e = w.1 k l t in search rules))
