-- `cut_sources::totals::below` meets its contract. Assumes nothing.
use Rattle.std.proofs.Common.{◌≡◌, List, ℕ, count_by, take, ltb, ◌∙◌, rules}
use Rattle.cut_sources.specs.Counted.{total, totals}
use Rattle.cut_sources.proofs.Pruning.{below_count}
use Rattle.cut_sources.proofs.totals.below.Goals as goal

pub returns : goal.returns
unfolding totals
returns c =
    let e : c.count.result ≡ count_by (λ (r : List ℕ). ltb (total r) c.args.x) (take c.args.n c.args.counted.now) = search rules in
    e ∙ below_count c.args.x (take c.args.n c.args.counted.now)
