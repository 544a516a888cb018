-- `cut_sources::totals::highest` meets its contract. Assumes nothing.
use Rattle.std.proofs.Common.{List, ℕ, take, unwrap_or, ap, ◌∙◌, rules, tests}
use Rattle.std.proofs.lemmas.Iterator.{YieldsList-from_slice, YieldsList-from_map}
use Rattle.std.proofs.lemmas.Iterator.Consumers.{reduce_from_yields_List}
use Rattle.std.proofs.lemmas.List.Folds.{max_of_map}
use Rattle.cut_sources.specs.Counted.{total, totals}
use Rattle.cut_sources.proofs.Pruning.{highest_fold}
use Rattle.cut_sources.proofs.totals.highest.Goals as goal

pub returns : goal.returns
unfolding totals
returns c =
    let rows : List (List ℕ) = take c.args.n c.args.counted.now in
    c.unwrap_or.ensures
    ∙ ap (λ o. unwrap_or o 0) (reduce_from_yields_List _ c.map.result _ c.max.ensures.ran
    (YieldsList-from_map _ total (YieldsList-from_slice rows (search rules)) c.map.ensures.closure (λ x b q k. search (rules, tests))))
    ∙ max_of_map total rows ∙ highest_fold rows
