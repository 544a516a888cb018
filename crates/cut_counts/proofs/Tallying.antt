-- A count from its parts: the code's results, each tied to its definition, make up the definition. Assumes nothing.
use Rattle.std.proofs.Common.{◌≡◌, ℕ, ◌+◌, ◌<◌, ◌≤◌, List, ◌++◌, length, take, ap, ◌∙◌, arith}
use Rattle.sender.specs.declared.Name.{Name}
use Rattle.cut_sources.specs.Counted as counts
use Rattle.head.specs.declared.Shedder.{Shedder}
use Rattle.cut_counts.specs.Counting.{Sourced, sources, sourced, sourced_with, tally, tallied, tallied_by, added}
use Rattle.cut_counts.proofs.Behind.{lent, put, lent_is, put_is}

-- the least counted left out of what a cut more leaves
pub pruned_so : (k1 k2 : List (List ℕ)) (n1 n2 : ℕ) (s : counts.Sources) → counts.sources n1 k1 ≡ s → counts.sources n2 k2 ≡ counts.pruned (counts.sources n1 k1) → counts.sources n2 k2 ≡ counts.pruned s
pruned_so k1 k2 n1 n2 s e f = f ∙ ap counts.pruned e

pub pruned_tags_so : (t1 t2 u : List ℕ) (k1 : List (List ℕ)) (n1 : ℕ) (s : counts.Sources) → counts.sources n1 k1 ≡ s → t1 ≡ u → t2 ≡ counts.pruned_tags (counts.sources n1 k1) t1
    → t2 ≡ counts.pruned_tags s u
pruned_tags_so t1 t2 u k1 n1 s e d f = f ∙ ap (λ (s : counts.Sources). counts.pruned_tags s t1) e ∙ ap (counts.pruned_tags s) d

-- with the sources' tags lent to the call and put back
pub sourced_is : (room : ℕ) (tags t : List ℕ) (rows k : List (List ℕ)) (had n : ℕ) (name : Name) (cause : ℕ) → room + had < length tags
    → counts.sources n k ≡ counts.pruned (counts.count (lent room tags) rows had name cause)
    → t ≡ counts.pruned_tags (counts.count (lent room tags) rows had name cause) (counts.count_tags (lent room tags) rows had name)
    → sources n (put room tags t) k ≡ sourced room tags rows had name cause
sourced_is room tags t rows k had n name cause f e d =
    let l : room ≤ length tags = omega (arith, f) in
    let front : List ℕ = take room tags in
    ap (λ (x : List ℕ). sources n x k) (put_is room tags t l)
    ∙ ap (λ (s : counts.Sources). sources s.count (front ++ t) s.rows) e
    ∙ ap (λ (x : List ℕ). sources (counts.pruned (counts.count (lent room tags) rows had name cause)).count (front ++ x) (counts.pruned (counts.count (lent room tags) rows had name cause)).rows) d
    ∙ ap (λ (own : List ℕ). sourced_with front (counts.count_tags own rows had name) (counts.count own rows had name cause)) (lent_is room tags l)

-- the head beside the sources
pub tallied_is : (h r : Shedder) (tags t : List ℕ) (rows k : List (List ℕ)) (n : ℕ) (name : Name) (cause receptions : ℕ)
    → sources n t k ≡ sourced h.unit_room tags rows h.counted name cause → r ≡ added h n cause receptions
    → tally r t k ≡ tallied (tally h tags rows) name cause receptions
unfolding tallied
tallied_is h r tags t rows k n name cause receptions e e5 =
    ap (λ (r : Shedder). tally r t k) e5 ∙ ap (λ (s : Sourced). tallied_by (tally h tags rows) cause receptions s) e
