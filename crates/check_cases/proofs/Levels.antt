-- The levels of document 01's cases, by computing one row: a histogram filled in one dimension has the level of that row. Assumes nothing.
use mathlib.Core.Path.{◌≡◌, refl, ap, ◌∙◌}
use mathlib.Core.List.{List, [], ◌∷◌}
use Prim.Native.Nat.{ℕ, ◌<◌}
use lib.ListN.{length, replicate, length-set, get_or-replicate}
use lib.Seq.{get_or-set_same}
use lib.Ieee.{Float, of_bits, of_int, add, sub, mul, div, lt, le, eq}
use Rattle.ieee.specs.Doubles.{nothing, whole, infinity}
use Rattle.flow.specs.Flow.{dims}
use Rattle.wants.specs.Bucket.{bucket_of, reaches, largest}
use Rattle.wants.specs.Wants.{Hist, counts_of, sums_of, cleared, one_more, plus, added, counted, next, walked, found, level}
use Rattle.check_cases.specs.Cases.{of_wants, level_of}

row_counts : List Float → List ℕ → List ℕ
row_counts [] cs = cs
row_counts (want ∷ wants) cs = row_counts wants (one_more cs (bucket_of want))

row_sums : List Float → List Float → List Float
row_sums [] ss = ss
row_sums (want ∷ wants) ss = row_sums wants (plus ss (bucket_of want) want)

counts_filled : (d : ℕ) (ws : List Float) (h : Hist) → d < length h.counts → counts_of (of_wants d ws h) d ≡ row_counts ws (counts_of h d)
unfolding of_wants row_counts added
counts_filled d [] h l = refl
counts_filled d (w ∷ ws) h l =
    counts_filled d ws (added h d w) (rw length-set l) ∙ ap (row_counts ws) (get_or-set_same h.counts d (one_more (counts_of h d) (bucket_of w)) [] l)

sums_filled : (d : ℕ) (ws : List Float) (h : Hist) → d < length h.sums → sums_of (of_wants d ws h) d ≡ row_sums ws (sums_of h d)
unfolding of_wants row_sums added
sums_filled d [] h l = refl
sums_filled d (w ∷ ws) h l =
    sums_filled d ws (added h d w) (rw length-set l) ∙ ap (row_sums ws) (get_or-set_same h.sums d (plus (sums_of h d) (bucket_of w) w) [] l)

-- the level in any dimension is that of one row, filled from nothing
pub row_level : List Float → Float
row_level ws = found (walked (row_counts ws (replicate 768 0)) (row_sums ws (replicate 768 nothing)) (whole 10) (counted (row_counts ws (replicate 768 0)) 768 768) 768)

pub level_filled : (d : ℕ) (ws : List Float) → d < dims → level_of d ws ≡ row_level ws
unfolding level cleared row_level
level_filled d ws h =
    let c : counts_of (of_wants d ws cleared) d ≡ row_counts ws (replicate 768 0) =
    counts_filled d ws cleared h ∙ ap (row_counts ws) (get_or-replicate dims d (replicate 768 0) [] h) in
    let s : sums_of (of_wants d ws cleared) d ≡ row_sums ws (replicate 768 nothing) =
    sums_filled d ws cleared h ∙ ap (row_sums ws) (get_or-replicate dims d (replicate 768 nothing) [] h) in
    ap (λ (cs : List ℕ). found (walked cs (sums_of (of_wants d ws cleared) d) (whole 10) (counted cs 768 768) 768)) c
    ∙ ap (λ (ss : List Float). found (walked (row_counts ws (replicate 768 0)) ss (whole 10) (counted (row_counts ws (replicate 768 0)) 768 768) 768)) s

-- two wants of which one is cut; two within the rate; none
pub cut : row_level (whole 2 ∷ whole 20 ∷ []) ≡ whole 8
unfolding row_level row_counts row_sums one_more plus bucket_of largest reaches counted next walked found lt le eq add sub mul div of_bits of_int
cut = refl

pub both_kept : row_level (whole 2 ∷ whole 3 ∷ []) ≡ infinity
unfolding row_level row_counts row_sums one_more plus bucket_of largest reaches counted next walked found lt le eq add sub mul div of_bits of_int
both_kept = refl

pub none_cut : row_level [] ≡ infinity
unfolding row_level row_counts row_sums counted next walked found add of_bits of_int
none_cut = refl
