-- How long a report can be: no text is longer than the buffer that it is composed in. Assumes nothing.
use mathlib.Core.Path.{◌≡◌}
use mathlib.Core.Bool.{Bool, true, false, cond}
use mathlib.Core.List.{List, [], ◌∷◌, ◌++◌}
use Prim.Native.Nat.{ℕ, zero, suc, ◌+◌, ◌*◌, ◌≤◌, ◌<◌}
use native.Mathlib.Omega.{arith}
use lib.Dec.{eqb}
use lib.ListN.{length, get_or, length-append}
use Rattle.text.specs.Page.{joined}
use Rattle.text.specs.Number.{decimal}
use Rattle.label.proofs.Labels.{decimal_short, label_short}
use Rattle.flow.specs.Flow.{dims}
use Rattle.head.specs.declared.Shedder.{Shedder}
use Rattle.head.specs.Questions.{is_unbounded}
use Rattle.cut_sources.specs.Counted.{counts_at}
use Rattle.store.specs.Store.{unit_at}
use Rattle.report_ranking.specs.Sources.{first_after, named, label_at, SOURCES_REPORTED, reported}
use Rattle.report_lines.specs.Lines.{rate, ceiling, active, receiver_ceiling, over_share, relay_rate, numbers, line, rates_line, cause_line, source_line, source_lines, head_lines, head_most, text}

joined_append : (xs ys : List (List ℕ)) → length (joined (xs ++ ys)) ≡ length (joined xs) + length (joined ys)
unfolding joined
joined_append [] ys = omega arith
joined_append (x ∷ xs) ys = simp (length-append, joined_append xs ys) (omega arith)

-- a text in front
front : (x : List ℕ) (xs : List (List ℕ)) → length (joined (x ∷ xs)) ≡ length x + length (joined xs)
unfolding joined
front x xs = length-append x (joined xs)

numbers_short : (xs : List ℕ) → length (joined (numbers xs)) ≤ 21 * length xs + 1
unfolding numbers joined
numbers_short [] = omega arith
numbers_short (x ∷ xs) = omega (arith, length-append (decimal x) (joined (numbers xs)), decimal_short x, numbers_short xs)

line_short : (w xs : List ℕ) → length (joined (line w xs)) ≤ length w + (21 * length xs + 1)
unfolding line
line_short w xs = omega (arith, front w (numbers xs), numbers_short xs)

rates_short : (w : List ℕ) (t : Bool) (xs : List ℕ) → 0 < length xs → length (joined (rates_line w t xs)) ≤ length w + (21 * length xs + 1)
unfolding rates_line joined
rates_short w true xs h = omega (arith, length-append w (32 ∷ 110 ∷ 111 ∷ 110 ∷ 101 ∷ 10 ∷ []))
rates_short w false xs h = line_short w xs

-- ---- the sources
source_short : (tags : List ℕ) (rows : List (List ℕ)) (i : ℕ) → length (joined (source_line tags rows i)) ≤ 139
unfolding source_line counts_at
source_short tags rows i =
    omega (arith, front (115 ∷ 111 ∷ 117 ∷ 114 ∷ 99 ∷ 101 ∷ []) ((32 ∷ []) ∷ line (label_at tags rows i) (counts_at rows i)), front (32 ∷ []) (line (label_at tags rows i) (counts_at rows i)), line_short (label_at tags rows i) (counts_at rows i), label_short (unit_at tags rows i))

sources_short : (tags : List ℕ) (rows : List (List ℕ)) (is : List ℕ) → length (joined (source_lines tags rows is)) ≤ 139 * length is
unfolding source_lines joined
sources_short tags rows [] = omega arith
sources_short tags rows (i ∷ is) = omega (arith, joined_append (source_line tags rows i) (source_lines tags rows is), source_short tags rows i, sources_short tags rows is)

pub named_short : (tags : List ℕ) (rows : List (List ℕ)) (n k p : ℕ) → length (named tags rows n k p) ≤ k
unfolding named
named_short tags rows n zero p = omega arith
named_short tags rows n (suc k) p = shorter (eqb (first_after tags rows n p n) n) _ (named_short tags rows n k (first_after tags rows n p n))
  where
    shorter : (t : Bool) (l : List ℕ) → length l ≤ k → length (cond t [] (first_after tags rows n p n ∷ l)) ≤ suc k
    shorter true l h = omega arith
    shorter false l h = omega arith

-- ---- the lines of the head, and the whole
pub head_short : (h : Shedder) → length h.flow.rate ≡ dims → length h.flow.ceiling ≡ dims → length (joined (head_lines h)) ≤ head_most
unfolding head_lines cause_line
head_short h rates ceilings =
    let u = is_unbounded h.flow.rate in
    let a = rates_line rate u h.flow.rate in
    let b = rates_line ceiling u h.flow.ceiling in
    let c = line active (h.tracked ∷ []) in
    let x = line receiver_ceiling (get_or h.batches 0 0 ∷ get_or h.receptions 0 0 ∷ []) in
    let y = line over_share (get_or h.batches 1 0 ∷ get_or h.receptions 1 0 ∷ []) in
    let z = line relay_rate (get_or h.batches 2 0 ∷ get_or h.receptions 2 0 ∷ []) in
    omega (
      arith,
      joined_append (a ++ b ++ c ++ x ++ y) z,
      joined_append (a ++ b ++ c ++ x) y,
      joined_append (a ++ b ++ c) x,
      joined_append (a ++ b) c,
      joined_append a b,
      rates_short rate u h.flow.rate (omega arith),
      rates_short ceiling u h.flow.ceiling (omega arith),
      line_short active (h.tracked ∷ []),
      line_short receiver_ceiling (get_or h.batches 0 0 ∷ get_or h.receptions 0 0 ∷ []),
      line_short over_share (get_or h.batches 1 0 ∷ get_or h.receptions 1 0 ∷ []),
      line_short relay_rate (get_or h.batches 2 0 ∷ get_or h.receptions 2 0 ∷ []),
    )

pub text_short : (h : Shedder) (tags : List ℕ) (rows : List (List ℕ)) → length (joined (head_lines h)) ≤ head_most → length (text h tags rows) ≤ head_most + SOURCES_REPORTED * 139
unfolding text
text_short h tags rows short =
    omega (
      arith,
      joined_append (head_lines h) (source_lines tags rows (reported tags rows h.counted)),
      sources_short tags rows (reported tags rows h.counted),
      named_short tags rows h.counted SOURCES_REPORTED h.counted,
    )
