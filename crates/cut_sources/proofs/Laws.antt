-- Pruning leaves exactly the sources whose total is above k, in their order, with their tags, and zero bits behind them. Assumes nothing.
use Rattle.std.proofs.Common.{◌≡◌, ℕ, zero, suc, ◌+◌, ◌%◌, ◌^◌, ◌<◌, ◌≤◌, Bool, true, false, cond, eqb, ltb, List, [], ◌∷◌, ◌++◌, map, length, get_or, set, sym, refl, ap, ◌∙◌, add-one, arith, length-append, length-set, lt-length-set, get_or-set_other, get_or-set_same, le-ltb, lt-ltb, eq-eqb, ne_eqb}
use native.Mathlib.Decide.{ℕ_discrete, dec_lt}
use Rattle.cut_sources.specs.Sorted.{one_if, sorted, below}
use Rattle.cut_sources.specs.Counted.{Sources, sources, row_put, total, total_at, totals, keep_from, free, prune, prune_one, pruned, tag_put, tag_moved, prune_tags, pruned_tags}
use Rattle.cut_sources.specs.Laws.{times, Sorts, at_quarter, Source, source_at, listed, zero_bits, sum, keep, above, Leaves, Prunes}
use Rattle.cut_sources.proofs.Sorted.{below_sorted, sorted_entries}
use Rattle.cut_sources.proofs.Pruning.{totals_next, prune_none, prune_next}
use Rattle.cut_sources.proofs.Tagged.{prune_tags_none, prune_tags_next}

-- what was put last at k stands there
put_there : {A : Type 0} (l : List A) (i k : ℕ) (x y d : A) → k < length l → get_or (set (set l i x) k y) k d ≡ y
put_there l i k x y d h = get_or-set_same (set l i x) k y d (lt-length-set l i x h)

-- ---- the sorted totals
-- the numbers up to x are those below it and those that are x
times_step : (x y b t n : ℕ) → b + t ≡ n → one_if b (ltb y x) + one_if t (eqb y x) ≡ one_if n (ltb y (x + 1))
times_step x y b t n e = elim (ℕ_discrete y x) [
  | yes q ↦ rw (le-ltb y x (omega arith), eq-eqb y x q, lt-ltb y (x + 1) (omega arith)) (omega arith)
  | no q ↦ elim (dec_lt y x) [
    | yes h ↦ rw (lt-ltb y x h, ne_eqb y x q, lt-ltb y (x + 1) (omega arith)) (omega arith)
    | no h ↦ rw (le-ltb y x (omega arith), ne_eqb y x q, le-ltb y (x + 1) (omega arith)) (omega arith)
  ]
]

times_below : (x : ℕ) (l : List ℕ) → below x l + times x l ≡ below (x + 1) l
unfolding below times
times_below x [] = refl
times_below x (y ∷ ys) = times_step x y (below x ys) (times x ys) (below (x + 1) ys) (times_below x ys)

sorts : (l : List ℕ) → Sorts l
sorts l = record {
  ascending = sorted_entries l;
  same = λ x. omega (arith, times_below x l, times_below x (sorted l), below_sorted x l, below_sorted (x + 1) l);
}

-- ---- a place as a source
source_same : (tags tags' : List ℕ) (rows rows' : List (List ℕ)) (i j : ℕ) → get_or tags i 0 ≡ get_or tags' j 0 → get_or rows i [] ≡ get_or rows' j [] → source_at tags rows i ≡ source_at tags' rows' j
unfolding source_at
source_same tags tags' rows rows' i j e f = simp (e, f)

sum_at : (tags : List ℕ) (rows : List (List ℕ)) (i : ℕ) → sum (source_at tags rows i) ≡ total_at rows i
unfolding sum source_at total_at total
sum_at tags rows i = ap (λ (x : ℕ). x % 2 ^ 64) (omega arith)

-- ---- the sources at the first places
listed_same : (tags tags' : List ℕ) (rows rows' : List (List ℕ)) (n : ℕ) → ((j : ℕ) → j < n → source_at tags rows j ≡ source_at tags' rows' j) → listed tags rows n ≡ listed tags' rows' n
unfolding listed
listed_same tags tags' rows rows' zero f = refl
listed_same tags tags' rows rows' (suc n) f = simp (listed_same tags tags' rows rows' n (λ j h. f j (omega arith)), f n (omega arith))

listed_next : (tags : List ℕ) (rows : List (List ℕ)) (n : ℕ) → listed tags rows (n + 1) ≡ listed tags rows n ++ (source_at tags rows n ∷ [])
unfolding listed
listed_next tags rows n = rw add-one

listed_long : (tags : List ℕ) (rows : List (List ℕ)) (n : ℕ) → length (listed tags rows n) ≡ n
unfolding listed
listed_long tags rows zero = refl
listed_long tags rows (suc n) = length-append (listed tags rows n) (source_at tags rows n ∷ []) ∙ omega (arith, listed_long tags rows n)

map_end : (l : List Source) (s : Source) → map sum (l ++ (s ∷ [])) ≡ map sum l ++ (sum s ∷ [])
map_end [] s = refl
map_end (x ∷ xs) s = ap (λ (t : List ℕ). sum x ∷ t) (map_end xs s)

sums_none : (tags : List ℕ) (rows : List (List ℕ)) → map sum (listed tags rows 0) ≡ totals rows 0
unfolding listed totals
sums_none tags rows = refl

sums : (tags : List ℕ) (rows : List (List ℕ)) (n : ℕ) → n ≤ length rows → map sum (listed tags rows n) ≡ totals rows n
sums tags rows zero h = sums_none tags rows
sums tags rows (suc n) h =
    ap (λ (k : ℕ). map sum (listed tags rows k)) (sym (add-one n))
    ∙ ap (map sum) (listed_next tags rows n) ∙ map_end (listed tags rows n) (source_at tags rows n)
    ∙ ap (λ (l : List ℕ). l ++ (sum (source_at tags rows n) ∷ [])) (sums tags rows n (omega arith))
    ∙ ap (λ (x : ℕ). totals rows n ++ (x ∷ [])) (sum_at tags rows n)
    ∙ sym (totals_next rows n (omega arith)) ∙ ap (totals rows) (add-one n)

quarter : (l : List ℕ) → keep_from l ≡ at_quarter l
unfolding keep_from at_quarter
quarter l = ap (λ (i : ℕ). get_or (sorted l) i 0) (omega arith)

-- ---- those left of one source more
keep_last : (b c : Bool) (x s : Source) (l : List Source) → keep b x (cond c (l ++ (s ∷ [])) l) ≡ cond c (keep b x l ++ (s ∷ [])) (keep b x l)
keep_last true true x s l = refl
keep_last true false x s l = refl
keep_last false true x s l = refl
keep_last false false x s l = refl

above_end : (k : ℕ) (l : List Source) (s : Source) → above k (l ++ (s ∷ [])) ≡ cond (ltb k (sum s)) (above k l ++ (s ∷ [])) (above k l)
unfolding above
above_end k [] s = go (ltb k (sum s))
  where
    go : (b : Bool) → keep b s [] ≡ cond b (s ∷ []) []
    go true = refl
    go false = refl
above_end k (x ∷ xs) s = ap (keep (ltb k (sum x)) x) (above_end k xs s) ∙ keep_last (ltb k (sum x)) (ltb k (sum s)) x s (above k xs)

-- ---- a source freed, and one moved
module _ (tags : List ℕ) (rows : List (List ℕ)) (n : ℕ) (ht : n < length tags) (hr : n < length rows) where
  freed_other : (j : ℕ) → (j ≡ n → ⊥) → source_at (set tags n 0) (set rows n free) j ≡ source_at tags rows j
  freed_other j h = source_same (set tags n 0) tags (set rows n free) rows j j (rw get_or-set_other) (rw get_or-set_other)

  freed_zero : source_at (set tags n 0) (set rows n free) n ≡ zero_bits
  unfolding source_at zero_bits
  freed_zero = simp get_or-set_same

  module _ (c : ℕ) where
    moved_other : (j : ℕ) → (j ≡ n → ⊥) → (j ≡ c → ⊥) → source_at (tag_put tags n c) (row_put rows n c) j ≡ source_at tags rows j
    moved_other j h l = source_same (tag_put tags n c) tags (row_put rows n c) rows j j (simp get_or-set_other) (simp get_or-set_other)

    moved_there : c ≤ n → source_at (tag_put tags n c) (row_put rows n c) c ≡ source_at tags rows n
    moved_there h =
        let a : c < length tags = omega arith in
        let b : c < length rows = omega arith in
        source_same (tag_put tags n c) tags (row_put rows n c) rows c n (rw put_there) (rw put_there)

    moved_zero : (n ≡ c → ⊥) → source_at (tag_put tags n c) (row_put rows n c) n ≡ zero_bits
    unfolding source_at zero_bits
    moved_zero h = simp (get_or-set_other, get_or-set_same)

-- ---- a pass
module _ (tags : List ℕ) (rows : List (List ℕ)) (k : ℕ) where
  record Passed (n : ℕ) (s : Sources) (ts : List ℕ) : Type 0 where
    few : s.count ≤ n
    rows_long : length s.rows ≡ length rows
    tags_long : length ts ≡ length tags
    beyond : (j : ℕ) → n ≤ j → source_at ts s.rows j ≡ source_at tags rows j
    zeroed : (j : ℕ) → s.count ≤ j → j < n → source_at ts s.rows j ≡ zero_bits
    list : listed ts s.rows s.count ≡ above k (listed tags rows n)

  module _ (n : ℕ) (s : Sources) (ts : List ℕ) (w : Passed n s ts) (ht : n < length tags) (hr : n < length rows) where
    ht' : n < length ts
    ht' = omega (arith, w.tags_long)

    hr' : n < length s.rows
    hr' = omega (arith, w.rows_long)

    same_total : total_at s.rows n ≡ sum (source_at tags rows n)
    same_total = sym (sum_at ts s.rows n) ∙ ap sum (w.beyond n (omega arith))

    more : (b : Bool) → ltb k (sum (source_at tags rows n)) ≡ b
        → above k (listed tags rows (n + 1)) ≡ cond b (listed ts s.rows s.count ++ (source_at tags rows n ∷ [])) (listed ts s.rows s.count)
    more b e =
        ap (above k) (listed_next tags rows n) ∙ above_end k (listed tags rows n) (source_at tags rows n)
        ∙ ap (λ (c : Bool). cond c (above k (listed tags rows n) ++ (source_at tags rows n ∷ [])) (above k (listed tags rows n))) e
        ∙ ap (λ (l : List Source). cond b (l ++ (source_at tags rows n ∷ [])) l) (sym w.list)

    abbrev freed_tags : List ℕ
    freed_tags = set ts n 0

    abbrev freed_rows : List (List ℕ)
    freed_rows = set s.rows n free

    step_freed : ltb k (sum (source_at tags rows n)) ≡ false → Passed (n + 1) (sources s.count freed_rows) freed_tags
    step_freed e = record {
      few = omega (arith, w.few);
      rows_long = length-set s.rows n free ∙ w.rows_long;
      tags_long = length-set ts n 0 ∙ w.tags_long;
      beyond = λ j h. freed_other ts s.rows n ht' hr' j (λ q. absurd (omega arith)) ∙ w.beyond j (omega arith);
      zeroed = λ j h l. elim (ℕ_discrete j n) [
        | yes q ↦ ap (source_at freed_tags freed_rows) q ∙ freed_zero ts s.rows n ht' hr'
        | no q ↦ freed_other ts s.rows n ht' hr' j q ∙ w.zeroed j h (omega arith)
      ];
      list = listed_same freed_tags ts freed_rows s.rows s.count (λ j h. freed_other ts s.rows n ht' hr' j (λ q. absurd (omega (arith, w.few)))) ∙ sym (more false e);
    }

    abbrev next_tags : List ℕ
    next_tags = tag_put ts n s.count

    abbrev next_rows : List (List ℕ)
    next_rows = row_put s.rows n s.count

    step_moved : ltb k (sum (source_at tags rows n)) ≡ true → Passed (n + 1) (sources (s.count + 1) next_rows) next_tags
    step_moved e = record {
      few = omega (arith, w.few);
      rows_long = simp length-set w.rows_long;
      tags_long = simp length-set w.tags_long;
      beyond = λ j h. moved_other ts s.rows n ht' hr' s.count j (λ q. absurd (omega arith)) (λ q. absurd (omega (arith, w.few))) ∙ w.beyond j (omega arith);
      zeroed = λ j h l. elim (ℕ_discrete j n) [
        | yes q ↦ ap (source_at next_tags next_rows) q ∙ moved_zero ts s.rows n ht' hr' s.count (λ x. absurd (omega arith))
        | no q ↦ moved_other ts s.rows n ht' hr' s.count j q (λ x. absurd (omega arith)) ∙ w.zeroed j (omega arith) (omega arith)
      ];
      list =
          listed_next next_tags next_rows s.count
          ∙ ap (λ (l : List Source). l ++ (source_at next_tags next_rows s.count ∷ [])) (listed_same next_tags ts next_rows s.rows s.count (λ j h. moved_other ts s.rows n ht' hr' s.count j (λ q. absurd (omega (arith, w.few))) (λ q. absurd (omega arith))))
          ∙ ap (λ (x : Source). listed ts s.rows s.count ++ (x ∷ [])) (moved_there ts s.rows n ht' hr' s.count w.few ∙ w.beyond n (omega arith))
          ∙ sym (more true e);
    }

    step : Passed (n + 1) (prune_one s k n) (tag_moved ts (total_at s.rows n) k n s.count)
    unfolding prune_one tag_moved
    step = by (ltb k (total_at s.rows n)) refl
      where
        by : (b : Bool) → ltb k (total_at s.rows n) ≡ b
            → Passed (n + 1) (cond b (sources (s.count + 1) next_rows) (sources s.count freed_rows)) (cond b next_tags freed_tags)
        by true e = step_moved (ap (ltb k) (sym same_total) ∙ e)
        by false e = step_freed (ap (ltb k) (sym same_total) ∙ e)

  none : listed tags rows 0 ≡ above k (listed tags rows 0)
  unfolding listed above
  none = refl

  start : Passed 0 (sources 0 rows) tags
  start = record { few = omega arith; rows_long = refl; tags_long = refl; beyond = λ j h. refl; zeroed = λ j h l. absurd (omega arith); list = none }

  passed : (n : ℕ) → n ≤ length tags → n ≤ length rows → Passed n (prune rows k n) (prune_tags tags rows k n)
  passed zero p q = rw (prune_none, prune_tags_none) start
  passed (suc n) p q =
      rw (← add-one, prune_next rows k n (omega arith), prune_tags_next)
      (step n (prune rows k n) (prune_tags tags rows k n) (passed n (omega arith) (omega arith)) (omega arith) (omega arith))

  leaves : (n : ℕ) → n ≤ length tags → n ≤ length rows → Leaves tags rows n k (prune rows k n) (prune_tags tags rows k n)
  leaves n p q =
      let w = passed n p q in
      record {
        stay = w.list;
        counted = sym (listed_long (prune_tags tags rows k n) (prune rows k n).rows (prune rows k n).count) ∙ ap (λ (l : List Source). length l) w.list;
        zeroed = w.zeroed;
        behind = w.beyond;
        rows_long = w.rows_long;
        tags_long = w.tags_long;
      }

-- ---- where every row is taken, and where not
module _ (tags : List ℕ) (rows : List (List ℕ)) where
  abbrev all : Sources
  all = sources (length rows) rows

  abbrev bar : ℕ
  bar = keep_from (totals rows (length rows))

  full_rows : pruned all ≡ prune rows bar (length rows)
  unfolding pruned
  full_rows = ap (λ (b : Bool). cond b all (prune rows bar (length rows))) (le-ltb _ (length rows) (omega arith))

  full_tags : pruned_tags all tags ≡ prune_tags tags rows bar (length rows)
  unfolding pruned_tags
  full_tags = ap (λ (b : Bool). cond b tags (prune_tags tags rows bar (length rows))) (le-ltb _ (length rows) (omega arith))

  full : length rows ≤ length tags → Leaves tags rows (length rows) (at_quarter (map sum (listed tags rows (length rows)))) (pruned all) (pruned_tags all tags)
  full h =
      let e : bar ≡ at_quarter (map sum (listed tags rows (length rows))) = quarter (totals rows (length rows)) ∙ ap at_quarter (sym (sums tags rows (length rows) (omega arith))) in
      rw (full_rows, full_tags, ← e) (leaves tags rows bar (length rows) h (omega arith))

  room : (n : ℕ) → n < length rows → (pruned (sources n rows) ≡ sources n rows) × (pruned_tags (sources n rows) tags ≡ tags)
  unfolding pruned pruned_tags
  room n h = (rw (lt-ltb n (length rows) h), rw (lt-ltb n (length rows) h))

pub prunes : Prunes
prunes = record { sorts = sorts; full = full; room = room }
