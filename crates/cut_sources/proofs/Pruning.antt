-- The totals and the sources that are kept, source by source; and that pruning frees a row. Assumes nothing.
use Rattle.std.proofs.Common.{◌≡◌, ℕ, zero, suc, ◌+◌, ◌-◌, ◌<◌, ◌≤◌, max, Bool, true, false, cond, ltb, List, [], ◌∷◌, ◌++◌, map, fold, count_by, length, get_or, take, drop, set, replicate, sym, refl, ap, ◌∙◌, append_assoc, add-one, arith, length-append, length-take-le, drop-cons, take-suc, le-ltb, lt-ltb}
use Rattle.std.proofs.lemmas.List.Recursion.{is_count_by}
use native.Mathlib.Decide.{dec_lt}
use lib.ListN.{length-replicate, length-map}
use lib.Seq.{get_or_at, set_at, set-append_seam}
use Rattle.cut_sources.specs.Sorted.{one_if, below, highest}
use Rattle.cut_sources.specs.Counted.{total, total_at, totals, keep_from, above, free, left, Sources, sources, prune, prune_one, pruned}
use Rattle.cut_sources.proofs.Sorted.{keep_from_there}

-- ---- totals
map_end : (l : List (List ℕ)) (r : List ℕ) → map total (l ++ (r ∷ [])) ≡ map total l ++ (total r ∷ [])
map_end [] r = refl
map_end (x ∷ xs) r = ap (λ (t : List ℕ). total x ∷ t) (map_end xs r)

pub totals_next : (rows : List (List ℕ)) (n : ℕ) → n < length rows → totals rows (n + 1) ≡ totals rows n ++ (total_at rows n ∷ [])
unfolding totals total_at
totals_next rows n h = ap (λ (m : ℕ). map total (take m rows)) (add-one n) ∙ ap (map total) (take-suc rows n [] h) ∙ map_end (take n rows) (get_or rows n [])

pub length_totals : (rows : List (List ℕ)) (n : ℕ) → n ≤ length rows → length (totals rows n) ≡ n
unfolding totals
length_totals rows n h = length-map (take n rows) total ∙ length-take-le n rows h

one : (b : Bool) (n : ℕ) → one_if n b ≡ cond b (1 + n) n
one true n = omega arith
one false n = refl

pub below_count : (x : ℕ) (l : List (List ℕ)) → count_by (λ (r : List ℕ). ltb (total r) x) l ≡ below x (map total l)
unfolding below
below_count x l = sym (is_count_by (λ (l : List (List ℕ)). below x (map total l)) (λ (r : List ℕ). ltb (total r) x) refl (λ r rs. one (ltb (total r) x) (below x (map total rs))) l)

highest_from : (a : ℕ) (l : List (List ℕ)) → fold (λ (m : ℕ) (r : List ℕ). max m (total r)) a l ≡ max a (highest (map total l))
unfolding highest
highest_from a [] = omega arith
highest_from a (r ∷ rs) = highest_from (max a (total r)) rs ∙ omega arith

pub highest_fold : (l : List (List ℕ)) → fold (λ (m : ℕ) (r : List ℕ). max m (total r)) 0 l ≡ highest (map total l)
highest_fold l = highest_from 0 l ∙ omega arith

-- ---- those kept, and those not above k, are all
count_step : (k t m n o : ℕ) (x : List ℕ) (xs : List (List ℕ)) → length xs ≡ m → m + n ≡ o
    → length (cond (ltb k t) (x ∷ xs) xs) + one_if n (ltb t (k + 1)) ≡ suc o
count_step k t m n o x xs e f = elim (dec_lt k t) [
  | yes h ↦ rw (lt-ltb k t h, le-ltb t (k + 1) (omega arith)) (omega arith)
  | no h ↦ rw (le-ltb k t (omega arith), lt-ltb t (k + 1) (omega arith)) (omega arith)
]

above_below : (k : ℕ) (l : List (List ℕ)) → length (above k l) + below (k + 1) (map total l) ≡ length l
unfolding above below
above_below k [] = refl
above_below k (x ∷ xs) = count_step k (total x) (length (above k xs)) (below (k + 1) (map total xs)) (length xs) x (above k xs) refl (above_below k xs)

-- ---- one source more
above_last : (k : ℕ) (b c : Bool) (x r : List ℕ) (l : List (List ℕ))
    → cond b (x ∷ cond c (l ++ (r ∷ [])) l) (cond c (l ++ (r ∷ [])) l) ≡ cond c (cond b (x ∷ l) l ++ (r ∷ [])) (cond b (x ∷ l) l)
above_last k true true x r l = refl
above_last k true false x r l = refl
above_last k false true x r l = refl
above_last k false false x r l = refl

above_end : (k : ℕ) (l : List (List ℕ)) (r : List ℕ) → above k (l ++ (r ∷ [])) ≡ cond (ltb k (total r)) (above k l ++ (r ∷ [])) (above k l)
unfolding above
above_end k [] r = refl
above_end k (x ∷ xs) r =
    ap (λ (t : List (List ℕ)). cond (ltb k (total x)) (x ∷ t) t) (above_end k xs r) ∙ above_last k (ltb k (total x)) (ltb k (total r)) x r (above k xs)

one_free : (z : ℕ) (l : List (List ℕ)) → replicate z free ++ (free ∷ l) ≡ free ∷ (replicate z free ++ l)
one_free zero l = refl
one_free (suc z) l = ap (λ (t : List (List ℕ)). free ∷ t) (one_free z l)

module _ (a : List (List ℕ)) (z : ℕ) (r : List ℕ) (l : List (List ℕ)) (n : ℕ) (e : length a + z ≡ n) where
  front : length (a ++ replicate z free) ≡ n
  front = length-append a (replicate z free) ∙ ap (λ (k : ℕ). length a + k) (length-replicate z free) ∙ e

  there : get_or (a ++ (replicate z free ++ (r ∷ l))) n [] ≡ r
  there = ap (λ (x : List (List ℕ)). get_or x n []) (sym (append_assoc a (replicate z free) (r ∷ l))) ∙ get_or_at (a ++ replicate z free) r l [] n front

  cleared : set (a ++ (replicate z free ++ (r ∷ l))) n free ≡ a ++ (free ∷ (replicate z free ++ l))
  cleared =
      ap (λ (x : List (List ℕ)). set x n free) (sym (append_assoc a (replicate z free) (r ∷ l)))
      ∙ set_at (a ++ replicate z free) r l free n front ∙ append_assoc a (replicate z free) (free ∷ l) ∙ ap (λ (x : List (List ℕ)). a ++ x) (one_free z l)

  moved : set (set (a ++ (replicate z free ++ (r ∷ l))) n free) (length a) r ≡ a ++ (r ∷ (replicate z free ++ l))
  moved = ap (λ (x : List (List ℕ)). set x (length a) r) cleared ∙ set-append_seam a free (replicate z free ++ l) r

same_sources : (m n : ℕ) (x y : List (List ℕ)) → m ≡ n → x ≡ y → sources m x ≡ sources n y
same_sources m n x y p q = cc

module _ (a : List (List ℕ)) (r : List ℕ) (l : List (List ℕ)) (n k : ℕ) (h : length a ≤ n) where
  abbrev rest : List (List ℕ)
  rest = a ++ (replicate (n - length a) free ++ (r ∷ l))

  abbrev step : Bool → Sources
  step b = cond b (sources (length a + 1) (set (set rest n free) (length a) r)) (sources (length a) (set rest n free))

  stepped : prune_one (left a n (r ∷ l)) k n ≡ step (ltb k (total r))
  unfolding prune_one total_at
  stepped = ap (λ (t : List ℕ). cond (ltb k (total t)) (sources (length a + 1) (set (set rest n free) (length a) t)) (sources (length a) (set rest n free))) (there a (n - length a) r l n (omega arith))

  kept_more : left (a ++ (r ∷ [])) (n + 1) l ≡ step true
  kept_more =
      let e : n + 1 - length (a ++ (r ∷ [])) ≡ n - length a = omega (arith, length-append a (r ∷ [])) in
      same_sources _ _ _ _ (length-append a (r ∷ []))
      (append_assoc a (r ∷ []) (replicate (n + 1 - length (a ++ (r ∷ []))) free ++ l) ∙ ap (λ (z : ℕ). a ++ (r ∷ (replicate z free ++ l))) e
      ∙ sym (moved a (n - length a) r l n (omega arith)))

  freed_more : left a (n + 1) l ≡ step false
  freed_more =
      let e : n + 1 - length a ≡ suc (n - length a) = omega arith in
      ap (sources (length a)) (ap (λ (z : ℕ). a ++ (replicate z free ++ l)) e ∙ sym (cleared a (n - length a) r l n (omega arith)))

  one_more : left (cond (ltb k (total r)) (a ++ (r ∷ [])) a) (n + 1) l ≡ prune_one (left a n (r ∷ l)) k n
  one_more = go (ltb k (total r)) ∙ sym stepped
    where
      go : (b : Bool) → left (cond b (a ++ (r ∷ [])) a) (n + 1) l ≡ step b
      go true = kept_more
      go false = freed_more

pub prune_none : (rows : List (List ℕ)) (k : ℕ) → prune rows k 0 ≡ sources 0 rows
unfolding prune above
prune_none rows k = refl

pub prune_next : (rows : List (List ℕ)) (k n : ℕ) → n < length rows → prune rows k (n + 1) ≡ prune_one (prune rows k n) k n
unfolding prune
prune_next rows k n h =
    let r = get_or rows n [] in
    let a = above k (take n rows) in
    let few : length a ≤ n = omega (arith, above_below k (take n rows), length-take-le n rows (omega arith)) in
    let e : above k (take (n + 1) rows) ≡ cond (ltb k (total r)) (a ++ (r ∷ [])) a =
    ap (above k) (ap (λ (m : ℕ). take m rows) (add-one n) ∙ take-suc rows n [] h) ∙ above_end k (take n rows) r in
    ap (λ (x : List (List ℕ)). left x (n + 1) (drop (n + 1) rows)) e
    ∙ ap (λ (m : ℕ). left (cond (ltb k (total r)) (a ++ (r ∷ [])) a) (n + 1) (drop m rows)) (add-one n)
    ∙ one_more a r (drop (suc n) rows) n k few
    ∙ ap (λ (x : List (List ℕ)). prune_one (left a n x) k n) (sym (drop-cons rows n [] h))

-- ---- at least one source goes: k is one of the totals
pub frees : (rows : List (List ℕ)) (n : ℕ) → 0 < n → n ≤ length rows → (prune rows (keep_from (totals rows n)) n).count < n
unfolding prune totals
frees rows n h g =
    let l : length (map total (take n rows)) ≡ n = length-map (take n rows) total ∙ length-take-le n rows g in
    omega (arith, above_below (keep_from (map total (take n rows))) (take n rows), length-take-le n rows g, keep_from_there (map total (take n rows)) (omega arith))

pub frees_so : (rows out : List (List ℕ)) (n k r : ℕ) → k ≡ keep_from (totals rows n) → sources r out ≡ prune rows k n → 0 < n → n ≤ length rows → r < n
frees_so rows out n k r e p h g =
    let q : r ≡ (prune rows (keep_from (totals rows n)) n).count = ap (λ (s : Sources). s.count) p ∙ ap (λ (x : ℕ). (prune rows x n).count) e in
    omega (arith, frees rows n h g)

-- ---- where a row is free all stay, else those above k do
pub pruned_room : (rows : List (List ℕ)) (n : ℕ) → n < length rows → sources n rows ≡ pruned (sources n rows)
unfolding pruned
pruned_room rows n h = simp (lt-ltb n (length rows) h)

pub pruned_full : (rows out : List (List ℕ)) (n k r : ℕ) → sources r out ≡ prune rows k n → length rows ≤ n → k ≡ keep_from (totals rows n) → sources r out ≡ pruned (sources n rows)
unfolding pruned
pruned_full rows out n k r p h e = simp (le-ltb n (length rows) h) (p ∙ ap (λ (x : ℕ). prune rows x n) e)
