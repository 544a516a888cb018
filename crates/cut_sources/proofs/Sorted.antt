-- The entry at an index of the ascending numbers is the largest x with no more than so many numbers below it. Assumes nothing.
use Rattle.std.proofs.Common.{◌≡◌, ℕ, zero, suc, ◌+◌, ◌/◌, ◌<◌, ◌≤◌, Bool, true, false, cond, ltb, leb, List, [], ◌∷◌, length, get_or, refl, ap, ◌∙◌, arith, le-ltb, lt-ltb, le-leb}
use native.Mathlib.Decide.{dec_le, dec_lt}
use borrow.Author.Tests.{lt-leb}
use Rattle.cut_sources.specs.Counted.{keep_from}
use Rattle.cut_sources.specs.Sorted.{insert, sorted, one_if, below, highest}

-- ---- sorting keeps the numbers: as many are below any x, and as many there are
pub swap : (n : ℕ) (a b : Bool) → one_if (one_if n a) b ≡ one_if (one_if n b) a
swap n true true = refl
swap n true false = refl
swap n false true = refl
swap n false false = refl

below_pick : (x : ℕ) (b : Bool) (s t : List ℕ) (n : ℕ) → below x s ≡ n → below x t ≡ n → below x (cond b s t) ≡ n
below_pick x true s t n p q = p
below_pick x false s t n p q = q

below-insert : (x y : ℕ) (l : List ℕ) → below x (insert y l) ≡ one_if (below x l) (ltb y x)
unfolding insert below
below-insert x y [] = refl
below-insert x y (z ∷ zs) =
    below_pick x (leb y z) (y ∷ z ∷ zs) (z ∷ insert y zs) _ refl
    (ap (λ (n : ℕ). one_if n (ltb z x)) (below-insert x y zs) ∙ swap (below x zs) (ltb y x) (ltb z x))

pub below_sorted : (x : ℕ) (l : List ℕ) → below x (sorted l) ≡ below x l
unfolding sorted below
below_sorted x [] = refl
below_sorted x (y ∷ ys) = below-insert x y (sorted ys) ∙ ap (λ (n : ℕ). one_if n (ltb y x)) (below_sorted x ys)

length_pick : (b : Bool) (s t : List ℕ) (n : ℕ) → length s ≡ n → length t ≡ n → length (cond b s t) ≡ n
length_pick true s t n p q = p
length_pick false s t n p q = q

length-insert : (y : ℕ) (l : List ℕ) → length (insert y l) ≡ suc (length l)
unfolding insert
length-insert y [] = refl
length-insert y (z ∷ zs) = length_pick (leb y z) (y ∷ z ∷ zs) (z ∷ insert y zs) _ refl (ap suc (length-insert y zs))

pub length-sorted : (l : List ℕ) → length (sorted l) ≡ length l
unfolding sorted
length-sorted [] = refl
length-sorted (y ∷ ys) = length-insert y (sorted ys) ∙ ap suc (length-sorted ys)

-- ---- ascending
data From (x : ℕ) : List ℕ → Type 0 where
  none : From x []
  more : {y : ℕ} {ys : List ℕ} → x ≤ y → From x ys → From x (y ∷ ys)

data Ascending : List ℕ → Type 0 where
  none : Ascending []
  more : {x : ℕ} {xs : List ℕ} → From x xs → Ascending xs → Ascending (x ∷ xs)

from_pick : (x : ℕ) (b : Bool) (s t : List ℕ) → From x s → From x t → From x (cond b s t)
from_pick x true s t p q = p
from_pick x false s t p q = q

from_insert : (x y : ℕ) (l : List ℕ) → x ≤ y → From x l → From x (insert y l)
unfolding insert
from_insert x y [] h r = more h none
from_insert x y (z ∷ zs) h (more g r) = from_pick x (leb y z) (y ∷ z ∷ zs) (z ∷ insert y zs) (more h (more g r)) (more g (from_insert x y zs h r))

from_lower : (x y : ℕ) (l : List ℕ) → x ≤ y → From y l → From x l
from_lower x y [] h none = none
from_lower x y (z ∷ zs) h (more g r) = let k : x ≤ z = omega arith in more k (from_lower x y zs h r)

ascending_insert : (y : ℕ) (l : List ℕ) → Ascending l → Ascending (insert y l)
unfolding insert
ascending_insert y [] none = more none none
ascending_insert y (z ∷ zs) (more f r) =
    elim (dec_le y z) [
      | yes h ↦ rw (le-leb y z h) (more (more h (from_lower y z zs h f)) (more f r))
      | no h ↦ rw (lt-leb y z (omega arith)) (more (from_insert z y zs (omega arith) f) (ascending_insert y zs r))
    ]

ascending_sorted : (l : List ℕ) → Ascending (sorted l)
unfolding sorted
ascending_sorted [] = none
ascending_sorted (y ∷ ys) = ascending_insert y (sorted ys) (ascending_sorted ys)

-- ---- the entry at i of ascending numbers: x is at most it exactly where no more than i numbers are below x
from_at : (x : ℕ) (l : List ℕ) (i : ℕ) → From x l → i < length l → x ≤ get_or l i 0
from_at x [] i none h = absurd (omega arith)
from_at x (y ∷ ys) zero (more g r) h = g
from_at x (y ∷ ys) (suc i) (more g r) h = from_at x ys i r (omega arith)

none_below : (x y : ℕ) (l : List ℕ) → x ≤ y → From y l → below x l ≡ 0
unfolding below
none_below x y [] h none = refl
none_below x y (z ∷ zs) h (more g r) = rw (le-ltb z x (omega arith)) (none_below x y zs h r)

one_if_most : (n : ℕ) (b : Bool) → one_if n b ≤ n + 1
one_if_most n true = omega arith
one_if_most n false = omega arith

at_most : (l : List ℕ) → Ascending l → (i x : ℕ) → i < length l → x ≤ get_or l i 0 → below x l ≤ i
unfolding below
at_most [] a i x h g = absurd (omega arith)
at_most (y ∷ ys) (more f r) zero x h g = rw (le-ltb y x g) (omega (arith, none_below x y ys g f))
at_most (y ∷ ys) (more f r) (suc i) x h g = omega (arith, at_most ys r i x (omega arith) g, one_if_most (below x ys) (ltb y x))

above : (l : List ℕ) → Ascending l → (i x : ℕ) → i < length l → get_or l i 0 < x → i < below x l
unfolding below
above [] a i x h g = absurd (omega arith)
above (y ∷ ys) (more f r) zero x h g = rw (lt-ltb y x g) (omega arith)
above (y ∷ ys) (more f r) (suc i) x h g =
    rw (lt-ltb y x (omega (arith, from_at y ys i f (omega arith)))) (omega (arith, above ys r i x (omega arith) g))

module _ (l : List ℕ) (i x : ℕ) (h : i < length l) where
  pub entry_above : x ≤ get_or (sorted l) i 0 → below x l ≤ i
  entry_above g = omega (arith, below_sorted x l, at_most (sorted l) (ascending_sorted l) i x (omega (arith, length-sorted l)) g)

  pub entry_below : get_or (sorted l) i 0 < x → i < below x l
  entry_below g = omega (arith, below_sorted x l, above (sorted l) (ascending_sorted l) i x (omega (arith, length-sorted l)) g)

-- ---- all are below what is above the highest
all-below : (l : List ℕ) (x : ℕ) → highest l < x → below x l ≡ length l
unfolding below highest
all-below [] x h = refl
all-below (y ∷ ys) x h = rw (lt-ltb y x (omega arith), all-below ys x (omega arith)) (omega arith)

-- ---- in index form: no entry is above a later one
entries : (l : List ℕ) → Ascending l → (i j : ℕ) → i ≤ j → j < length l → get_or l i 0 ≤ get_or l j 0
entries [] a i j h g = absurd (omega arith)
entries (y ∷ ys) (more f r) zero zero h g = omega arith
entries (y ∷ ys) (more f r) zero (suc j) h g = from_at y ys j f (omega arith)
entries (y ∷ ys) (more f r) (suc i) zero h g = absurd (omega arith)
entries (y ∷ ys) (more f r) (suc i) (suc j) h g = entries ys r i j (omega arith) (omega arith)

pub sorted_entries : (l : List ℕ) (i j : ℕ) → i ≤ j → j < length l → get_or (sorted l) i 0 ≤ get_or (sorted l) j 0
sorted_entries l i j h g = entries (sorted l) (ascending_sorted l) i j h (omega (arith, length-sorted l))

-- ---- the entry at a quarter
module _ (l : List ℕ) (h : 0 < length l) where
  abbrev index : ℕ
  index = length l / 4

  quarter : index < length l
  quarter = omega arith

  pub keep_from_least : (x : ℕ) → below x l ≤ index → x ≤ keep_from l
  unfolding keep_from
  keep_from_least x b = elim (dec_lt (get_or (sorted l) index 0) x) [
    | yes g ↦ absurd (omega (arith, entry_below l index x quarter g))
    | no g ↦ omega arith
  ]

  pub keep_from_most : (x : ℕ) → index < below x l → keep_from l < x
  unfolding keep_from
  keep_from_most x b = elim (dec_le x (get_or (sorted l) index 0)) [
    | yes g ↦ absurd (omega (arith, entry_above l index x quarter g))
    | no g ↦ omega arith
  ]

  pub keep_from_highest : keep_from l ≤ highest l
  keep_from_highest = omega (arith, keep_from_most (highest l + 1) (omega (arith, all-below l (highest l + 1) (omega arith))))

  -- one of the numbers is not above it
  pub keep_from_there : 0 < below (keep_from l + 1) l
  unfolding keep_from
  keep_from_there = omega (arith, entry_below l index (get_or (sorted l) index 0 + 1) quarter (omega arith))

-- of none it is 0
pub keep_from_none : (l : List ℕ) → length l ≡ 0 → keep_from l ≡ 0
unfolding keep_from sorted
keep_from_none [] e = refl
keep_from_none (x ∷ xs) e = absurd (omega arith)
