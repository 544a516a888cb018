-- Of the level: the order in which the counts are added does not matter, and that in which the buckets are walked is upward. Statements and
-- the definitions that they need; proofs/Orders proves them.
use Rattle.std.specs.Prelude.{ℕ, zero, suc, ◌+◌, ◌-◌, ◌*◌, ◌^◌, ◌<◌, ◌≤◌, ◌≡◌, List, slice_index, slice_index_or, Float}
use Rattle.std.specs.Float.Ieee as Ieee
use Rattle.ieee.specs.Doubles.{◌⊕◌, nothing, whole}
use Rattle.ieee.specs.Units.{power, Is}
use Rattle.wants.specs.Bucket.{«BUCKETS»}
use Rattle.wants.specs.Wants.{Hist, counts_of, sums_of, counted, walked, found, level}

-- the units counted in the first so many buckets, summed from the lowest up, as the Rust does
unfoldable pub counted_upward : List ℕ → ℕ → Float
counted_upward counts zero = nothing
counted_upward counts (suc b) = counted_upward counts b ⊕ whole (slice_index counts b)

-- both sums in whole numbers
unfoldable pub first_units : List ℕ → ℕ → ℕ
first_units counts zero = 0
first_units counts (suc b) = first_units counts b + slice_index counts b

unfoldable pub last_units : List ℕ → ℕ → ℕ → ℕ
last_units counts n zero = 0
last_units counts n (suc b) = last_units counts n b + slice_index counts (n - suc b)

-- each of the first n counts is a whole number from 0 to 2 ^ 32
abbrev pub Counts : List ℕ → ℕ → Type 0
Counts counts n = (i : ℕ) → i < n → slice_index counts i ≤ 2 ^ 32

-- the double x is the whole number n exactly
abbrev pub Holds : Float → ℕ → Type 0
Holds x n = Is x (n * power 1074)

-- in either order every partial sum is a whole number that a double holds, and the totals are equal
pub record EitherOrder (counts : List ℕ) (n : ℕ) : Type 0 where
  pub upward : (b : ℕ) → b ≤ n → Holds (counted_upward counts b) (first_units counts b)
  pub downward : (b : ℕ) → b ≤ n → Holds (counted counts n b) (last_units counts n b)
  pub total : counted counts n n ≡ counted_upward counts n

-- for any number of buckets whose counts come to 2 ^ 53 at most
abbrev pub Total : Type 0
Total = (counts : List ℕ) (n : ℕ) → n * 2 ^ 32 ≤ 2 ^ 53 → Counts counts n → EitherOrder counts n

-- the level where the counts are summed from the lowest bucket up
unfoldable pub level_upward : Hist → ℕ → Float → Float
level_upward h d rate = found (walked (counts_of h d) (sums_of h d) rate (counted_upward (counts_of h d) «BUCKETS») «BUCKETS»)

abbrev pub SameLevel : Type 0
SameLevel = (h : Hist) (d : ℕ) (rate : Float) → Counts (counts_of h d) «BUCKETS» → level h d rate ≡ level_upward h d rate

-- the same count and the same sum of wants in each of the first so many buckets
abbrev pub Alike : List ℕ → List Float → List ℕ → List Float → ℕ → Type 0
Alike counts sums counts' sums' b = (i : ℕ) → i < b → (slice_index counts i ≡ slice_index counts' i) × (slice_index_or sums i Ieee.nan ≡ slice_index_or sums' i Ieee.nan)

-- the wants are walked upward: what the first so many buckets come to is told by them alone
abbrev pub Upward : Type 0
Upward =
    (counts counts' : List ℕ) (sums sums' : List Float) (rate units : Float) (b : ℕ) → Alike counts sums counts' sums' b
    → walked counts sums rate units b ≡ walked counts' sums' rate units b
