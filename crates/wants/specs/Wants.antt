-- The histogram of wants, its clearing and filling, and the level found from it. Definitions only.
use Rattle.std.specs.Prelude.{ℕ, zero, suc, ◌+◌, ◌-◌, ◌%◌, ◌^◌, cond, List, [], get_or, replicate, ◌==◌, slice_index, slice_index_or, slice_set, Float}
use Rattle.std.specs.Float.Ieee as Ieee
use Rattle.ieee.specs.Doubles.{◌⊕◌, ◌⊖◌, ◌⊗◌, ◌⊘◌, ◌⊴◌, nothing, whole, infinity}
use Rattle.flow.specs.Flow.{dims}
use Rattle.wants.specs.Bucket.{«BUCKETS», bucket_of}

-- ---- what is lent: for each dimension a count and a sum for each bucket
pub record Hist : Type 0 where
  pub counts : List (List ℕ)
  pub sums : List (List Float)

abbrev pub hist : List (List ℕ) → List (List Float) → Hist
hist counts sums = record { counts = counts; sums = sums }

-- one dimension's counts and sums
abbrev pub counts_of : Hist → ℕ → List ℕ
counts_of h d = slice_index_or h.counts d []

abbrev pub sums_of : Hist → ℕ → List Float
sums_of h d = slice_index_or h.sums d []

-- ---- as a scan begins: all zero
unfoldable pub cleared : Hist
cleared = record { counts = replicate dims (replicate «BUCKETS» 0); sums = replicate dims (replicate «BUCKETS» nothing) }

-- ---- a want is added to its bucket, in one dimension; the count wraps
unfoldable pub one_more : List ℕ → ℕ → List ℕ
one_more counts b = slice_set counts b ((slice_index counts b + 1) % 2 ^ 32)

unfoldable pub plus : List Float → ℕ → Float → List Float
plus sums b want = slice_set sums b (get_or sums b Ieee.nan ⊕ want)

unfoldable pub added : Hist → ℕ → Float → Hist
added h d want = record {
  counts = slice_set h.counts d (one_more (counts_of h d) (bucket_of want));
  sums = slice_set h.sums d (plus (sums_of h d) (bucket_of want) want);
}

-- ---- the level of one dimension

-- the units counted in the last so many of n buckets, summed from the highest down
unfoldable pub counted : List ℕ → ℕ → ℕ → Float
counted counts n zero = nothing
counted counts n (suc b) = counted counts n b ⊕ whole (slice_index counts (n - suc b))

-- The walk over the buckets: so far all of them fit, with so much of the rate left and so many units remaining; or it has stopped, at a level.
pub data Walk : Type 0 where
  fits : Float → Float → Walk
  stopped : Float → Walk

-- A bucket of so many units, above none, and their sum: it fits where its mean want, taken for all the units that remain, is within what is left.
abbrev pub filled : Float → Float → Float → Float → Walk
filled count sum left remaining =
    cond (sum ⊘ count ⊗ remaining ⊴ left)
    (fits (left ⊖ sum) (remaining ⊖ count))
    (stopped (left ⊘ remaining))

-- one bucket more; an empty one changes nothing
unfoldable pub next : ℕ → Float → Walk → Walk
next count sum (stopped level) = stopped level
next count sum (fits left remaining) = cond (count == 0) (fits left remaining) (filled (whole count) sum left remaining)

-- the first so many buckets, from the lowest up, of all in which so many units are counted
unfoldable pub walked : List ℕ → List Float → Float → Float → ℕ → Walk
walked counts sums rate units zero = fits rate units
walked counts sums rate units (suc b) = next (slice_index counts b) (slice_index_or sums b Ieee.nan) (walked counts sums rate units b)

-- where every bucket fits there is no level
unfoldable pub found : Walk → Float
found (fits left remaining) = infinity
found (stopped level) = level

unfoldable pub level : Hist → ℕ → Float → Float
level h d rate = found (walked (counts_of h d) (sums_of h d) rate (counted (counts_of h d) «BUCKETS» «BUCKETS») «BUCKETS»)
