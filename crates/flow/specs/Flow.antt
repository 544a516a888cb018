-- The shedder's float core: the token bucket and one unit's use. Each function of src/ has its definition here for its contract.
-- A value with a part for each dimension is a list; its parts are given by a function of the dimension, so that the number of dimensions stands only in `dims`. Definitions only.
use Rattle.std.specs.Prelude.{ℕ, zero, suc, ◌-◌, ◌^◌, min, max, Bool, true, cond, not, ◌&&◌, List, replicate, ◌==◌, slice_index, slice_index_or, slice_set, Float}
use Rattle.std.specs.Float.Ieee as Ieee
use Rattle.ieee.specs.Doubles.{◌⊕◌, ◌⊖◌, ◌⊗◌, ◌⊘◌, nothing, one, two, four, thousand, whole}
use Rattle.ieee.specs.Extremes.{least, most}
use Rattle.fade.specs.Fade.{fade}
pub use Rattle.fade.specs.Fade.{WINDOW_MS}
use Rattle.flow.specs.declared.Dim.{Dim}
use Rattle.flow.specs.declared.Dim.TheVariants as dim
use Rattle.flow.specs.declared.Bucket.{Bucket}
use Rattle.flow.specs.declared.Use.{Use}

abbrev pub dims : ℕ
dims = 2

-- a dimension's place, and the dimension at a place
unfoldable pub dim_of : Dim → ℕ
dim_of dim.Receptions = 0
dim_of dim.Bytes = 1

unfoldable pub dim_at : ℕ → Dim
dim_at d = cond (d == 0) dim.Receptions dim.Bytes

-- the window in seconds: a rate is a faded sum over it
abbrev pub WINDOW_SECS : Float
WINDOW_SECS = two

-- the seconds of its fill that a unit's credit holds
abbrev pub CREDIT_SECS : Float
CREDIT_SECS = four

-- a rate that bounds nothing, u64::MAX
abbrev pub «UNBOUNDED» : ℕ
«UNBOUNDED» = 18446744073709551615

-- the highest rate, and the most of a ceiling that a burst holds
abbrev pub RATE_MOST : ℕ
RATE_MOST = 2 ^ 40

-- ---- the bucket
abbrev pub burst_of : ℕ → ℕ → Float
burst_of rate ceiling = most (most (whole rate) (whole (min ceiling RATE_MOST))) one

abbrev pub opened : ℕ → ℕ → Bucket
opened rate ceiling = record { tokens = burst_of rate ceiling; burst = burst_of rate ceiling; rate_per_ms = whole rate ⊘ thousand }

abbrev pub refilled : Bucket → ℕ → Bucket
refilled b elapsed = record {
  tokens = least (b.tokens ⊕ whole elapsed ⊗ b.rate_per_ms) b.burst;
  burst = b.burst;
  rate_per_ms = b.rate_per_ms;
}

-- at another rate and ceiling: burst and rate per millisecond as at a start, and of the tokens no more than the burst
abbrev pub turned : Bucket → ℕ → ℕ → Bucket
turned b rate ceiling = record {
  tokens = least b.tokens (burst_of rate ceiling);
  burst = burst_of rate ceiling;
  rate_per_ms = whole rate ⊘ thousand;
}

abbrev pub spent : Bucket → Float → Bucket
spent b cost = record { tokens = b.tokens ⊖ cost; burst = b.burst; rate_per_ms = b.rate_per_ms }

abbrev pub returned : Bucket → Float → Bucket
returned b cost = record { tokens = least (b.tokens ⊕ cost) b.burst; burst = b.burst; rate_per_ms = b.rate_per_ms }

-- ---- one dimension of a unit's use
abbrev pub seconds : ℕ → Float
seconds ms = whole ms ⊘ thousand

-- a mark of any word but 0 says that nothing was judged yet
abbrev pub is_fresh : ℕ → Bool
is_fresh mark = not (mark == 0)

-- full for a fresh unit, else what it held, filled for `idle` milliseconds, and no more than full
abbrev pub credit_of : Bool → Float → Float → ℕ → Float
credit_of fresh credit fill idle =
    cond fresh (fill ⊗ CREDIT_SECS) (least (credit ⊕ fill ⊗ seconds idle) (fill ⊗ CREDIT_SECS))

-- after a hand-back: no cap until the next judgement
abbrev pub credit_back : Float → Float → Float
credit_back credit cost = credit ⊕ cost

-- ---- over the dimensions: the parts below n anew, each by f
unfoldable pub upto : {A : Type 0} → (ℕ → A) → ℕ → List A → List A
upto f zero xs = xs
upto f (suc n) xs = slice_set (upto f n xs) n (f n)

abbrev pub each : (ℕ → Float) → List Float → List Float
each f xs = upto f dims xs

abbrev pub at : List Float → ℕ → Float
at xs d = slice_index_or xs d Ieee.nan

abbrev pub zeros : List Float
zeros = replicate dims nothing

-- whole numbers as doubles
unfoldable pub numbers : List ℕ → List Float
numbers xs = upto (λ (d : ℕ). whole (slice_index xs d)) dims zeros

-- the rate at which credit fills: the level, or the relay's rate where that is less
unfoldable pub fills : List Float → List Float → List Float
fills level rate = upto (λ (d : ℕ). least (at level d) (at rate d)) dims zeros

-- the largest of 0.0 and the parts below n
unfoldable pub largest : (ℕ → Float) → ℕ → Float
largest f zero = nothing
largest f (suc n) = most (largest f n) (f n)

-- whether each part below n passes
unfoldable pub all : (ℕ → Bool) → ℕ → Bool
all p zero = true
all p (suc n) = all p n && p n

-- ---- a unit's use
abbrev pub added : ℕ → Use
added clock = record { attempted = replicate dims nothing; credit = replicate dims nothing; at_ms = clock; fresh = 1 }

-- with other credit
abbrev pub holding : Use → List Float → Use
holding u credit = record { attempted = u.attempted; credit = credit; at_ms = u.at_ms; fresh = u.fresh }

-- with other sums of what was attempted
abbrev pub trying : Use → List Float → Use
trying u attempted = record { attempted = attempted; credit = u.credit; at_ms = u.at_ms; fresh = u.fresh }

abbrev pub credited : Use → ℕ → List Float → Use
credited u clock fill = holding u (each (λ (d : ℕ). credit_of (is_fresh u.fresh) (at u.credit d) (at fill d) (clock - u.at_ms)) u.credit)

-- the sums, faded for the time since the last judgement
abbrev pub fade_to : Use → ℕ → Use
fade_to u clock = record {
  attempted = each (λ (d : ℕ). at u.attempted d ⊗ fade (clock - u.at_ms)) u.attempted;
  credit = u.credit;
  at_ms = max u.at_ms clock;
  fresh = u.fresh;
}

-- with this batch in the sums; fresh no more
abbrev pub tried : Use → List Float → Use
tried u cost = record {
  attempted = each (λ (d : ℕ). at u.attempted d ⊕ at cost d) u.attempted;
  credit = u.credit;
  at_ms = u.at_ms;
  fresh = 0;
}

-- what a unit attempts a second: its sums faded to `t`, over the window
unfoldable pub rates : Use → ℕ → List Float
rates u t = upto (λ (d : ℕ). at u.attempted d ⊗ fade (t - u.at_ms) ⊘ WINDOW_SECS) dims zeros

abbrev pub charged : Use → List Float → Use
charged u cost = holding u (each (λ (d : ℕ). at u.credit d ⊖ at cost d) u.credit)

abbrev pub handed_back : Use → List Float → Use
handed_back u cost = record {
  attempted = each (λ (d : ℕ). most (at u.attempted d ⊖ at cost d) nothing) u.attempted;
  credit = each (λ (d : ℕ). credit_back (at u.credit d) (at cost d)) u.credit;
  at_ms = u.at_ms;
  fresh = u.fresh;
}

-- ---- the buckets, over the dimensions
abbrev pub bucket_at : List Bucket → ℕ → Bucket
bucket_at bs d = slice_index_or bs d (record { tokens = Ieee.nan; burst = Ieee.nan; rate_per_ms = Ieee.nan })

abbrev pub refilled_all : List Bucket → ℕ → List Bucket
refilled_all bs elapsed = upto (λ (d : ℕ). refilled (bucket_at bs d) elapsed) dims bs

abbrev pub turned_all : List Bucket → List ℕ → List ℕ → List Bucket
turned_all bs rate ceiling = upto (λ (d : ℕ). turned (bucket_at bs d) (slice_index rate d) (slice_index ceiling d)) dims bs

abbrev pub spent_all : List Bucket → List Float → List Bucket
spent_all bs cost = upto (λ (d : ℕ). spent (bucket_at bs d) (at cost d)) dims bs

abbrev pub returned_all : List Bucket → List Float → List Bucket
returned_all bs cost = upto (λ (d : ℕ). returned (bucket_at bs d) (at cost d)) dims bs
