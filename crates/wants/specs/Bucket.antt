-- The bucket of a want, in whole numbers: a double m × 2 ^ e is the fraction m × up e / down e. Definitions only.
use Rattle.std.specs.Prelude.{ℕ, zero, suc, ◌+◌, ◌-◌, ◌*◌, ◌^◌, ◌<◌, ◌≤◌, Bool, true, false, cond, nat_le, Float}
use Rattle.std.specs.Float.{nan, inf, fin}
use Rattle.std.specs.Float.Ieee.{up, down}
use Rattle.ieee.specs.Doubles.{◌⊲◌, one}

-- buckets to an octave of wants, and octaves, from a want of 1 on
abbrev pub BUCKETS_PER_OCTAVE : ℕ
BUCKETS_PER_OCTAVE = 16

abbrev pub «OCTAVES» : ℕ
«OCTAVES» = 48

-- buckets of the histogram, for each dimension
abbrev pub «BUCKETS» : ℕ
«BUCKETS» = BUCKETS_PER_OCTAVE * «OCTAVES»

-- 2 ^ b ≤ x ^ 16, both sides multiplied by the denominator
unfoldable pub reaches : ℕ → Float → Bool
reaches b nan = false
reaches b (inf s) = true
reaches b (fin s m e) = nat_le (2 ^ b * down e ^ BUCKETS_PER_OCTAVE) ((m * up e) ^ BUCKETS_PER_OCTAVE)

-- the largest b up to n with 2 ^ b ≤ x ^ 16, and 0 where none above 0 has it
unfoldable pub largest : ℕ → Float → ℕ
largest zero x = 0
largest (suc b) x = cond (reaches (suc b) x) (suc b) (largest b x)

-- a want up to 1, or not-a-number, goes to bucket 0; else the largest b with 2 ^ b ≤ want ^ 16, the last bucket at most
unfoldable pub bucket_of : Float → ℕ
bucket_of want = cond (one ⊲ want) (largest («BUCKETS» - 1) want) 0

-- the want, or 1 where it is not above 1 or not-a-number
unfoldable pub at_least_one : Float → Float
at_least_one want = cond (one ⊲ want) want one

-- ---- within an octave: w = s / 2 ^ 52 lies from 1 to 2, and (2 ^ 52) ^ 16 = 2 ^ 832

-- 2 ^ j ≤ w ^ 16
unfoldable pub From : ℕ → ℕ → Type 0
From j s = 2 ^ (832 + j) ≤ s ^ 16

-- w ^ 16 < 2 ^ j
unfoldable pub Under : ℕ → ℕ → Type 0
Under j s = s ^ 16 < 2 ^ (832 + j)

-- j is the largest with 2 ^ j ≤ w ^ 16
pub record Sixteenth (s j : ℕ) : Type 0 where
  pub within : j < 16
  pub from : From j s
  pub under : Under (j + 1) s

-- a significand is at least r exactly where 2 ^ j ≤ w ^ 16
pub record Threshold (j r : ℕ) : Type 0 where
  pub from : (s : ℕ) → s < 2 ^ 53 → r ≤ s → From j s
  pub under : (s : ℕ) → s < 2 ^ 53 → s < r → Under j s
