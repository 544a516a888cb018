-- The one test of every threshold (`LEAST` of src/bucket.rt), which antt computes. Assumes nothing.
use Rattle.std.proofs.Common.{ℕ, ◌+◌, ◌-◌, ◌^◌, Bool, ◌&&◌, T, ltb, leb, get_or}
use Rattle.wants.specs.declared.bucket.TheConstants.{LEAST}
use Rattle.wants.proofs.Each.{upto}

-- s is the least with 2 ^ (832 + j) ≤ s ^ 16
unfoldable pub least : ℕ → ℕ → Bool
least j s = leb (2 ^ (832 + j)) (s ^ 16) && ltb ((s - 1) ^ 16) (2 ^ (832 + j))

unfoldable pub at : ℕ → Bool
at j = least j (get_or LEAST j 0)

pub tested : T (upto at 16)
unfolding upto at least
tested = tt
