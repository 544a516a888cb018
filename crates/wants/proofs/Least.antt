-- What the test of the thresholds says of every entry, and of a comparison with it. Assumes nothing.
use Rattle.std.proofs.Common.{◌≡◌, ℕ, ◌+◌, ◌-◌, ◌^◌, ◌<◌, ◌≤◌, Bool, ◌&&◌, T, ltb, leb, get_or, le_trans, lt_of_lt_of_le, lt_of_le_of_lt, not-le_of_lt, arith, lit<, refl, ltb→lt, leb→le, pow_mono}
use native.Mathlib.Nat.{pow-le-pow_left, pow-lt-pow_left}
use native.Mathlib.Decide.{ℕ_discrete, dec_lt}
use lib.Ieee.Fits.{and_l, and_r}
use Rattle.wants.specs.Bucket.{From, Under, Threshold}
use Rattle.wants.proofs.Each.{each}
use Rattle.wants.specs.declared.bucket.TheConstants.{LEAST}
use Rattle.wants.proofs.Table.{least, at, tested}

rule : (j : ℕ) → j < 16 → (2 ^ (832 + j) ≤ get_or LEAST j 0 ^ 16) × ((get_or LEAST j 0 - 1) ^ 16 < 2 ^ (832 + j))
unfolding at least
rule j h =
    let a : Bool = leb (2 ^ (832 + j)) (get_or LEAST j 0 ^ 16) in
    let b : Bool = ltb ((get_or LEAST j 0 - 1) ^ 16) (2 ^ (832 + j)) in
    let t : T (a && b) = each at 16 tested j h in
    (leb→le (2 ^ (832 + j)) (get_or LEAST j 0 ^ 16) (and_l a b t), ltb→lt ((get_or LEAST j 0 - 1) ^ 16) (2 ^ (832 + j)) (and_r a b t))

-- ---- what a comparison with an entry says
from_at : (j s : ℕ) → j < 16 → get_or LEAST j 0 ≤ s → From j s
unfolding From
from_at j s h l = le_trans (rule j h).0 (pow-le-pow_left l 16)

under_at : (j s : ℕ) → j < 16 → s < get_or LEAST j 0 → Under j s
unfolding Under
under_at j s h l = let g : s ≤ get_or LEAST j 0 - 1 = omega arith in lt_of_le_of_lt (pow-le-pow_left g 16) (rule j h).1

pub from_first : (s : ℕ) → 2 ^ 52 ≤ s → From 0 s
unfolding From
from_first s h = pow-le-pow_left h 16

-- w is 1
pub under_first : Under 1 (2 ^ 52)
unfolding Under
under_first = lit< tt

-- w is below 2
pub under_last : (j s : ℕ) → 16 ≤ j → s < 2 ^ 53 → Under j s
unfolding Under
under_last j s h l =
    let top : s ^ 16 < (2 ^ 53) ^ 16 = pow-lt-pow_left l (λ (e : 16 ≡ 0). omega arith) in
    lt_of_lt_of_le top (pow_mono {i = 848} {j = 832 + j} (omega arith))

-- ---- so each entry is its threshold
entry_below : (j : ℕ) → j < 16 → Threshold j (get_or LEAST j 0)
entry_below j h = record { from = λ s u l. from_at j s h l; under = λ s u l. under_at j s h l }

past : (j : ℕ) → 16 ≤ j → Threshold j (2 ^ 53)
past j h = record { from = λ s u l. absurd (not-le_of_lt u l); under = λ s u l. under_last j s h u }

-- the two entries from 16 on
past_is : (j : ℕ) → 16 ≤ j → j < 18 → get_or LEAST j 0 ≡ 2 ^ 53
past_is j h l = elim (ℕ_discrete j 16) [ yes e ↦ rw e refl | no n ↦ let e : j ≡ 17 = omega arith in rw e refl ]

pub entry : (j : ℕ) → j < 18 → Threshold j (get_or LEAST j 0)
entry j l = elim (dec_lt j 16) [
  | yes h ↦ entry_below j h
  | no h ↦ rw (past_is j (omega arith) l) (past j (omega arith))
]
