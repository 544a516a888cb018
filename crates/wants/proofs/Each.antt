-- A test that passes at each place below n, computed once. Assumes nothing.
use Rattle.std.proofs.Common.{ℕ, zero, suc, ◌<◌, Bool, true, ◌&&◌, T, sym, subst, inl, inr, le_of_suc-le-suc, not-suc-le-zero, eq-or-lt_of_le}
use lib.Ieee.Fits.{and_l, and_r}

unfoldable pub upto : (ℕ → Bool) → ℕ → Bool
upto f zero = true
upto f (suc n) = f n && upto f n

pub each : (f : ℕ → Bool) (n : ℕ) → T (upto f n) → (k : ℕ) → k < n → T (f k)
unfolding upto
each f zero t k h = absurd (not-suc-le-zero h)
each f (suc n) t k h = elim (eq-or-lt_of_le (le_of_suc-le-suc h)) [
  | inl e ↦ subst (λ (i : ℕ). T (f i)) (sym e) (and_l (f n) (upto f n) t)
  | inr l ↦ each f n (and_r (f n) (upto f n) t) k l
]
