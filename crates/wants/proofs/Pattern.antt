-- The bucket of a want by the bit pattern of the want, or of 1 where the want is not above 1. Assumes nothing.
use Rattle.std.proofs.Common.{◌≡◌, ℕ, ◌+◌, ◌-◌, ◌*◌, ◌/◌, ◌%◌, ◌^◌, ◌<◌, ◌≤◌, Bool, true, false, cond, not, T, sym, refl, ap, ◌∙◌, subst, arith}
use native.Mathlib.Decide.{dec_le}
use lib.Ieee as Ieee
use lib.Ieee.{Float, binary64, fits, to_bits, of_bits}
use Rattle.ieee.specs.Doubles.{one}
use Rattle.wants.specs.Bucket.{bucket_of, largest, at_least_one, Sixteenth}
use Rattle.wants.proofs.Least.{from_first, under_first}
use Rattle.wants.proofs.Even.{ordered}
use Rattle.wants.proofs.Octave.{Above, above, not_nan}
use Rattle.wants.proofs.Raised.{within, beyond, endless}

-- the exponent's field and the digits
abbrev pub field : Float → ℕ
field x = to_bits binary64 x / 2 ^ 52

abbrev pub digits : Float → ℕ
digits x = to_bits binary64 x % 2 ^ 52

-- ---- a want above 1
known : (x : Float) → fits binary64 x ≡ true → Ieee.lt one x ≡ true → Above x (field x) (digits x)
known x f l = above x (subst T (sym f) tt) l

lower_above : (x : Float) (j : ℕ) → fits binary64 x ≡ true → Ieee.lt one x ≡ true → field x - 1023 < 48 → Sixteenth (2 ^ 52 + digits x) j → 16 * (field x - 1023) + j ≡ bucket_of x
unfolding bucket_of
lower_above x j f l h z = rw l (sym (within x (2 ^ 52 + digits x) (field x - 1023) j ((known x f l).finite (omega arith)) h z))

upper_above : (x : Float) → fits binary64 x ≡ true → Ieee.lt one x ≡ true → 48 ≤ field x - 1023 → 767 ≡ bucket_of x
unfolding bucket_of
upper_above x f l h =
    let a : Above x (field x) (digits x) = known x f l in
    rw l (sym (elim (dec_le 2047 (field x)) [
      | yes g ↦ ap (largest 767) (a.infinite g) ∙ endless
      | no g ↦ beyond x (2 ^ 52 + digits x) (field x - 1023) (a.finite (omega arith)) h (from_first (2 ^ 52 + digits x) (omega arith))
    ]))

-- ---- 1
one_bits : to_bits binary64 one ≡ 0x3ff0_0000_0000_0000
unfolding to_bits of_bits
one_bits = refl

one_not_nan : T (not (Ieee.is_nan one))
unfolding Ieee.is_nan of_bits
one_not_nan = tt

none_above : (x : Float) → Ieee.lt one x ≡ false → bucket_of x ≡ 0
unfolding bucket_of
none_above x l = rw l

first : (j : ℕ) → Sixteenth (2 ^ 52) j → j ≡ 0
first j z = let h : j < 1 = ordered j 1 (2 ^ 52) z.from under_first in omega arith

-- ---- either
either : (P : Float → Type 0) (x : Float) → (Ieee.lt one x ≡ true → P x) → (Ieee.lt one x ≡ false → P one) → P (at_least_one x)
unfolding at_least_one
either P x f g = go (Ieee.lt one x) refl
  where
    go : (b : Bool) → Ieee.lt one x ≡ b → P (cond b x one)
    go true l = f l
    go false l = g l

pub number : (x : Float) → T (not (Ieee.is_nan (at_least_one x)))
number x = either (λ (y : Float). T (not (Ieee.is_nan y))) x (not_nan x) (λ l. one_not_nan)

module _ (x : Float) (f : fits binary64 x ≡ true) where
  pub octave : 1023 ≤ field (at_least_one x)
  octave = either (λ (y : Float). 1023 ≤ field y) x (λ l. (known x f l).octave) (λ l. rw one_bits (omega arith))

  pub lower : (j : ℕ) → field (at_least_one x) - 1023 < 48 → Sixteenth (2 ^ 52 + digits (at_least_one x)) j → 16 * (field (at_least_one x) - 1023) + j ≡ bucket_of x
  lower j = either (λ (y : Float). field y - 1023 < 48 → Sixteenth (2 ^ 52 + digits y) j → 16 * (field y - 1023) + j ≡ bucket_of x) x (λ l. lower_above x j f l) (λ l h z. at_one l (rw one_bits at z))
    where
      at_one : Ieee.lt one x ≡ false → Sixteenth (2 ^ 52) j → 16 * (field one - 1023) + j ≡ bucket_of x
      at_one l z = rw (one_bits, none_above x l) (omega (arith, first j z))

  pub upper : 48 ≤ field (at_least_one x) - 1023 → 767 ≡ bucket_of x
  upper = either (λ (y : Float). 48 ≤ field y - 1023 → 767 ≡ bucket_of x) x (upper_above x f) (λ l h. absurd (not_high h))
    where
      not_high : 48 ≤ field one - 1023 → ⊥
      not_high h = let z : 48 ≤ 0x3ff0_0000_0000_0000 / 2 ^ 52 - 1023 = rw one_bits at h in omega arith
