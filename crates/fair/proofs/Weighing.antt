-- The numbers of a judgement on one record. Assumes nothing.
use mathlib.Core.Path.{◌≡◌, ap}
use Prim.Native.Nat.{ℕ, ◌+◌, ◌-◌, ◌*◌, ◌≤◌, min}
use native.Mathlib.Nat.{lt_of_not-le, mul-le-mul, mul-le-mul_left, mul-le-mul_right}
use native.Mathlib.Omega.{arith}
use native.Mathlib.Decide.{dec_le}
use Rattle.fair.specs.Bounds.{most_depth}

-- ---- the numbers. c was held at time a, r is met `now` at the fill f, x of it is admitted and c' left; F' is the highest fill then. g is 1000 * (H + n / 1024) in units.
module _ (r c c' xu f F F' a now z k Au g e : ℕ) (pay : c' + xu ≡ r) (f' : f ≤ F') (F'' : F ≤ F') (cap : r ≤ 4 * f) where
  pub from_clear : z ≤ now → k ≤ now → 1000 * Au ≤ (k - z) * F + g → 1000 * (xu + Au + min c' (4 * F')) ≤ (most_depth + (now - z)) * F' + (g + 1000 * e)
  from_clear o o' i =
      let m : (k - z) * F ≤ (now - z) * F' = mul-le-mul (omega arith) F'' in
      joined (now - z) (min c' (4 * F')) (omega arith)
    where
      joined : (d m : ℕ) → (1000 * Au ≤ d * F' + g) × (m ≤ c') → 1000 * (xu + Au + m) ≤ (most_depth + d) * F' + (g + 1000 * e)
      joined d m h = omega arith

  pub from_live : z ≤ a → a ≤ now → 1000 * r ≤ 1000 * c + f * (now - a) + 1000 * e → 1000 * (Au + min c (4 * F)) ≤ (most_depth + (a - z)) * F + g
      → 1000 * (xu + Au + min c' (4 * F')) ≤ (most_depth + (now - z)) * F' + (g + 1000 * e)
  from_live o o' most i =
      let split : now - z ≡ (a - z) + (now - a) = omega arith in
      let s : (now - z) * F' ≡ ((a - z) + (now - a)) * F' = ap (λ (d : ℕ). d * F') split in
      let m1 : (a - z) * F ≤ (a - z) * F' = mul-le-mul_left (a - z) F'' in
      let m2 : f * (now - a) ≤ F' * (now - a) = mul-le-mul_right (now - a) f' in
      joined (a - z) (now - a) (now - z) s m1 m2 most i
    where
      joined : (d d' d'' : ℕ) → d'' * F' ≡ (d + d') * F' → d * F ≤ d * F' → f * d' ≤ F' * d' → 1000 * r ≤ 1000 * c + f * d' + 1000 * e → 1000 * (Au + min c (4 * F)) ≤ (most_depth + d) * F + g
          → 1000 * (xu + Au + min c' (4 * F')) ≤ (most_depth + d'') * F' + (g + 1000 * e)
      joined d d' d'' s m1 m2 most i = elim (dec_le c (4 * F)) [ yes h ↦ omega arith | no h ↦ omega (arith, lt_of_not-le h) ]
