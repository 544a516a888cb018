-- How `rounded` moves w / c: by at most half of the last digit that it keeps, in order, and not at all where 53 digits do. Assumes nothing.
use mathlib.Core.Path.{◌≡◌, sym, ap, ◌∙◌, subst}
use mathlib.Core.Logic.{inl, inr}
use Prim.Native.Nat.{ℕ, suc, ◌+◌, ◌-◌, ◌*◌, ◌/◌, ◌%◌, ◌^◌, ◌≤◌, ◌<◌, compare, Ordering, zero-le}
use native.Mathlib.Nat.{le_of_lt, le_trans, le_of_eq, le_antisymm, lt_of_le_of_lt, mul_comm, mul_assoc, mul_left_comm, mul-le-mul_right, mul-lt-mul_of_pos_right, mul-pos, mod-lt, div-add-mod', div-lt_iff_lt-mul, le-div_iff_mul-le, div-div-eq-div-mul, le_of_mul-le-mul_right, eq-or-lt_of_le, one-mul}
use native.Mathlib.Omega.{arith}
use mathlib.Core.Bool.{not}
use lib.Dec.{T, is_le, compare_is_eq, leb→le, nleb→lt, eqb→eq, lit<}
use lib.Pow.{pow-add, pow_pos, pow_mono}
use lib.Ieee.{nearest, size}
use lib.Ieee.Digits.{size-le, size-lt, size_reaches}
use lib.Ieee.Fits.{kept-lt, nearest-le}
use lib.Ieee.Nearest.{closest, closest_mono, nearest-ge, div_mono}
use lib.Ieee.Order.{drop, kept}
use Rattle.ieee.specs.Units.{power, rounded}
use Rattle.ieee.proofs.Power.{power_suc, power_lt, power_lt_back, power_add, power_zero}

-- ---- `closest n u`, n / u to the nearest whole number
-- with w whole parts of u and a rest r, the nearest whole number of parts is within half a part
step : (w r u : ℕ) (o : Ordering) → r < u → (T (is_le o) → r * 2 ≤ u) → (T (not (is_le o)) → u < r * 2) → (T (compare_is_eq o) → r * 2 ≡ u)
    → (nearest w o * u * 2 ≤ (w * u + r) * 2 + u) × ((w * u + r) * 2 ≤ nearest w o * u * 2 + u)
step w r u Ordering.lt l a b e = let h = a tt in omega arith
step w r u Ordering.eq l a b e = tie (w % 2) (below_two w) (e tt)
  where
    below_two : (w : ℕ) → w % 2 < 2
    below_two w = omega arith

    tie : (t : ℕ) → t < 2 → r * 2 ≡ u → ((w + t) * u * 2 ≤ (w * u + r) * 2 + u) × ((w * u + r) * 2 ≤ (w + t) * u * 2 + u)
    tie t k h = let p : t * u ≤ 1 * u = mul-le-mul_right u (omega arith) in omega arith
step w r u Ordering.gt l a b e = let h = b tt in omega arith

pub closest_error : (n u : ℕ) → 0 < u → (closest n u * u * 2 ≤ n * 2 + u) × (n * 2 ≤ closest n u * u * 2 + u)
closest_error n u U =
    subst (λ (m : ℕ). (closest n u * u * 2 ≤ m * 2 + u) × (m * 2 ≤ closest n u * u * 2 + u)) (div-add-mod' n u)
    (step (n / u) (n % u) u (compare (n % u * 2) u) (mod-lt n U) (leb→le (n % u * 2) u) (nleb→lt (n % u * 2) u) (eqb→eq (n % u * 2) u))

-- twice a number is at most twice another and one: it is no larger
halves : (a b u : ℕ) → 0 < u → a * u * 2 ≤ b * u * 2 + u → a ≤ b
halves a b u U h = let k : a * 2 ≤ b * 2 + 1 = le_of_mul-le-mul_right {k = u} (omega arith) U in omega arith

closest_exact : (r u : ℕ) → 0 < u → closest (r * u) u ≡ r
closest_exact r u U =
    let e = closest_error (r * u) u U in
    le_antisymm (halves (closest (r * u) u) r u U e.0) (halves r (closest (r * u) u) u U e.1)

-- ---- n / c, rounded to p digits
less : (z p h : ℕ) → z ≤ p + h → z - p ≤ h
less z p h l = omega arith

drop_le : (p h n c : ℕ) → 0 < c → n < 2 ^ (p + h) * c → drop p n c ≤ h
drop_le p h n c C l = less (size (n / c)) p h (size-le (n / c) (p + h) ((div-lt_iff_lt-mul C).1 l))

-- below 2 ^ (p + h) it is within half of 2 ^ h
kept_error : (p h n c : ℕ) → 0 < c → n < 2 ^ (p + h) * c
    → (kept p n c * 2 ^ drop p n c * c * 2 ≤ n * 2 + 2 ^ h * c) × (n * 2 ≤ kept p n c * 2 ^ drop p n c * c * 2 + 2 ^ h * c)
kept_error p h n c C l =
    let k = drop p n c in
    let q = kept p n c in
    let e = closest_error n (c * 2 ^ k) (mul-pos C (pow_pos k)) in
    let same : q * (c * 2 ^ k) ≡ q * 2 ^ k * c = simp (mul_assoc, mul_comm, mul_left_comm) in
    let most : 2 ^ k * c ≤ 2 ^ h * c = mul-le-mul_right c (pow_mono (drop_le p h n c C l)) in
    omega arith

-- q * 2 ^ j, with a q of p digits, stays as it is
kept_exact : (p q j c : ℕ) → 0 < c → q < 2 ^ p → kept p (q * 2 ^ j * c) c * 2 ^ drop p (q * 2 ^ j * c) c ≡ q * 2 ^ j
kept_exact p q j c C small =
    let n = q * 2 ^ j * c in
    let k = drop p n c in
    let fewer : k ≤ j = drop_le p j n c C (mul-lt-mul_of_pos_right (subst (λ (x : ℕ). q * 2 ^ j < x) (sym (pow-add 2 p j)) (mul-lt-mul_of_pos_right small (pow_pos j))) C) in
    let r = q * 2 ^ (j - k) in
    let split : r * 2 ^ k ≡ q * 2 ^ j = mul_assoc q (2 ^ (j - k)) (2 ^ k) ∙ ap (λ (x : ℕ). q * x) (sym (pow-add 2 (j - k) k) ∙ ap (λ (x : ℕ). 2 ^ x) (omega arith)) in
    let e : n ≡ r * (c * 2 ^ k) = ap (λ (x : ℕ). x * c) (sym split) ∙ mul_assoc r (2 ^ k) c ∙ ap (λ (x : ℕ). r * x) (mul_comm (2 ^ k) c) in
    ap (λ (x : ℕ). x * 2 ^ k) (ap (λ (x : ℕ). closest x (c * 2 ^ k)) e ∙ closest_exact r (c * 2 ^ k) (mul-pos C (pow_pos k))) ∙ split

-- ---- the order: as `lib.Ieee.Order` has it of `round`, here with no largest value in the way
kept-le : (p n c : ℕ) → kept p n c ≤ 2 ^ p
kept-le p n c =
    let k = drop p n c in
    le_trans (nearest-le (n / (c * 2 ^ k)) (compare (n % (c * 2 ^ k) * 2) (c * 2 ^ k))) (subst (λ (x : ℕ). x < 2 ^ p) (div-div-eq-div-mul n c (2 ^ k)) (kept-lt p (n / c)))

-- where digits are dropped, all p digits are in use
kept-ge : (p n c : ℕ) → 0 < drop (suc p) n c → 2 ^ p ≤ kept (suc p) n c
kept-ge p n c K =
    let k = drop (suc p) n c in
    let w = n / c in
    let reaches : p + k < size w = in_use (size w) K in
    let a : 2 ^ p * 2 ^ k ≤ w = le_trans (le_of_eq (sym (pow-add 2 p k))) (size_reaches w (p + k) reaches) in
    le_trans (subst (λ (x : ℕ). 2 ^ p ≤ x) (div-div-eq-div-mul n c (2 ^ k)) ((le-div_iff_mul-le (pow_pos k)).1 a)) (nearest-ge (n / (c * 2 ^ k)) (compare (n % (c * 2 ^ k) * 2) (c * 2 ^ k)))
  where
    in_use : (z : ℕ) → 0 < z - suc p → p + (z - suc p) < z
    in_use z h = omega arith

same_drop : (k a b c d : ℕ) → 0 < b → 0 < d → a * d ≤ c * b → closest a (b * 2 ^ k) * 2 ^ k ≤ closest c (d * 2 ^ k) * 2 ^ k
same_drop k a b c d B D h =
    mul-le-mul_right (2 ^ k)
    (closest_mono a (b * 2 ^ k) c (d * 2 ^ k) (mul-pos B (pow_pos k)) (mul-pos D (pow_pos k)) (let m = mul-le-mul_right (2 ^ k) h in omega arith))

-- either both drop as many digits, or a power of two lies between the two results
kept_mono : (p a b c d : ℕ) → 0 < b → 0 < d → a * d ≤ c * b → kept (suc p) a b * 2 ^ drop (suc p) a b ≤ kept (suc p) c d * 2 ^ drop (suc p) c d
kept_mono p a b c d B D h =
    let j = drop (suc p) a b in
    let k = drop (suc p) c d in
    let sizes : size (a / b) ≤ size (c / d) = size-le (a / b) (size (c / d)) (lt_of_le_of_lt (div_mono a b c d B D h) (size-lt (c / d))) in
    elim (eq-or-lt_of_le (fewer (size (a / b)) (size (c / d)) sizes)) [
      | inl e ↦ subst (λ (x : ℕ). closest a (b * 2 ^ x) * 2 ^ x ≤ kept (suc p) c d * 2 ^ k) (sym e) (same_drop k a b c d B D h)
      | inr l ↦
          le_trans (mul-le-mul_right (2 ^ j) (kept-le (suc p) a b))
          (le_trans (le_of_eq (sym (pow-add 2 (suc p) j)))
          (le_trans (pow_mono (room j k l))
          (le_trans (le_of_eq (pow-add 2 p k)) (mul-le-mul_right (2 ^ k) (kept-ge p c d (lt_of_le_of_lt zero-le l))))))
    ]
  where
    fewer : (x y : ℕ) → x ≤ y → x - suc p ≤ y - suc p
    fewer x y l = omega arith

    room : (j k : ℕ) → j < k → suc p + j ≤ p + k
    room j k l = omega arith

-- ---- with both parts of the fraction times l, as `rounded` has them
abbrev cut : ℕ → ℕ → ℕ → ℕ
cut p n c = kept p n c * 2 ^ drop p n c

scaled_exact : (p q j w c l : ℕ) → 0 < c → 0 < l → q < 2 ^ p → w ≡ q * 2 ^ j * c → cut p (w * l) (c * l) ≡ q * 2 ^ j
scaled_exact p q j w c l C L small e =
    ap (λ (n : ℕ). cut p n (c * l)) (ap (λ (x : ℕ). x * l) e ∙ mul_assoc (q * 2 ^ j) c l) ∙ kept_exact p q j (c * l) (mul-pos C L) small

scaled_error : (p h w c l : ℕ) → 0 < c → 0 < l → 1 < 2 ^ p → w ≤ 2 ^ (p + h) * c
    → (cut p (w * l) (c * l) * c * 2 ≤ w * 2 + 2 ^ h * c) × (w * 2 ≤ cut p (w * l) (c * l) * c * 2 + 2 ^ h * c)
scaled_error p h w c l C L P b = elim (eq-or-lt_of_le b) [
  | inl e ↦
      let x : cut p (w * l) (c * l) * c ≡ 1 * 2 ^ (p + h) * c = ap (λ (x : ℕ). x * c) (scaled_exact p 1 (p + h) w c l C L P (omega arith)) in
      omega arith
  | inr m ↦
      let r = kept_error p h (w * l) (c * l) (mul-pos C L) (let k = mul-lt-mul_of_pos_right m L in omega arith) in
      (le_of_mul-le-mul_right {k = l} (let a = r.0 in omega arith) L, le_of_mul-le-mul_right {k = l} (let a = r.1 in omega arith) L)
]

scaled_mono : (p w c v d l : ℕ) → 0 < c → 0 < d → 0 < l → w * d ≤ v * c → cut (suc p) (w * l) (c * l) ≤ cut (suc p) (v * l) (d * l)
scaled_mono p w c v d l C D L h = kept_mono p (w * l) (c * l) (v * l) (d * l) (mul-pos C L) (mul-pos D L) (let m = mul-le-mul_right (l * l) h in omega arith)

-- ---- `rounded`: the laws that the rest goes by. w / c is the fraction, in units.
module _ (w c : ℕ) (positive : 0 < c) where
  -- up to 2 ^ (53 + h) the error is at most half of 2 ^ h
  pub rounded_near_half : (h : ℕ) → w ≤ power (53 + h) * c → (rounded w c * c * 2 ≤ w * 2 + power h * c) × (w * 2 ≤ rounded w c * c * 2 + power h * c)
  unfolding rounded power
  rounded_near_half h b = scaled_error 53 h w c (2 ^ 1074) positive (pow_pos 1074) (lit< tt) b

  -- up to 2 ^ (54 + g) the error is at most 2 ^ g
  pub rounded_near : (g : ℕ) → w ≤ power (54 + g) * c → (rounded w c * c ≤ w + power g * c) × (w ≤ rounded w c * c + power g * c)
  rounded_near g b =
      let e : power (suc g) * c ≡ 2 * power g * c = ap (λ (x : ℕ). x * c) (power_suc g) in
      let n : 54 + g ≡ 53 + suc g = omega arith in
      let r = rounded_near_half (suc g) (le_trans b (le_of_eq (ap (λ (x : ℕ). power x * c) n))) in
      omega arith

  -- a number of at most 53 digits and zeros behind them stays as it is
  pub rounded_exact : (q j : ℕ) → q < power 53 → w ≡ q * power j * c → rounded w c ≡ q * power j
  unfolding rounded power
  rounded_exact q j small e = scaled_exact 53 q j w c (2 ^ 1074) positive (pow_pos 1074) small e

  -- of two fractions the larger is rounded to what is no smaller
  pub rounded_mono : (v d : ℕ) → 0 < d → w * d ≤ v * c → rounded w c ≤ rounded v d
  unfolding rounded power
  rounded_mono v d D h = scaled_mono 52 w c v d (2 ^ 1074) positive D (pow_pos 1074) h

-- w / c is from 2 ^ (52 + h) up and below 2 ^ (53 + h), for some h, if it is 2 ^ 52 at least
binade : (w c : ℕ) → 0 < c → power 52 * c ≤ w → (h : ℕ) × (power (52 + h) * c ≤ w) × (w < power (53 + h) * c)
unfolding power
binade w c C b =
    let z = size (w / c) in
    let long : 52 < z = power_lt_back (lt_of_le_of_lt ((le-div_iff_mul-le C).1 b) (size-lt (w / c))) in
    let lower : 52 + (z - 53) ≡ z - 1 = omega arith in
    let upper : 53 + (z - 53) ≡ z = omega arith in (
      z - 53,
      subst (λ (k : ℕ). power k * c ≤ w) (sym lower) ((le-div_iff_mul-le C).0 (size_reaches (w / c) (z - 1) (omega arith))),
      subst (λ (k : ℕ). w < power k * c) (sym upper) ((div-lt_iff_lt-mul C).0 (size-lt (w / c))),
    )

-- from 2 ^ 52 units on the error is at most one part in 2 ^ 53
pub rounded_relative : (w c : ℕ) → 0 < c → power 52 * c ≤ w → (rounded w c * c * power 53 ≤ w * power 53 + w) × (w * power 53 ≤ rounded w c * c * power 53 + w)
rounded_relative w c C b =
    let k = binade w c C b in
    let h = k.0 in
    let e = rounded_near_half w c C h (le_of_lt k.2) in
    let part : power (52 + h) * c ≡ power 52 * power h * c = ap (λ (x : ℕ). x * c) (power_add 52 h) in
    let twice : power 53 * (power h * c) ≡ 2 * power 52 * (power h * c) = ap (λ (x : ℕ). x * (power h * c)) (power_suc 52) in
    (omega (arith, mul-le-mul_right (power 53) e.0, k.1), omega (arith, mul-le-mul_right (power 53) e.1, k.1))

-- what lies on one side of a power of two stays there
module _ (w c : ℕ) (positive : 0 < c) (k : ℕ) where
  power_stays : rounded (power k * c) c ≡ power k
  power_stays = rounded_exact (power k * c) c positive 1 k (subst (λ (x : ℕ). x < power 53) power_zero (power_lt (lit< tt))) (omega arith) ∙ one-mul (power k)

  pub rounded_most : w ≤ power k * c → rounded w c ≤ power k
  rounded_most h = le_trans (rounded_mono w c positive (power k * c) c positive (mul-le-mul_right c h)) (le_of_eq power_stays)

  pub rounded_least : power k * c ≤ w → power k ≤ rounded w c
  rounded_least h = le_trans (le_of_eq (sym power_stays)) (rounded_mono (power k * c) c positive w c positive (mul-le-mul_right c h))
