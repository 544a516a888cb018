-- A double above 1 by its bit pattern: it is infinite, or s × 2 ^ (o - 52) with a significand s of 53 digits and its octave o. Assumes nothing.
use Rattle.std.proofs.Common.{◌≡◌, ℕ, zero, suc, ◌+◌, ◌-◌, ◌*◌, ◌/◌, ◌%◌, ◌^◌, ◌<◌, ◌≤◌, Bool, true, false, cond, not, T, eqb, leb, sym, refl, ap, ◌∙◌, subst, true≢false, le_trans, le_of_eq, lt_of_lt_of_le, not-suc-le-zero, le_of_lt, mul-le-mul_right, mod-lt, lt_of_mul-lt-mul_right, not-le_of_lt, arith, lit<, pow_pos, pow_mono, pow-add, ltb-true, eqb-true, leb-false}
use native.Mathlib.Nat.{mul-lt-mul_of_pos_left}
use native.Mathlib.Decide.{dec_le}
use borrow.Author.Tests.{eqb-false}
use lib.Ieee as Ieee
use lib.Ieee.{Float, nan, inf, fin, binary64, up, down, fits, odd, of_fields, of_bits, to_bits}
use lib.Ieee.Bits.{of_bits-to_bits}
use lib.Ieee.Exact.{HasValue, odd_sign}
use Rattle.ieee.specs.Doubles.{one}

-- ---- what 1 < x says of a number of value a / c
more : (x : Float) (a c : ℕ) → 0 < c → HasValue x false a c → Ieee.lt one x ≡ true → c < a
unfolding Ieee.lt of_bits
more nan a c p h l = absurd h
more (inf t) a c p h l = absurd h
more (fin true m e) a c p h l = absurd (true≢false h.0)
more (fin false m e) a c p h l = go (m * up e) (down e) h.1 (ltb-true (1 * 1 * down e) (m * up e * 1) l)
  where
    nonlinear : (n d : ℕ) → n * c ≡ a * d → 1 * 1 * d < n * 1 → c * d < a * d
    nonlinear n d v k = let m : c * (1 * 1 * d) < c * (n * 1) = mul-lt-mul_of_pos_left k p in omega arith

    go : (n d : ℕ) → n * c ≡ a * d → 1 * 1 * d < n * 1 → c < a
    go n d v k = lt_of_mul-lt-mul_right d (nonlinear n d v k)

not_negative : (x : Float) (a c : ℕ) → HasValue x true a c → Ieee.lt one x ≡ true → ⊥
unfolding Ieee.lt of_bits
not_negative nan a c h l = absurd h
not_negative (inf t) a c h l = absurd h
not_negative (fin true m e) a c h l = absurd (true≢false (sym l))
not_negative (fin false m e) a c h l = absurd (true≢false (sym h.0))

pub not_nan : (x : Float) → Ieee.lt one x ≡ true → T (not (Ieee.is_nan x))
unfolding Ieee.lt Ieee.is_nan of_bits
not_nan nan l = absurd (true≢false (sym l))
not_nan (inf s) l = tt
not_nan (fin s m e) l = tt

-- ---- by the pattern's fields: the sign, the exponent's field k and the digits t
pub record Above (x : Float) (k t : ℕ) : Type 0 where
  pub octave : 1023 ≤ k
  pub finite : k < 2047 → HasValue x false ((2 ^ 52 + t) * 2 ^ (1022 + (k - 1023))) (2 ^ 1074)
  pub infinite : 2047 ≤ k → x ≡ inf false

-- 2 ^ 1074 < s × 2 ^ k, for an s of 53 digits
high : (s k : ℕ) → s < 2 ^ 53 → 2 ^ 1074 < s * 2 ^ k → 1022 ≤ k
high s k l h = elim (dec_le 1022 k) [
  | yes g ↦ g
  | no g ↦
      absurd (not-le_of_lt (lt_of_lt_of_le h (mul-le-mul_right (2 ^ k) (le_of_lt l)))
      (le_trans (le_of_eq (sym (pow-add 2 53 k))) (pow_mono {i = 53 + k} {j = 1074} (omega arith))))
]

significand : (s : Bool) (q k : ℕ) → q < 2 ^ 53 → Ieee.lt one (odd 53 s q k 1074) ≡ true → (s ≡ false) × (1022 ≤ k)
significand true q k h l = absurd (not_negative (odd 53 true q k 1074) (q * 2 ^ k) (2 ^ 1074) (odd_sign 53 true q k 1074) l)
significand false q k h l = (refl, high q k h (more (odd 53 false q k 1074) (q * 2 ^ k) (2 ^ 1074) (pow_pos 1074) (odd_sign 53 false q k 1074) l))

endless : (s b : Bool) → Ieee.lt one (cond b (inf s) nan) ≡ true → (s ≡ false) × (cond b (inf s) nan ≡ inf false)
unfolding Ieee.lt of_bits
endless s false l = absurd (true≢false (sym l))
endless true true l = absurd (true≢false (sym l))
endless false true l = (refl, refl)

by_fields : (s : Bool) (k t : ℕ) → k < 2048 → t < 2 ^ 52 → Ieee.lt one (of_fields binary64 s k t) ≡ true → (s ≡ false) × Above (of_fields binary64 s k t) k t
unfolding of_fields
by_fields s zero t w h l = let z : 1022 ≤ 0 = (significand s t 0 (omega arith) l).1 in absurd (not-suc-le-zero z)
by_fields s (suc k) t w h l = go (eqb (suc k) 2047) refl l
  where
    go : (b : Bool) → eqb (suc k) 2047 ≡ b → Ieee.lt one (cond b (cond (eqb t 0) (inf s) nan) (odd 53 s (2 ^ 52 + t) k 1074)) ≡ true
        → (s ≡ false) × Above (cond b (cond (eqb t 0) (inf s) nan) (odd 53 s (2 ^ 52 + t) k 1074)) (suc k) t
    go true e l =
        let top : suc k ≡ 2047 = eqb-true (suc k) 2047 e in
        let z = endless s (eqb t 0) l in
        (z.0, record { octave = omega arith; finite = λ g. absurd (not-le_of_lt g (le_of_eq (sym top))); infinite = λ g. z.1 })
    go false e l =
        let z = significand s (2 ^ 52 + t) k (omega arith) l in
        let o : 1022 ≤ k = z.1 in
        let place : k ≡ 1022 + (suc k - 1023) = omega arith in (
          z.0,
          record {
            octave = omega arith;
            finite = λ g. subst (λ (i : ℕ). HasValue (odd 53 s (2 ^ 52 + t) k 1074) false ((2 ^ 52 + t) * 2 ^ i) (2 ^ 1074)) place
                (subst (λ (b : Bool). HasValue (odd 53 s (2 ^ 52 + t) k 1074) b ((2 ^ 52 + t) * 2 ^ k) (2 ^ 1074)) z.0 (odd_sign 53 s (2 ^ 52 + t) k 1074));
            infinite = λ g. absurd (eqb-false (suc k) 2047 e (omega arith));
          },
        )

-- ---- by the bit pattern
pub above : (x : Float) → T (fits binary64 x) → Ieee.lt one x ≡ true → Above x (to_bits binary64 x / 2 ^ 52) (to_bits binary64 x % 2 ^ 52)
unfolding of_bits
above x f l =
    let u : ℕ = to_bits binary64 x in
    let is : of_fields binary64 (leb (2 ^ 63) u) (u % 2 ^ 63 / 2 ^ 52) (u % 2 ^ 52) ≡ x = of_bits-to_bits binary64 x f in
    let z = by_fields (leb (2 ^ 63) u) (u % 2 ^ 63 / 2 ^ 52) (u % 2 ^ 52) (omega arith) (mod-lt u (lit< tt)) (ap (Ieee.lt one) is ∙ l) in
    let low : u < 2 ^ 63 = leb-false (2 ^ 63) u z.0 in
    let field : u % 2 ^ 63 / 2 ^ 52 ≡ u / 2 ^ 52 = omega arith in
    subst (λ (k : ℕ). Above x k (u % 2 ^ 52)) field (subst (λ (y : Float). Above y (u % 2 ^ 63 / 2 ^ 52) (u % 2 ^ 52)) is z.1)
