-- The sixteenth powers: the bucket of s × 2 ^ (o - 52) is 16 × o and the sixteenth that s stands in. Assumes nothing.
use Rattle.std.proofs.Common.{◌≡◌, ℕ, zero, suc, ◌+◌, ◌*◌, ◌^◌, ◌<◌, ◌≤◌, true, false, sym, refl, ap, ◌∙◌, subst, inl, inr, le_trans, le_of_eq, le_refl, lt_of_lt_of_le, le_of_suc-le-suc, mul-le-mul_right, suc-mul, lt_of_mul-lt-mul_right, eq-or-lt_of_le, mul-lt-mul_of_pos_right, mul-pos, pow-suc, zero-mul, not-le_of_lt, le_of_mul-le-mul_right, arith, pow_pos, pow_mono, pow-add, le-leb}
use native.Mathlib.Nat.{eq_of_mul-eq-mul_right, pow-lt-pow_left, le-suc}
use native.Mathlib.Nat.{pow-zero}
use borrow.Author.Tests.{lt-leb}
use lib.Ieee.{Float, nan, inf, fin, up, down}
use lib.Ieee.Exact.{HasValue}
use lib.Ieee.Fits.{down_pos}
use Rattle.wants.specs.Bucket.{reaches, largest, From, Under, Sixteenth}

-- ---- powers of products and of powers
mul-pow : (a b n : ℕ) → (a * b) ^ n ≡ a ^ n * b ^ n
mul-pow a b zero = simp pow-zero
mul-pow a b (suc n) = rw (pow-suc (a * b) n, pow-suc a n, pow-suc b n, mul-pow a b n) (around (a ^ n) (b ^ n))
  where
    around : (p q : ℕ) → p * q * (a * b) ≡ p * a * (q * b)
    around p q = omega arith

pow-pow : (a m n : ℕ) → (a ^ m) ^ n ≡ a ^ (n * m)
pow-pow a m zero = rw zero-mul (simp pow-zero)
pow-pow a m (suc n) = pow-suc (a ^ m) n ∙ ap (λ (x : ℕ). x * a ^ m) (pow-pow a m n) ∙ sym (pow-add a (n * m) m) ∙ ap (λ (k : ℕ). a ^ k) (sym (suc-mul n m))

-- ---- A / D = S × 2 ^ (o - 52), multiplied through and raised
cancel : (A S D p q r : ℕ) → 0 < p → A * (q * p) ≡ S * (p * r) * D → A * q ≡ S * r * D
cancel A S D p q r h e = eq_of_mul-eq-mul_right p h (A * q) (S * r * D) (omega arith)

raised : (A D S o : ℕ) → A * 2 ^ 1074 ≡ S * 2 ^ (1022 + o) * D → A ^ 16 * 2 ^ 832 ≡ S ^ 16 * 2 ^ (16 * o) * D ^ 16
raised A D S o e =
    let e1 : A * (2 ^ 52 * 2 ^ 1022) ≡ S * (2 ^ 1022 * 2 ^ o) * D = e ∙ ap (λ (y : ℕ). S * y * D) (pow-add 2 1022 o) in
    let e2 : A * 2 ^ 52 ≡ S * 2 ^ o * D = cancel A S D (2 ^ 1022) (2 ^ 52) (2 ^ o) (pow_pos 1022) e1 in
    sym (mul-pow A (2 ^ 52) 16)
    ∙ ap (λ (y : ℕ). y ^ 16) e2
    ∙ mul-pow (S * 2 ^ o) D 16
    ∙ ap (λ (y : ℕ). y * D ^ 16) (mul-pow S (2 ^ o) 16 ∙ ap (λ (y : ℕ). S ^ 16 * y) (pow-pow 2 o 16))

-- with a = A ^ 16, d = D ^ 16, s = S ^ 16, q = 2 ^ 832, r = 2 ^ (16 × o), p = 2 ^ j
at_least : (a d s q r p : ℕ) → 0 < q → a * q ≡ s * r * d → q * p ≤ s → r * p * d ≤ a
at_least a d s q r p h e l = le_of_mul-le-mul_right (times (mul-le-mul_right (r * d) l)) h
  where
    times : q * p * (r * d) ≤ s * (r * d) → r * p * d * q ≤ a * q
    times m = omega arith

less : (a d s q r p : ℕ) → 0 < r * d → a * q ≡ s * r * d → s < q * p → a < r * p * d
less a d s q r p h e l = lt_of_mul-lt-mul_right q (times (mul-lt-mul_of_pos_right l h))
  where
    times : s * (r * d) < q * p * (r * d) → a * q < r * p * d * q
    times m = omega arith

-- ---- a double of value s × 2 ^ (o - 52)
reached : (x : Float) (s o j b : ℕ) → HasValue x false (s * 2 ^ (1022 + o)) (2 ^ 1074) → From j s → b ≤ 16 * o + j → reaches b x ≡ true
unfolding reaches From
reached nan s o j b v f h = absurd v
reached (inf t) s o j b v f h = absurd v
reached (fin t m e) s o j b v f h =
    le-leb (2 ^ b * down e ^ 16) ((m * up e) ^ 16)
    (le_trans (mul-le-mul_right (down e ^ 16) (le_trans (pow_mono h) (le_of_eq (pow-add 2 (16 * o) j))))
    (at_least ((m * up e) ^ 16) (down e ^ 16) (s ^ 16) (2 ^ 832) (2 ^ (16 * o)) (2 ^ j) (pow_pos 832) (raised (m * up e) (down e) s o v.1)
    (le_trans (le_of_eq (sym (pow-add 2 832 j))) f)))

raised_pos : (d : ℕ) → 0 < d → 0 < d ^ 16
raised_pos d h = pow-lt-pow_left h (λ (e : 16 ≡ 0). omega arith)

missed : (x : Float) (s o j b : ℕ) → HasValue x false (s * 2 ^ (1022 + o)) (2 ^ 1074) → Under j s → 16 * o + j ≤ b → reaches b x ≡ false
unfolding reaches Under
missed nan s o j b v u h = absurd v
missed (inf t) s o j b v u h = absurd v
missed (fin t m e) s o j b v u h =
    lt-leb (2 ^ b * down e ^ 16) ((m * up e) ^ 16)
    (lt_of_lt_of_le
    (less ((m * up e) ^ 16) (down e ^ 16) (s ^ 16) (2 ^ 832) (2 ^ (16 * o)) (2 ^ j) (mul-pos (pow_pos (16 * o)) (raised_pos (down e) (down_pos e))) (raised (m * up e) (down e) s o v.1)
    (lt_of_lt_of_le u (le_of_eq (pow-add 2 832 j))))
    (mul-le-mul_right (down e ^ 16) (le_trans (le_of_eq (sym (pow-add 2 (16 * o) j))) (pow_mono h))))

-- ---- the largest: reached, and none above is
largest_is : (x : Float) (b : ℕ) → reaches b x ≡ true → (n : ℕ) → b ≤ n → ((c : ℕ) → b < c → c ≤ n → reaches c x ≡ false) → largest n x ≡ b
unfolding largest
largest_is x b r zero h f = omega arith
largest_is x b r (suc n) h f = elim (eq-or-lt_of_le h) [
  | inl e ↦ (let t : reaches (suc n) x ≡ true = subst (λ (i : ℕ). reaches i x ≡ true) e r in rw t (sym e))
  | inr l ↦ rw (f (suc n) l (le_refl _)) (largest_is x b r n (le_of_suc-le-suc l) (λ c g k. f c g (le_trans k (le-suc n))))
]

pub within : (x : Float) (s o j : ℕ) → HasValue x false (s * 2 ^ (1022 + o)) (2 ^ 1074) → o < 48 → Sixteenth s j → largest 767 x ≡ 16 * o + j
within x s o j v h z =
    largest_is x (16 * o + j) (reached x s o j (16 * o + j) v z.from (le_refl _)) 767 (omega (arith, z.within)) (λ c g k. missed x s o (j + 1) c v z.under (omega arith))

pub beyond : (x : Float) (s o : ℕ) → HasValue x false (s * 2 ^ (1022 + o)) (2 ^ 1074) → 48 ≤ o → From 0 s → largest 767 x ≡ 767
beyond x s o v h f = largest_is x 767 (reached x s o 0 767 v f (omega arith)) 767 (le_refl _) (λ c g k. absurd (not-le_of_lt g k))

pub endless : largest 767 (inf false) ≡ 767
unfolding reaches
endless = largest_is (inf false) 767 refl 767 (le_refl _) (λ c g k. absurd (not-le_of_lt g k))
