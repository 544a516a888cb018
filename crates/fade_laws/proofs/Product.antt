-- The rounded product of two doubles that are close to exp(-a / q) and exp(-b / q) is close to exp(-(a + b) / q), with three roundings' error.
-- And what is close falls strictly as the exponent grows. Assumes nothing.
use mathlib.Core.Path.{◌≡◌, sym, ap, ap₂, ◌∙◌, subst}
use mathlib.Core.Bool.{true, false}
use Prim.Native.Nat.{ℕ, suc, ◌+◌, ◌*◌, ◌^◌, ◌≤◌, ◌<◌}
use native.Mathlib.Nat.{le_trans, le_of_eq, lt_of_lt_of_le, lt_of_le_of_lt, zero-lt-suc, mul-le-mul, mul-le-mul_left, mul-le-mul_right, le_of_mul-le-mul_right, lt_of_mul-lt-mul_right, mul-lt-mul_of_pos_right}
use native.Mathlib.Nat.{mul-add, mul-suc, mul_comm, mul_assoc, mul_left_comm, mul_right_comm, mul-one, one-mul, pow-zero, pow-suc, mul-pos}
use native.Mathlib.Omega.{arith}
use lib.Dec.{T, lt→ltb}
use lib.Ieee.{Float, nan, inf, fin, lt, up, down}
use lib.Ieee.Positive.{num, den, den_pos, positive, own_value, value_pos}
use Rattle.fade.specs.Exp.{top, bot}
use Rattle.fade_laws.specs.Laws.{Close}
use Rattle.fade_laws.proofs.Series.{bot_pos, top_pos, top_factor, bot_factor}
use Rattle.fade_laws.proofs.Cauchy.{product_above, product_below}
use Rattle.fade_laws.proofs.Rounding.{Near}

-- ---- the bounds with one factor: x * P + x is x * (P + 1), and what is at most y + x after one x is taken off
one_more : (x P y : ℕ) → y ≤ x * P + x → y ≤ x * suc P
one_more x P y h = le_trans h (le_of_eq (sym (mul-suc x P)))

one_less : (x R y : ℕ) → x * suc R ≤ y + x → x * R ≤ y
one_less x R y h = let e = mul-suc x R in omega arith

one_more_back : (x P y : ℕ) → y ≤ x * suc P → y ≤ x * P + x
one_more_back x P y h = le_trans h (le_of_eq (mul-suc x P))

one_less_back : (x R y : ℕ) → x * R ≤ y → x * suc R ≤ y + x
one_less_back x R y h = let e = mul-suc x R in omega arith

-- ---- three roundings from above, with K = P + 1, and from below, with R = P - 1
chain_above : (t b r s nx dx ny dy nz dz P K : ℕ) → 0 < b → 0 < dx → 0 < dy → t * b ≤ r * s → r * nx * P ≤ b * dx * K → s * ny * P ≤ b * dy * K → nz * (dx * dy) * P ≤ nx * ny * dz * K
    → t * nz * (P * P * P) ≤ b * dz * (K * K * K)
chain_above t b r s nx dx ny dy nz dz P K B Dx Dy h x y z =
    le_of_mul-le-mul_right
    (le_trans (le_of_eq e1)
    (le_trans (mul-le-mul_right (P * P) (mul-le-mul h z))
    (le_trans (le_of_eq e2)
    (le_trans (mul-le-mul_right (dz * K) (mul-le-mul x y)) (le_of_eq e3)))))
    (mul-pos B (mul-pos Dx Dy))
  where
    e1 : t * nz * (P * P * P) * (b * (dx * dy)) ≡ t * b * (nz * (dx * dy) * P) * (P * P)
    e1 = simp (mul_assoc, mul_comm, mul_left_comm)

    e2 : r * s * (nx * ny * dz * K) * (P * P) ≡ r * nx * P * (s * ny * P) * (dz * K)
    e2 = simp (mul_assoc, mul_comm, mul_left_comm)

    e3 : b * dx * K * (b * dy * K) * (dz * K) ≡ b * dz * (K * K * K) * (b * (dx * dy))
    e3 = simp (mul_assoc, mul_comm, mul_left_comm)

chain-below : (t b c B r s nx dx ny dy nz dz P R : ℕ) → 0 < b → 0 < c → 0 < dx → 0 < dy → r * s * B ≤ t * (b * c) → b * dx * R ≤ r * nx * P → c * dy * R ≤ s * ny * P → nx * ny * dz * R ≤ nz * (dx * dy) * P
    → B * dz * (R * R * R) ≤ t * nz * (P * P * P)
chain-below t b c B r s nx dx ny dy nz dz P R pb pc Dx Dy h x y z =
    le_of_mul-le-mul_right
    (le_trans (le_of_eq e1)
    (le_trans (mul-le-mul_right (dz * R * B) (mul-le-mul x y))
    (le_trans (le_of_eq e2)
    (le_trans (mul-le-mul_right (P * P) (mul-le-mul h z)) (le_of_eq e3)))))
    (mul-pos (mul-pos pb pc) (mul-pos Dx Dy))
  where
    e1 : B * dz * (R * R * R) * (b * c * (dx * dy)) ≡ b * dx * R * (c * dy * R) * (dz * R * B)
    e1 = simp (mul_assoc, mul_comm, mul_left_comm)

    e2 : r * nx * P * (s * ny * P) * (dz * R * B) ≡ r * s * B * (nx * ny * dz * R) * (P * P)
    e2 = simp (mul_assoc, mul_comm, mul_left_comm)

    e3 : t * (b * c) * (nz * (dx * dy) * P) * (P * P) ≡ t * nz * (P * P * P) * (b * c * (dx * dy))
    e3 = simp (mul_assoc, mul_comm, mul_left_comm)

-- ---- from parts of P ^ 3 to parts of H
coarser : (u v P K H J : ℕ) → 0 < P → u * P ≤ v * K → K * H ≤ P * J → u * H ≤ v * J
coarser u v P K H J pp h k =
    le_of_mul-le-mul_right
    (le_trans (le_of_eq (mul_right_comm u H P))
    (le_trans (mul-le-mul_right H h)
    (le_trans (le_of_eq (mul_assoc v K H))
    (le_trans (mul-le-mul_left v k) (le_of_eq (ap (λ (z : ℕ). v * z) (mul_comm P J) ∙ sym (mul_assoc v J P)))))))
    pp

-- R = P - 1 and G = H - 1
pub product_close : (R G a b q : ℕ) (x y z : Float) → 0 < q
    → suc (suc R) * suc (suc R) * suc (suc R) * suc G ≤ suc R * suc R * suc R * suc (suc G)
    → suc R * suc R * suc R * G ≤ R * R * R * suc G
    → Close (suc R) a q x → Close (suc R) b q y → Near (suc R) z (num x * num y) (den x * den y) → Close (suc G) (a + b) q z
product_close R G a b q x y z Q big small cx cy nz =
    record {
      above = λ n.
          one_more_back (bot q n * den z) (suc G) (top (a + b) q n * num z * suc G)
          (coarser (top (a + b) q n * num z) (bot q n * den z) (P * P * P) (suc P * suc P * suc P) (suc G) (suc (suc G)) cube
          (chain_above (top (a + b) q n) (bot q n) (top a q n) (top b q n) (num x) (den x) (num y) (den y) (num z) (den z) P (suc P) (bot_pos q n Q) (den_pos x) (den_pos y) (product_above a b q n Q)
          (one_more (bot q n * den x) P (top a q n * num x * P) (cx.above n))
          (one_more (bot q n * den y) P (top b q n * num y * P) (cy.above n))
          (one_more (num x * num y * den z) P (num z * (den x * den y) * P) nz.high))
          big);
      n = N;
      below =
          one_less_back (bot q N * den z) G (top (a + b) q N * num z * suc G)
          (swapped (bot q N * den z) (top (a + b) q N * num z) (R * R * R) (P * P * P) G (suc G) cube
          (chain-below (top (a + b) q N) (bot q n) (bot q m) (bot q N) (top a q n) (top b q m) (num x) (den x) (num y) (den y) (num z) (den z) P R (bot_pos q n Q) (bot_pos q m Q) (den_pos x) (den_pos y) (product_below a b q n m Q)
          (one_less (bot q n * den x) R (top a q n * num x * P) cx.below)
          (one_less (bot q m * den y) R (top b q m * num y * P) cy.below)
          (one_less (num x * num y * den z) R (num z * (den x * den y) * P) nz.low))
          small);
    }
  where
    P : ℕ
    P = suc R

    n : ℕ
    n = cx.n

    m : ℕ
    m = cy.n

    N : ℕ
    N = n + m

    cube : 0 < suc R * suc R * suc R
    cube = mul-pos (mul-pos (zero-lt-suc R) (zero-lt-suc R)) (zero-lt-suc R)

    -- v * K ≤ u * P with P * G ≤ K * H
    swapped : (v u K P G H : ℕ) → 0 < P → v * K ≤ u * P → P * G ≤ K * H → v * G ≤ u * H
    swapped v u K P G H pp h k =
        le_of_mul-le-mul_right
        (le_trans (le_of_eq (mul_assoc v G P ∙ ap (λ (z : ℕ). v * z) (mul_comm G P)))
        (le_trans (mul-le-mul_left v k)
        (le_trans (le_of_eq (sym (mul_assoc v K H)))
        (le_trans (mul-le-mul_right H h) (le_of_eq (mul_right_comm u P H))))))
        pp

-- ---- a common factor of p and q changes nothing
pub close_factor : (h k p q : ℕ) (x : Float) → Close h p q x → Close h (k * p) (k * q) x
close_factor h k p q x c =
    record {
      above = λ n. subst (λ (t : ℕ). t * num x * h ≤ bot (k * q) n * den x * h + bot (k * q) n * den x) (sym (top_factor k p q n))
          (subst (λ (b : ℕ). k ^ n * top p q n * num x * h ≤ b * den x * h + b * den x) (sym (bot_factor k q n))
          (spread (k ^ n) (top p q n) (num x) h (bot q n) (den x) (c.above n)));
      n = c.n;
      below = subst (λ (t : ℕ). bot (k * q) c.n * den x * h ≤ t * num x * h + bot (k * q) c.n * den x) (sym (top_factor k p q c.n))
          (subst (λ (b : ℕ). b * den x * h ≤ k ^ c.n * top p q c.n * num x * h + b * den x) (sym (bot_factor k q c.n))
          (spread_low (k ^ c.n) (top p q c.n) (num x) h (bot q c.n) (den x) c.below));
    }
  where
    out : (k t n h : ℕ) → k * t * n * h ≡ k * (t * n * h)
    out k t n h = simp mul_assoc

    spread : (k t n h b d : ℕ) → t * n * h ≤ b * d * h + b * d → k * t * n * h ≤ k * b * d * h + k * b * d
    spread k t n h b d l = le_trans (le_of_eq (out k t n h)) (le_trans (mul-le-mul_left k l) (le_of_eq (mul-add k (b * d * h) (b * d) ∙ ap₂ (λ (y z : ℕ). y + z) (sym (out k b d h)) (sym (mul_assoc k b d)))))

    spread_low : (k t n h b d : ℕ) → b * d * h ≤ t * n * h + b * d → k * b * d * h ≤ k * t * n * h + k * b * d
    spread_low k t n h b d l = le_trans (le_of_eq (out k b d h)) (le_trans (mul-le-mul_left k l) (le_of_eq (mul-add k (t * n * h) (b * d) ∙ ap₂ (λ (y z : ℕ). y + z) (sym (out k t n h)) (sym (mul_assoc k b d)))))

-- ---- the strict order of two values above zero, by their fractions
pub cross→lt : (x y : Float) → T (positive x) → T (positive y) → num x * den y < num y * den x → T (lt x y)
unfolding lt
cross→lt nan y p q h = absurd p
cross→lt (inf s) y p q h = absurd p
cross→lt (fin true m e) y p q h = absurd p
cross→lt (fin false m e) nan p q h = absurd q
cross→lt (fin false m e) (inf t) p q h = absurd q
cross→lt (fin false m e) (fin true n d) p q h = absurd q
cross→lt (fin false m e) (fin false n d) p q h = lt→ltb (m * up e * down d) (n * up d * down e) h

first_two : (k q : ℕ) → (top k q 1 ≡ q + k) × (bot q 1 ≡ q)
unfolding top bot
first_two k q = (ap₂ (λ (y z : ℕ). y + z) one (to_one k), one)
  where
    one : 1 * (q * 1) ≡ q
    one = one-mul (q * 1) ∙ mul-one q

    to_one : (k : ℕ) → k ^ 1 ≡ k
    to_one k = pow-suc k 0 ∙ ap (λ (z : ℕ). z * k) (pow-zero k) ∙ one-mul k

less : (t s b c j q n d n' d' G H K : ℕ) → 0 < s → 0 < b → 0 < H → 0 < n → 0 < d' → t * j * c ≤ s * (b * q) → b * d * G ≤ t * n * H → s * n' * H ≤ c * d' * K → K * q < G * j → n' * d < n * d'
less t s b c j q n d n' d' G H K ps pb pH pn pd h lo hi gap =
    lt_of_mul-lt-mul_right (s * H * b * G * j)
    (lt_of_le_of_lt (le_of_eq e1)
    (lt_of_le_of_lt (mul-le-mul_right j (mul-le-mul hi lo))
    (lt_of_le_of_lt (le_of_eq e2)
    (lt_of_le_of_lt (mul-le-mul_right (d' * K * n * H) h)
    (lt_of_le_of_lt (le_of_eq e3)
    (lt_of_lt_of_le (mul-lt-mul_of_pos_right gap (mul-pos (mul-pos (mul-pos (mul-pos ps pb) pd) pn) pH)) (le_of_eq e4)))))))
  where
    e1 : n' * d * (s * H * b * G * j) ≡ s * n' * H * (b * d * G) * j
    e1 = simp (mul_assoc, mul_comm, mul_left_comm)

    e2 : c * d' * K * (t * n * H) * j ≡ t * j * c * (d' * K * n * H)
    e2 = simp (mul_assoc, mul_comm, mul_left_comm)

    e3 : s * (b * q) * (d' * K * n * H) ≡ K * q * (s * b * d' * n * H)
    e3 = simp (mul_assoc, mul_comm, mul_left_comm)

    e4 : G * j * (s * b * d' * n * H) ≡ n * d' * (s * H * b * G * j)
    e4 = simp (mul_assoc, mul_comm, mul_left_comm)

-- G = H - 1: e ^ (k / q) is at least 1 + k / q, so where that exceeds both errors the later value is below the earlier one
pub close_falls : (G p k q : ℕ) (x y : Float) → 0 < q → T (positive x) → T (positive y) → suc (suc G) * q < G * (q + k) → Close (suc G) p q x → Close (suc G) (p + k) q y → T (lt y x)
close_falls G p k q x y Q X Y gap cx cy =
    let n = cx.n in
    let b = product_below p k q n 1 Q in
    cross→lt y x Y X
    (less (top p q n) (top (p + k) q (n + 1)) (bot q n) (bot q (n + 1)) (q + k) q (num x) (den x) (num y) (den y) G (suc G) (suc (suc G))
    (top_pos (p + k) q (n + 1) Q) (bot_pos q n Q) (zero-lt-suc G) (value_pos x (num x) (den x) X (den_pos x) (own_value x X)) (den_pos y)
    (subst (λ (z : ℕ). top p q n * z * bot q (n + 1) ≤ top (p + k) q (n + 1) * (bot q n * q)) (first_two k q).0
    (subst (λ (z : ℕ). top p q n * top k q 1 * bot q (n + 1) ≤ top (p + k) q (n + 1) * (bot q n * z)) (first_two k q).1 b))
    (one_less (bot q n * den x) G (top p q n * num x * suc G) cx.below)
    (one_more (bot q (n + 1) * den y) (suc G) (top (p + k) q (n + 1) * num y * suc G) (cy.above (n + 1)))
    gap)
