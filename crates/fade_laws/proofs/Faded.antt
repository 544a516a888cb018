-- The rounded product of an entry of each table: positive, within 2 ^ -51 of the exponential, and falling. Assumes nothing.
use mathlib.Core.Path.{◌≡◌, sym, ap, ◌∙◌, subst}
use mathlib.Core.Bool.{true, false}
use Prim.Native.Nat.{ℕ, zero, suc, ◌+◌, ◌-◌, ◌*◌, ◌/◌, ◌%◌, ◌^◌, ◌≤◌, ◌<◌}
use native.Mathlib.Nat.{le_refl, le_trans, le_of_eq, lt_irrefl, lt_of_le_of_lt, lt_of_lt_of_le, le_of_mul-le-mul_left, le_of_mul-le-mul_right, mul_assoc, mul_right_comm, mul-le-mul_right, pow-suc, mul_left_comm, mul-mul-mul_comm, mul-one, one-mul, zero-mul, mul-pos, mul-le-mul, mul-le-mul_left, mul-lt-mul_of_pos_left, mod-add-div}
use native.Mathlib.Omega.{arith}
use lib.IntN.{pos}
use lib.Dec.{T, lit≤, lit<, ltb→lt, lt→ltb}
use lib.Pow.{pow-add, pow_pos, pow_mono, pow-lt}
use lib.Ieee.{Float, nan, inf, fin, binary64, prec, up, down, round, mul, lt}
use lib.Ieee.Fits.{up_pos}
use lib.Ieee.Order.{round_mono}
use lib.Ieee.Scale.{normal_of_fraction, round_under}
use lib.Ieee.Positive.{num, den, den_pos, positive, positive-finite, own_value, value_pos, mul_at, between}
use Rattle.fade_laws.specs.Laws.{Nearest, Close, normal, NotSubnormal, parts}
use Rattle.fade_laws.proofs.Rounding.{Near, round_near}
use Rattle.fade_laws.proofs.Rounded.{Normal, rounded_close}
use Rattle.fade_laws.proofs.Middle.{rounded_nearest}
use Rattle.fade_laws.proofs.Product.{product_close, close_factor, close_falls}
use Rattle.fade.proofs.Entries.{Entry}

-- ---- a fraction from 2 ^ -k to 1, with k + 52 at most 1074, rounds to a double above 0 and to a normal one
lowest_positive : T (positive (round binary64 false 1 (2 ^ 1020)))
unfolding round
lowest_positive = tt

one_positive : T (positive (round binary64 false 1 1))
unfolding round
one_positive = tt

rounds_positive : (a c : ℕ) → 0 < c → a ≤ c → c ≤ a * 2 ^ 1020 → T (positive (round binary64 false a c))
rounds_positive a c C h k =
    between (round binary64 false 1 (2 ^ 1020)) (round binary64 false a c) (round binary64 false 1 1) lowest_positive one_positive
    (round_mono binary64 1 (2 ^ 1020) a c (pow_pos 1020) C (le_trans (le_of_eq (one-mul c)) k))
    (round_mono binary64 a c 1 1 C (pow_pos 0) (le_trans (le_of_eq (mul-one a)) (le_trans h (le_of_eq (sym (one-mul c))))))

shifted : (f : ℕ) (a c j k : ℕ) → c ≤ a * 2 ^ j → f + j ≤ k → 2 ^ f * c ≤ a * 2 ^ k
shifted f a c j k h l =
    le_trans (mul-le-mul_left (2 ^ f) h)
    (le_trans (le_of_eq (mul_left_comm (2 ^ f) a (2 ^ j) ∙ ap (λ (z : ℕ). a * z) (sym (pow-add 2 f j)))) (mul-le-mul_left a (pow_mono l)))

rounds_near : (a c : ℕ) → 0 < c → a ≤ c → c ≤ a * 2 ^ 1020 → Near (2 ^ prec binary64) (round binary64 false a c) a c
rounds_near a c C h k =
    round_near binary64 a c C (normal_of_fraction binary64 a c C (shifted 52 a c 1020 1074 k (lit≤ tt)))
    (round_under binary64 a c (positive-finite (round binary64 false a c) (rounds_positive a c C h k)))

entry_normal : (k q p : ℕ) (x : Float) → 52 + k < 1074 → Entry k q p x → Normal x
entry_normal k q p x l e =
    lt_of_le_of_lt (shifted 52 (num x) (den x) k (52 + k) e.least (le_refl (52 + k)))
    (mul-lt-mul_of_pos_left (pow-lt l) (value_pos x (num x) (den x) e.rounded.above (den_pos x) (own_value x e.rounded.above)))

-- ---- an entry is the nearest double
pub entry_nearest : (k q p : ℕ) (x : Float) → 0 < q → 52 + k < 1074 → Entry k q p x → Nearest p q x
entry_nearest k q p x Q l e = rounded_nearest p q x Q (entry_normal k q p x l e) e.rounded

positive_factor : (a b : ℕ) → 0 < a * b → 0 < a
positive_factor zero b h = absurd (lt_irrefl 0 (lt_of_lt_of_le h (le_of_eq (zero-mul b))))
positive_factor (suc a) b h = omega arith

-- ---- a fraction from 2 ^ -k on, with k below `normal`, is above 2 ^ -normal
stands : (a c k : ℕ) → 0 < a → c ≤ a * 2 ^ k → k < normal → c < a * 2 ^ normal
stands a c k A h l = lt_of_le_of_lt h (mul-lt-mul_of_pos_left (pow-lt l) A)

num_pos : (x : Float) → T (positive x) → 0 < num x
num_pos x h = value_pos x (num x) (den x) h (den_pos x) (own_value x h)

pub entry_stands : (k q p : ℕ) (x : Float) → k < normal → Entry k q p x → NotSubnormal x
entry_stands k q p x l e = (e.rounded.above, stands (num x) (den x) k (num_pos x e.rounded.above) e.least l)

-- x is within one part in P of y: it is at most twice y
twice_most : (x y P : ℕ) → 2 ≤ P → x * P ≤ y * P + x → x ≤ y * 2
twice_most x y P h n =
    let two : x * 2 ≤ x * P = mul-le-mul_left x h in
    let turned : y * 2 * P ≡ y * P * 2 = mul_right_comm y 2 P in
    le_of_mul-le-mul_right {k = P} (omega arith) (omega (arith, two, turned, n))

rounds_normal : (a c : ℕ) → 0 < c → a ≤ c → c ≤ a * 2 ^ 1020 → NotSubnormal (round binary64 false a c)
rounds_normal a c C h k = (above, stands (num z) (den z) 1021 (num_pos z above) least (lit< tt))
  where
    z : Float
    z = round binary64 false a c

    above : T (positive z)
    above = rounds_positive a c C h k

    A : 0 < a
    A = positive_factor a (2 ^ 1020) (lt_of_lt_of_le C k)

    below : a * den z ≤ num z * c * 2
    below = twice_most (a * den z) (num z * c) (2 ^ prec binary64) (lit≤ tt) (rounds_near a c C h k).low

    moved : num z * (a * 2 ^ 1020) * 2 ≡ a * (num z * 2 ^ 1021)
    moved = ap (λ (w : ℕ). w * 2) (mul_left_comm (num z) a (2 ^ 1020)) ∙ mul_assoc a (num z * 2 ^ 1020) 2 ∙ ap (λ (w : ℕ). a * w) (mul_assoc (num z) (2 ^ 1020) 2 ∙ ap (λ (w : ℕ). num z * w) (sym (pow-suc 2 1020)))

    least : den z ≤ num z * 2 ^ 1021
    least = le_of_mul-le-mul_left (le_trans below (le_trans (mul-le-mul_right 2 (mul-le-mul_left (num z) k)) (le_of_eq moved))) A

-- ---- two entries
both_least : (a b c d j k : ℕ) → c ≤ a * 2 ^ j → d ≤ b * 2 ^ k → j + k ≤ 1020 → c * d ≤ a * b * 2 ^ 1020
both_least a b c d j k x y l =
    le_trans (mul-le-mul x y)
    (le_trans (le_of_eq (mul-mul-mul_comm a (2 ^ j) b (2 ^ k) ∙ ap (λ (z : ℕ). a * b * z) (sym (pow-add 2 j k)))) (mul-le-mul_left (a * b) (pow_mono l)))

pub record Faded (d : ℕ) (z : Float) : Type 0 where
  pub above : T (positive z)
  pub not_subnormal : NotSubnormal z
  pub close : Close parts d 2000 z

pub faded : (j k d : ℕ) (x y : Float) → j + k ≤ 1020 → Entry j 2000 (d % 2000) x → Entry k 1 (d / 2000) y → Faded d (mul binary64 x y)
faded j k d x y l ex ey =
    record {
      above = subst (λ (w : Float). T (positive w)) (sym is) (rounds_positive a c C most least);
      not_subnormal = subst NotSubnormal (sym is) (rounds_normal a c C most least);
      close = subst (λ (w : Float). Close parts d 2000 w) (sym is)
          (subst (λ (n : ℕ). Close parts n 2000 (round binary64 false a c)) (mod-add-div d 2000)
          (product_close (2 ^ prec binary64 - 1) (parts - 1) (d % 2000) (2000 * (d / 2000)) 2000 x y (round binary64 false a c) (lit< tt) (lit≤ tt) (lit≤ tt)
          (rounded_close (d % 2000) 2000 x (lit< tt) normal_x ex.rounded)
          (close_factor (2 ^ 53) 2000 (d / 2000) 1 y (rounded_close (d / 2000) 1 y (lit< tt) normal_y ey.rounded))
          (rounds_near a c C most least)));
    }
  where
    a : ℕ
    a = num x * num y

    c : ℕ
    c = den x * den y

    C : 0 < c
    C = mul-pos (den_pos x) (den_pos y)

    is : mul binary64 x y ≡ round binary64 false a c
    is = mul_at binary64 x y (num x) (den x) (num y) (den y) ex.rounded.above ey.rounded.above (den_pos x) (den_pos y) (own_value x ex.rounded.above) (own_value y ey.rounded.above)

    most : a ≤ c
    most = mul-le-mul ex.most ey.most

    least : c ≤ a * 2 ^ 1020
    least = both_least (num x) (num y) (den x) (den y) j k ex.least ey.least l

    room : (j k : ℕ) → j + k ≤ 1020 → 52 + j < 1074
    room j k l = omega arith

    normal_x : Normal x
    normal_x = entry_normal j 2000 (d % 2000) x (room j k l) ex

    normal_y : Normal y
    normal_y = entry_normal k 1 (d / 2000) y (room k j (omega arith)) ey

-- ---- the fade falls strictly for as long as it is above 0
pub during_falls : (d k : ℕ) (x y : Float) → 0 < k → Faded d x → Faded (d + k) y → T (lt y x)
during_falls d k x y K fx fy = close_falls (parts - 1) d k 2000 x y (lit< tt) fx.above fy.above (wide k K) fx.close fy.close
  where
    wide : (k : ℕ) → 0 < k → suc parts * 2000 < (parts - 1) * (2000 + k)
    wide k h = omega arith

pub above_zero : (x : Float) → T (positive x) → T (lt (fin false 0 (pos 0)) x)
unfolding lt
above_zero nan p = absurd p
above_zero (inf s) p = absurd p
above_zero (fin true m e) p = absurd p
above_zero (fin false m e) p = lt→ltb (0 * 1 * down e) (m * up e * 1) (subst (λ (z : ℕ). z < m * up e * 1) (sym (ap (λ (z : ℕ). z * down e) (zero-mul 1) ∙ zero-mul (down e))) (mul-pos (mul-pos (ltb→lt 0 m p) (up_pos e)) (pow_pos 0)))
