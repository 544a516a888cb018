-- `round` in the normal range gives a nearest double: no other double lies nearer to the fraction. So a `Rounded` double is a `Nearest` one. Assumes nothing.
use mathlib.Core.Path.{◌≡◌, sym, ap, ap₂, ◌∙◌, subst}
use mathlib.Core.Bool.{Bool, true, false, not}
use Prim.Native.Nat.{ℕ, zero, suc, ◌+◌, ◌-◌, ◌*◌, ◌/◌, ◌%◌, ◌^◌, ◌≤◌, ◌<◌, compare, zero-le}
use native.Mathlib.Nat.{le_trans, le_of_eq, le_of_lt, lt_of_lt_of_le, lt_of_le_of_lt, not-le_of_lt, mul-le-mul_left, mul-le-mul_right, mul-lt-mul_of_pos_right, le_of_mul-le-mul_right, lt_of_mul-lt-mul_right, le-div_iff_mul-le, le-add_right, zero-lt-suc}
use native.Mathlib.Nat.{add-mul, mul_comm, mul_assoc, mul_left_comm, mul_right_comm, mul-one, suc-mul, mul-pos, sub-add_cancel, one-mul}
use native.Mathlib.Omega.{arith}
use lib.IntN.{pos, negsuc}
use lib.Dec.{T, leb, leb→le, nleb→lt, lit<, lit≤}
use lib.Pow.{pow-add, pow_pos, pow_mono}
use lib.Ieee.{Float, nan, inf, fin, Format, binary64, prec, low, size, round, fits}
use lib.Ieee.Fits.{two, two-le_pos}
use lib.Ieee.Nearest.{nearest-ge}
use lib.Ieee.Order.{drop, kept}
use lib.Ieee.Scale.{grid, round_val, finite, round_under, normal_of_rounded, round_same}
use lib.Ieee.Positive.{num, den, den_pos, positive, positive-finite, value→cross}
use Rattle.ieee.specs.Units.{power}
use Rattle.ieee.proofs.Power.{power_le_back}
use Rattle.ieee.proofs.Rounding.{closest_error}
use Rattle.ieee.proofs.Value.{fits_says}
use Rattle.fade.specs.Exp.{top, bot, cap}
use Rattle.fade_laws.specs.Laws.{Nearest}
use Rattle.fade_laws.proofs.Series.{bot_pos, top_pos, top_zero, cap_zero, later, under_strict, over_strict}
use Rattle.fade_laws.proofs.Rounding.{unit_small}
use Rattle.fade.proofs.Entries.{Rounded}
use Rattle.fade_laws.proofs.Rounded.{Normal, cap_pos}

-- ---- a double above 0 is m * 2 ^ t units of the smallest, with m of no more digits than the format keeps
record Units (f : Format) (y : Float) : Type 0 where
  m : ℕ
  t : ℕ
  short : m < 2 ^ prec f
  is : num y * 2 ^ low f ≡ m * 2 ^ t * den y

exponent : (j l : ℕ) → 2 ^ j ≤ 2 ^ l → j ≤ l
unfolding power
exponent j l h = power_le_back h

units : (f : Format) (y : Float) → T (fits f y) → T (positive y) → Units f y
units f nan h p = absurd p
units f (inf s) h p = absurd p
units f (fin true m e) h p = absurd p
units f (fin false zero e) h p = absurd p
units f (fin false (suc m) (pos j)) h p =
    record {
      m = suc m;
      t = j + low f;
      short = (fits_says f false m (pos j) h).0;
      is = mul_assoc (suc m) (2 ^ j) (2 ^ low f) ∙ ap (λ (z : ℕ). suc m * z) (sym (pow-add 2 j (low f))) ∙ sym (mul-one (suc m * 2 ^ (j + low f)));
    }
units f (fin false (suc m) (negsuc j)) h p =
    let says = fits_says f false m (negsuc j) h in
    record {
      m = suc m;
      t = low f - suc j;
      short = says.0;
      is = ap (λ (z : ℕ). z * 2 ^ low f) (mul-one (suc m))
          ∙ ap (λ (z : ℕ). suc m * 2 ^ z) (sym (sub-add_cancel (exponent (suc j) (low f) says.1)))
          ∙ ap (λ (z : ℕ). suc m * z) (pow-add 2 (low f - suc j) (suc j))
          ∙ sym (mul_assoc (suc m) (2 ^ (low f - suc j)) (2 ^ suc j));
    }

-- ---- from 2 ^ (p - 1 + k) on, such a number is a multiple of 2 ^ k
multiple : (p m t k : ℕ) → 0 < p → m < 2 ^ p → 2 ^ (p - 1) * 2 ^ k ≤ m * 2 ^ t → (j : ℕ) × (m * 2 ^ t ≡ j * 2 ^ k)
multiple p m t k P s h = go (leb k t) (leb→le k t) (nleb→lt k t)
  where
    room : (p t k : ℕ) → 0 < p → t < k → p + t ≤ p - 1 + k
    room p t k P l = omega arith

    go : (b : Bool) → (T b → k ≤ t) → (T (not b) → t < k) → (j : ℕ) × (m * 2 ^ t ≡ j * 2 ^ k)
    go true u v = (m * 2 ^ (t - k), ap (λ (z : ℕ). m * 2 ^ z) (sym (sub-add_cancel (u tt))) ∙ ap (λ (z : ℕ). m * z) (pow-add 2 (t - k) k) ∙ sym (mul_assoc m (2 ^ (t - k)) (2 ^ k)))
    go false u v =
        absurd (not-le_of_lt (lt_of_lt_of_le (mul-lt-mul_of_pos_right s (pow_pos t)) (le_trans (le_of_eq (sym (pow-add 2 p t))) (le_trans (pow_mono (room p t k P (v tt))) (le_of_eq (pow-add 2 (p - 1) k))))) h)

step : (i j u : ℕ) → i * u < j * u → i * u + u ≤ j * u
step i j u h = le_trans (le_of_eq (sym (suc-mul i u))) (mul-le-mul_right u (lt_of_mul-lt-mul_right u h))

-- ---- in units: x = i * u is nearest to n / c, g = b * u is the least number with all the digits, y is another double
middle_up : (n c i u g y : ℕ) → n * 2 ≤ i * u * c * 2 + u * c → g ≤ i * u → (g ≤ y → (j : ℕ) × (y ≡ j * u)) → i * u < y → n * 2 ≤ (i * u + y) * c
middle_up n c i u g y h G dy l =
    let j = dy (le_trans G (le_of_lt l)) in
    let s : i * u + u ≤ y = le_trans (step i j.0 u (lt_of_lt_of_le l (le_of_eq j.1))) (le_of_eq (sym j.1)) in
    let m : (i * u + u) * c ≤ y * c = mul-le-mul_right c s in
    let e = add-mul (i * u) u c in
    let e' = add-mul (i * u) y c in
    omega arith

middle_down : (n c i u b y : ℕ) → i * u * c * 2 ≤ n * 2 + u * c → b * u * c ≤ n → (b * u ≤ y → (j : ℕ) × (y ≡ j * u)) → y < i * u → (i * u + y) * c ≤ n * 2
middle_down n c i u b y h G dy l = first (leb (i * u * c) n) (leb→le (i * u * c) n) (nleb→lt (i * u * c) n)
  where
    e' : (i * u + y) * c ≡ i * u * c + y * c
    e' = add-mul (i * u) y c

    apart : y + u ≤ i * u → (i * u + y) * c ≤ n * 2
    apart s =
        let m : (y + u) * c ≤ i * u * c = mul-le-mul_right c s in
        let e = add-mul y u c in
        omega (arith, e')

    second : (t : Bool) → (T t → b * u ≤ y) → (T (not t) → y < b * u) → b * u + u ≤ i * u → (i * u + y) * c ≤ n * 2
    second true p q s =
        let j = dy (p tt) in
        apart (le_trans (le_of_eq (ap (λ (z : ℕ). z + u) j.1)) (step j.0 i u (lt_of_le_of_lt (le_of_eq (sym j.1)) l)))
    second false p q s = let k = q tt in apart (omega arith)

    first : (t : Bool) → (T t → i * u * c ≤ n) → (T (not t) → n < i * u * c) → (i * u + y) * c ≤ n * 2
    first true p q =
        let k = p tt in
        let m : y * c ≤ i * u * c = mul-le-mul_right c (le_of_lt l) in
        omega (arith, e')
    first false p q = second (leb (b * u) y) (leb→le (b * u) y) (nleb→lt (b * u) y) (step b i u (lt_of_mul-lt-mul_right c (lt_of_le_of_lt G (q tt))))

-- ---- from units back to fractions: x = X / l and y = Y / l
lt_units : (nx dx ny dy X Y l : ℕ) → 0 < l → nx * l ≡ X * dx → ny * l ≡ Y * dy → nx * dy < ny * dx → X < Y
lt_units nx dx ny dy X Y l L ex ey h =
    lt_of_mul-lt-mul_right (dx * dy)
    (lt_of_le_of_lt (le_of_eq (sym (mul_assoc X dx dy) ∙ ap (λ (z : ℕ). z * dy) (sym ex) ∙ mul_right_comm nx l dy))
    (lt_of_lt_of_le (mul-lt-mul_of_pos_right h L)
    (le_of_eq (mul_right_comm ny dx l ∙ ap (λ (z : ℕ). z * dx) ey ∙ mul_assoc Y dy dx ∙ ap (λ (z : ℕ). Y * z) (mul_comm dy dx)))))

sum_units : (nx dx ny dy X Y l c : ℕ) → nx * l ≡ X * dx → ny * l ≡ Y * dy → (X + Y) * c * (dx * dy) ≡ (nx * dy + ny * dx) * c * l
sum_units nx dx ny dy X Y l c ex ey =
    ap (λ (z : ℕ). z * (dx * dy)) (add-mul X Y c) ∙ add-mul (X * c) (Y * c) (dx * dy)
    ∙ ap₂ (λ (y z : ℕ). y + z) (left X c dx dy ∙ ap (λ (z : ℕ). z * (dy * c)) (sym ex) ∙ back nx l dy c) (right Y c dx dy ∙ ap (λ (z : ℕ). z * (dx * c)) (sym ey) ∙ back ny l dx c)
    ∙ sym (ap (λ (z : ℕ). z * l) (add-mul (nx * dy) (ny * dx) c) ∙ add-mul (nx * dy * c) (ny * dx * c) l)
  where
    left : (X c dx dy : ℕ) → X * c * (dx * dy) ≡ X * dx * (dy * c)
    left X c dx dy = simp (mul_assoc, mul_comm, mul_left_comm)

    right : (Y c dx dy : ℕ) → Y * c * (dx * dy) ≡ Y * dy * (dx * c)
    right Y c dx dy = simp (mul_assoc, mul_comm, mul_left_comm)

    back : (n l d c : ℕ) → n * l * (d * c) ≡ n * d * c * l
    back n l d c = simp (mul_assoc, mul_comm, mul_left_comm)

module _ (f : Format) (x y : Float) (a c : ℕ) (C : 0 < c) (X : T (positive x)) (N : 2 ^ (prec f - 1) * den x < num x * 2 ^ low f) (e : round f false a c ≡ x) (F : T (fits f y)) (Y : T (positive y)) where
  ours : num x * 2 ^ low f ≡ grid f a c * den x
  ours = subst (λ (w : Float). num w * 2 ^ low f ≡ grid f a c * den w) e (value→cross (round f false a c) (grid f a c) (2 ^ low f) (round_val f a c (round_under f a c (subst (λ (w : Float). T (finite w)) (sym e) (positive-finite x X)))))

  normal : prec f ≤ size (a * 2 ^ low f / c)
  normal = normal_of_rounded f a c (lt_of_mul-lt-mul_right (den x) (lt_of_lt_of_le N (le_of_eq ours)))

  whole : 2 ^ (prec f - 1) * (c * 2 ^ drop (prec f) (a * 2 ^ low f) c) ≤ a * 2 ^ low f
  whole = unit_small (prec f) (a * 2 ^ low f) c (two-le_pos (prec f) (two f)) C normal

  half : (grid f a c * c * 2 ≤ a * 2 ^ low f * 2 + 2 ^ drop (prec f) (a * 2 ^ low f) c * c) × (a * 2 ^ low f * 2 ≤ grid f a c * c * 2 + 2 ^ drop (prec f) (a * 2 ^ low f) c * c)
  half =
      let n = a * 2 ^ low f in
      let u = 2 ^ drop (prec f) n c in
      let h = closest_error n (c * u) (mul-pos C (pow_pos (drop (prec f) n c))) in
      let k : kept (prec f) n c * (c * u) ≡ kept (prec f) n c * u * c = ap (λ (z : ℕ). kept (prec f) n c * z) (mul_comm c u) ∙ sym (mul_assoc (kept (prec f) n c) u c) in
      let m = mul_comm c u in (
        subst (λ (z : ℕ). z * 2 ≤ n * 2 + u * c) k (le_trans h.0 (le_of_eq (ap (λ (z : ℕ). n * 2 + z) m))),
        subst (λ (z : ℕ). n * 2 ≤ z * 2 + u * c) k (le_trans h.1 (le_of_eq (ap (λ (z : ℕ). kept (prec f) n c * (c * u) * 2 + z) m))),
      )

  enough : 2 ^ (prec f - 1) * 2 ^ drop (prec f) (a * 2 ^ low f) c ≤ grid f a c
  enough =
      let n = a * 2 ^ low f in
      let k = drop (prec f) n c in
      let v = c * 2 ^ k in
      mul-le-mul_right (2 ^ k) (le_trans ((le-div_iff_mul-le (mul-pos C (pow_pos k))).1 whole) (nearest-ge (n / v) (compare (n % v * 2) v)))

  theirs : Units f y
  theirs = units f y F Y

  many : 2 ^ (prec f - 1) * 2 ^ drop (prec f) (a * 2 ^ low f) c ≤ theirs.m * 2 ^ theirs.t → (j : ℕ) × (theirs.m * 2 ^ theirs.t ≡ j * 2 ^ drop (prec f) (a * 2 ^ low f) c)
  many = multiple (prec f) theirs.m theirs.t (drop (prec f) (a * 2 ^ low f) c) (two-le_pos (prec f) (two f)) theirs.short

  pub round_up : num x * den y < num y * den x → a * (den x * den y * 2) ≤ (num x * den y + num y * den x) * c
  round_up l =
      let n = a * 2 ^ low f in
      let k = drop (prec f) n c in
      let z = theirs.m * 2 ^ theirs.t in
      let h : n * 2 ≤ (grid f a c + z) * c = middle_up n c (kept (prec f) n c) (2 ^ k) (2 ^ (prec f - 1) * 2 ^ k) z half.1 enough many (lt_units (num x) (den x) (num y) (den y) (grid f a c) z (2 ^ low f) (pow_pos (low f)) ours theirs.is l) in
      le_of_mul-le-mul_right
      (le_trans (le_of_eq (moved a (den x * den y) (2 ^ low f))) (le_trans (mul-le-mul_right (den x * den y) h) (le_of_eq (sum_units (num x) (den x) (num y) (den y) (grid f a c) z (2 ^ low f) c ours theirs.is))))
      (pow_pos (low f))
    where
      moved : (a d l : ℕ) → a * (d * 2) * l ≡ a * l * 2 * d
      moved a d l = simp (mul_assoc, mul_comm, mul_left_comm)

  pub round_down : num y * den x < num x * den y → (num x * den y + num y * den x) * c ≤ a * (den x * den y * 2)
  round_down l =
      let n = a * 2 ^ low f in
      let k = drop (prec f) n c in
      let z = theirs.m * 2 ^ theirs.t in
      let w : 2 ^ (prec f - 1) * 2 ^ k * c ≤ n = le_trans (le_of_eq (mul_assoc (2 ^ (prec f - 1)) (2 ^ k) c ∙ ap (λ (v : ℕ). 2 ^ (prec f - 1) * v) (mul_comm (2 ^ k) c))) whole in
      let h : (grid f a c + z) * c ≤ n * 2 = middle_down n c (kept (prec f) n c) (2 ^ k) (2 ^ (prec f - 1)) z half.0 w many (lt_units (num y) (den y) (num x) (den x) z (grid f a c) (2 ^ low f) (pow_pos (low f)) theirs.is ours l) in
      le_of_mul-le-mul_right
      (le_trans (le_of_eq (sym (sum_units (num x) (den x) (num y) (den y) (grid f a c) z (2 ^ low f) c ours theirs.is))) (le_trans (mul-le-mul_right (den x * den y) h) (le_of_eq (sym (moved a (den x * den y) (2 ^ low f))))))
      (pow_pos (low f))
    where
      moved : (a d l : ℕ) → a * (d * 2) * l ≡ a * l * 2 * d
      moved a d l = simp (mul_assoc, mul_comm, mul_left_comm)

-- ---- exp(0) is 1, and the double nearest to it is 1
one : (x : Float) (q n : ℕ) → 0 < q → round binary64 false (bot q n) (top 0 q n) ≡ x → fin false 1 (pos 0) ≡ x
unfolding round
one x q n Q e = round_same binary64 false 1 1 (bot q n) (top 0 q n) (pow_pos 0) (top_pos 0 q n Q) (one-mul (top 0 q n) ∙ top_zero q n ∙ sym (mul-one (bot q n))) ∙ e

at_zero : (q : ℕ) (x : Float) → 0 < q → fin false 1 (pos 0) ≡ x → Nearest 0 q x
at_zero q x Q e =
    subst (Nearest 0 q) e
    (record {
      up = λ y F Y l. (1, rw (top_zero q 1) (scale _ _ _ (bot_pos q 1 Q) (omega arith)));
      down = λ y F Y l. (1, zero-le, rw (cap_zero q) (scale' _ _ _ (bot_pos q 1 Q) (omega arith)));
    })
  where
    scale : (b c d : ℕ) → 0 < b → c < d → b * c < d * b
    scale b c d B h = lt_of_le_of_lt (le_of_eq (mul_comm b c)) (mul-lt-mul_of_pos_right h B)

    scale' : (b c d : ℕ) → 0 < b → d < c → d * b < b * c
    scale' b c d B h = lt_of_lt_of_le (mul-lt-mul_of_pos_right h B) (le_of_eq (mul_comm c b))

-- ---- and elsewhere no sum is the last, so the middle of two doubles is not met
pub rounded_nearest : (p q : ℕ) (x : Float) → 0 < q → Normal x → Rounded p q x → Nearest p q x
rounded_nearest zero q x Q N r = at_zero q x Q (one x q r.n Q r.high)
rounded_nearest (suc p) q x Q N r =
    let n = r.n in
    record {
      up = λ y F Y l. (
        suc n,
        under_strict (suc p) q n _ _ Q (zero-lt-suc p) (mul-pos (mul-pos (den_pos x) (den_pos y)) (lit< tt))
            (le_trans (mul-le-mul_left (bot q n) (mul-le-mul_left (den x * den y) (lit≤ tt))) (round_up binary64 x y (bot q n) (top (suc p) q n) (top_pos (suc p) q n Q) r.above N r.high F Y l)),
      );
      down = λ y F Y l. (
        suc (suc n),
        later (suc p) q (suc n) (later (suc p) q n r.late),
        over_strict (suc p) q n _ _ Q (zero-lt-suc p) (lt_of_lt_of_le (lt_of_le_of_lt zero-le l) (le-add_right (num x * den y) (num y * den x))) r.late
            (le_trans (round_down binary64 x y (bot q n) (cap (suc p) q n) (cap_pos (suc p) q n Q) r.above N r.low F Y l) (mul-le-mul_left (bot q n) (mul-le-mul_left (den x * den y) (lit≤ tt)))),
      );
    }
