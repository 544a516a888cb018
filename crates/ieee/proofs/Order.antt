-- The comparisons of amounts are those of their units, and the smaller and the larger by a comparison. Assumes nothing.
use mathlib.Core.Path.{◌≡◌, refl, sym, ap, ◌∙◌, subst}
use mathlib.Core.Logic.{inl, inr}
use Prim.Native.Nat.{ℕ, ◌*◌, ◌≤◌, ◌<◌, min, max}
use native.Mathlib.Nat.{le_of_lt, le_of_eq, mul-lt-mul_of_pos_right, lt_of_mul-lt-mul_right, mul-pos, eq_of_mul-eq-mul_right, eq-or-lt_of_le}
use native.Mathlib.Omega.{arith}
use mathlib.Core.Bool.{Bool, true, false, not, ◌||◌, cond}
use lib.Dec.{T, leb, ltb, eqb, leb→le, le→leb, ltb→lt, lt→ltb, eqb→eq, nltb→le}
use lib.Ieee.{Float, nan, inf, fin, up, down, lt, le, eq}
use lib.Ieee.Fits.{eq→eqb, down_pos}
use Rattle.std.proofs.Math.Bool.{and-true}
use Rattle.ieee.specs.Units.{power, units, Amount, Is}
use Rattle.ieee.proofs.Power.{power_pos}
use Rattle.ieee.proofs.Value.{amount_value}

-- ---- two tests that pass together are one
same_test : (p q : Bool) → (T p → T q) → (T q → T p) → p ≡ q
same_test true true a b = refl
same_test true false a b = absurd (a tt)
same_test false true a b = absurd (b tt)
same_test false false a b = refl

-- ---- a and b are u and v times one number, k / l: so they compare alike
module _ (a b l u v k : ℕ) (L : 0 < l) (K : 0 < k) (e : a * l ≡ u * k) (f : b * l ≡ v * k) where
  lt_scaled : a < b → u < v
  lt_scaled h = lt_of_mul-lt-mul_right k (let m = mul-lt-mul_of_pos_right h L in omega arith)

  eq_scaled : a ≡ b → u ≡ v
  eq_scaled h = eq_of_mul-eq-mul_right k K u v (sym e ∙ ap (λ (x : ℕ). x * l) h ∙ f)

module _ (a b l u v k : ℕ) (L : 0 < l) (K : 0 < k) (e : a * l ≡ u * k) (f : b * l ≡ v * k) where
  same_lt : ltb a b ≡ ltb u v
  same_lt = same_test (ltb a b) (ltb u v) (λ t. lt→ltb u v (lt_scaled a b l u v k L K e f (ltb→lt a b t))) (λ t. lt→ltb a b (lt_scaled u v k a b l K L (sym e) (sym f) (ltb→lt u v t)))

  same_eq : eqb a b ≡ eqb u v
  same_eq = same_test (eqb a b) (eqb u v) (λ t. eq→eqb (eq_scaled a b l u v k L K e f (eqb→eq a b t))) (λ t. eq→eqb (eq_scaled u v k a b l K L (sym e) (sym f) (eqb→eq u v t)))

-- x / p and y / q, with x / p = u / l and y / q = v / l, over one denominator
common : (x p q u l : ℕ) → x * l ≡ u * p → x * q * l ≡ u * (p * q)
common x p q u l e = let a : x * l * q ≡ u * p * q = ap (λ (z : ℕ). z * q) e in omega arith

common' : (y p q v l : ℕ) → y * l ≡ v * q → y * p * l ≡ v * (p * q)
common' y p q v l e = let a : y * l * p ≡ v * q * p = ap (λ (z : ℕ). z * p) e in omega arith

-- ---- `<` and `==`
pub lt_is : (x y : Float) → Amount x → Amount y → lt x y ≡ ltb (units x) (units y)
unfolding lt
lt_is nan y a b = absurd a.sign
lt_is (inf s) y a b = absurd a.sign
lt_is (fin true m e) y a b = absurd a.sign
lt_is (fin false m e) nan a b = absurd b.sign
lt_is (fin false m e) (inf t) a b = absurd b.sign
lt_is (fin false m e) (fin true n d) a b = absurd b.sign
lt_is (fin false m e) (fin false n d) a b =
    let u = units (fin false m e) in
    let v = units (fin false n d) in
    same_lt (m * up e * down d) (n * up d * down e) (power 1074) u v (down e * down d) (power_pos 1074) (mul-pos (down_pos e) (down_pos d))
    (common (m * up e) (down e) (down d) u (power 1074) (amount_value (fin false m e) a).1)
    (common' (n * up d) (down e) (down d) v (power 1074) (amount_value (fin false n d) b).1)

pub eq_is : (x y : Float) → Amount x → Amount y → eq x y ≡ eqb (units x) (units y)
unfolding eq
eq_is nan y a b = absurd a.sign
eq_is (inf s) y a b = absurd a.sign
eq_is (fin true m e) y a b = absurd a.sign
eq_is (fin false m e) nan a b = absurd b.sign
eq_is (fin false m e) (inf t) a b = absurd b.sign
eq_is (fin false m e) (fin true n d) a b = absurd b.sign
eq_is (fin false m e) (fin false n d) a b =
    let u = units (fin false m e) in
    let v = units (fin false n d) in
    and-true (eqb (m * up e * down d) (n * up d * down e))
    ∙ same_eq (m * up e * down d) (n * up d * down e) (power 1074) u v (down e * down d) (power_pos 1074) (mul-pos (down_pos e) (down_pos d))
    (common (m * up e) (down e) (down d) u (power 1074) (amount_value (fin false m e) a).1)
    (common' (n * up d) (down e) (down d) v (power 1074) (amount_value (fin false n d) b).1)

-- ---- `<=`
either : (u v : ℕ) → ltb u v || eqb u v ≡ leb u v
either u v =
    same_test (ltb u v || eqb u v) (leb u v)
    (one_of (ltb u v) (eqb u v) (leb u v) (λ t. le→leb u v (le_of_lt (ltb→lt u v t))) (λ t. le→leb u v (le_of_eq (eqb→eq u v t))))
    (λ t. elim (eq-or-lt_of_le (leb→le u v t)) [ inl e ↦ or_r (ltb u v) (eqb u v) (eq→eqb e) | inr l ↦ or_l (ltb u v) (eqb u v) (lt→ltb u v l) ])
  where
    one_of : (p q r : Bool) → (T p → T r) → (T q → T r) → T (p || q) → T r
    one_of true q r f g t = f tt
    one_of false q r f g t = g t

    or_l : (p q : Bool) → T p → T (p || q)
    or_l true q t = tt
    or_l false q t = absurd t

    or_r : (p q : Bool) → T q → T (p || q)
    or_r true q t = tt
    or_r false q t = t

pub le_is : (x y : Float) → Amount x → Amount y → le x y ≡ leb (units x) (units y)
unfolding le
le_is x y a b = ap (λ (t : Bool). t || eq x y) (lt_is x y a b) ∙ ap (λ (t : Bool). ltb (units x) (units y) || t) (eq_is x y a b) ∙ either (units x) (units y)

-- ---- the same as facts
module _ (x y : Float) (a : Amount x) (b : Amount y) where
  pub lt_units : T (lt x y) → units x < units y
  lt_units t = ltb→lt (units x) (units y) (subst T (lt_is x y a b) t)

  pub not_lt_units : T (not (lt x y)) → units y ≤ units x
  not_lt_units t = nltb→le (units x) (units y) (subst (λ (t : Bool). T (not t)) (lt_is x y a b) t)

  pub le_units : T (le x y) → units x ≤ units y
  le_units t = leb→le (units x) (units y) (subst T (le_is x y a b) t)

  pub units_le : units x ≤ units y → T (le x y)
  units_le h = subst T (sym (le_is x y a b)) (le→leb (units x) (units y) h)

-- ---- against the infinity, which is above every amount
pub lt_inf : (x : Float) → Amount x → lt x (inf false) ≡ true
unfolding lt
lt_inf nan a = absurd a.sign
lt_inf (inf s) a = absurd a.sign
lt_inf (fin s m e) a = refl

pub le-inf : (x : Float) → Amount x → le x (inf false) ≡ true
unfolding le
le-inf nan a = absurd a.sign
le-inf (inf s) a = absurd a.sign
le-inf (fin s m e) a = refl

pub inf_lt : (x : Float) → Amount x → lt (inf false) x ≡ false
unfolding lt
inf_lt nan a = absurd a.sign
inf_lt (inf s) a = absurd a.sign
inf_lt (fin s m e) a = refl

pub inf_le : (x : Float) → Amount x → le (inf false) x ≡ false
unfolding le
inf_le nan a = absurd a.sign
inf_le (inf s) a = absurd a.sign
inf_le (fin s m e) a = refl

-- ---- `Is` from an amount, and at an equal number
pub self : {x : Float} → Amount x → Is x (units x)
self a = record { amount = a; worth = refl }

pub recount : {x : Float} {u v : ℕ} → Is x u → u ≡ v → Is x v
recount i e = record { amount = i.amount; worth = i.worth ∙ e }

-- ---- the smaller and the larger of two amounts, as code writes them
pick : (x y : Float) (u v w : ℕ) (t : Bool) → Is x u → Is y v → (T t → u ≡ w) → (T (not t) → v ≡ w) → Is (cond t x y) w
pick x y u v w true a b l r = record { amount = a.amount; worth = a.worth ∙ l tt }
pick x y u v w false a b l r = record { amount = b.amount; worth = b.worth ∙ r tt }

-- what a test t shows of u and v: that u is not above v where it passes, and not below where it fails
pub record Test (t : Bool) (u v : ℕ) : Type 0 where
  pub pass : T t → u ≤ v
  pub fail : T (not t) → v ≤ u

pub lt_test : {x y : Float} {u v : ℕ} → Is x u → Is y v → Test (lt x y) u v
lt_test {x} {y} a b = record {
  pass = λ t. let h = lt_units x y a.amount b.amount t in omega (arith, a.worth, b.worth);
  fail = λ t. let h = not_lt_units x y a.amount b.amount t in omega (arith, a.worth, b.worth);
}

-- `cond (lt x y) x y`: `min_is (lt_test a b) a b`. `cond (lt y x) y x`: `min_is (lt_test b a) b a`.
pub min_is : {t : Bool} {x y : Float} {u v : ℕ} → Test t u v → Is x u → Is y v → Is (cond t x y) (min u v)
min_is {t} {x} {y} {u} {v} k a b = pick x y u v (min u v) t a b (λ p. omega (arith, k.pass p)) (λ p. omega (arith, k.fail p))

-- `cond (lt x y) y x`: `max_is (lt_test a b) a b`
pub max_is : {t : Bool} {x y : Float} {u v : ℕ} → Test t u v → Is x u → Is y v → Is (cond t y x) (max u v)
max_is {t} {x} {y} {u} {v} k a b = pick y x v u (max u v) t b a (λ p. omega (arith, k.pass p)) (λ p. omega (arith, k.fail p))
