-- The exponential's sums: they rise; with the last term counted twice they fall, once q * (n + 1) is 2 * p at least; so each such
-- bound stands above every sum. And p / q may be written with a common factor. Assumes nothing.
use mathlib.Core.Path.{◌≡◌, refl, sym, ap, ap₂, ◌∙◌, subst}
use Prim.Native.Nat.{ℕ, zero, suc, ◌+◌, ◌*◌, ◌^◌, ◌≤◌, ◌<◌}
use native.Mathlib.Nat.{le_trans, le_of_eq, le-add_right, zero-lt-suc, mul-le-mul_left, mul-le-mul_right, le-suc, lt_of_le_of_lt, lt_of_lt_of_le, mul-lt-mul_of_pos_right, mul-lt-mul_of_pos_left, lt_of_mul-lt-mul_right, one-le-pow, lt-suc_self}
use native.Mathlib.Nat.{add-zero, add_comm, add-suc, add_assoc, mul-add, add-mul, mul_comm, mul_assoc, mul_left_comm, mul_right_comm, mul-one, pow-zero, pow-suc, mul-pos, mul-zero}
use native.Mathlib.Omega.{arith}
use lib.Ieee.Positive.{through}
use Rattle.std.proofs.lemmas.Nat.{mul-pow}
use Rattle.fade.specs.Exp.{top, bot, cap, Late}
use Rattle.fade_laws.specs.Laws.{narrowing}

pub bot_pos : (q n : ℕ) → 0 < q → 0 < bot q n
unfolding bot
bot_pos q zero h = zero-lt-suc 0
bot_pos q (suc n) h = mul-pos (bot_pos q n h) (mul-pos h (zero-lt-suc n))

pub top_pos : (p q n : ℕ) → 0 < q → 0 < top p q n
unfolding top
top_pos p q zero h = zero-lt-suc 0
top_pos p q (suc n) h = le_trans (mul-pos (top_pos p q n h) (mul-pos h (zero-lt-suc n))) (le-add_right _ _)

pub top_le_cap : (p q n : ℕ) → top p q n ≤ cap p q n
unfolding cap
top_le_cap p q n = le-add_right (top p q n) (p ^ n)

-- ---- one more term
rise_one : (p q n : ℕ) → top p q n * bot q (suc n) ≤ top p q (suc n) * bot q n
unfolding top bot
rise_one p q n =
    le_trans (le_of_eq (ap (λ (z : ℕ). top p q n * z) (mul_comm (bot q n) (q * suc n)) ∙ sym (mul_assoc (top p q n) (q * suc n) (bot q n))))
    (mul-le-mul_right (bot q n) (le-add_right _ _))

pub later : (p q n : ℕ) → Late p q n → Late p q (suc n)
later p q n h = le_trans h (mul-le-mul_left q (le-suc (suc n)))

double : (x p : ℕ) → x * p + x * p ≡ x * (p * 2)
double x p = let e : x * (p * 2) ≡ x * p * 2 = sym (mul_assoc x p 2) in omega arith

fall_one : (p q n : ℕ) → Late p q n → cap p q (suc n) * bot q n ≤ cap p q n * bot q (suc n)
unfolding top bot cap
fall_one p q n h =
    let k = q * suc n in
    let two : p ^ suc n + p ^ suc n ≤ p ^ n * k = le_trans (le_of_eq (ap₂ (λ (y z : ℕ). y + z) (pow-suc p n) (pow-suc p n) ∙ double (p ^ n) p)) (mul-le-mul_left (p ^ n) h) in
    let c : top p q n * k + p ^ suc n + p ^ suc n ≤ (top p q n + p ^ n) * k =
    le_trans (le_of_eq (add_assoc (top p q n * k) (p ^ suc n) (p ^ suc n))) (let e = add-mul (top p q n) (p ^ n) k in omega arith) in
    le_trans (mul-le-mul_right (bot q n) c) (le_of_eq (mul_assoc (top p q n + p ^ n) k (bot q n) ∙ ap (λ (z : ℕ). (top p q n + p ^ n) * z) (mul_comm k (bot q n))))

-- ---- any number of terms more
pub rise : (p q n k : ℕ) → 0 < q → top p q n * bot q (n + k) ≤ top p q (n + k) * bot q n
rise p q n zero Q = le_of_eq (ap (λ (m : ℕ). top p q n * bot q m) (add-zero n) ∙ ap (λ (m : ℕ). top p q m * bot q n) (sym (add-zero n)))
rise p q n (suc k) Q =
    subst (λ (m : ℕ). top p q n * bot q m ≤ top p q m * bot q n) (sym (add-suc n k))
    (through (top p q n) (top p q (n + k)) (top p q (suc (n + k))) (bot q n) (bot q (n + k)) (bot q (suc (n + k))) (bot_pos q (n + k) Q) (rise p q n k Q) (rise_one p q (n + k)))

pub late : (p q n k : ℕ) → Late p q n → Late p q (n + k)
late p q n zero h = subst (Late p q) (sym (add-zero n)) h
late p q n (suc k) h = subst (Late p q) (sym (add-suc n k)) (later p q (n + k) (late p q n k h))

pub fall : (p q n k : ℕ) → 0 < q → Late p q n → cap p q (n + k) * bot q n ≤ cap p q n * bot q (n + k)
fall p q n zero Q h = le_of_eq (ap (λ (m : ℕ). cap p q m * bot q n) (add-zero n) ∙ ap (λ (m : ℕ). cap p q n * bot q m) (sym (add-zero n)))
fall p q n (suc k) Q h =
    subst (λ (m : ℕ). cap p q m * bot q n ≤ cap p q n * bot q m) (sym (add-suc n k))
    (through (cap p q (suc (n + k))) (cap p q (n + k)) (cap p q n) (bot q (suc (n + k))) (bot q (n + k)) (bot q n) (bot_pos q (n + k) Q) (fall_one p q (n + k) (late p q n k h)) (fall p q n k Q h))

-- ---- every sum is at most every late cap: so the enclosures hold one number, and that number is the least upper bound of the sums
pub capped : (p q n m : ℕ) → 0 < q → Late p q n → top p q m * bot q n ≤ cap p q n * bot q m
capped p q n m Q h =
    let N = n + m in
    let r : top p q m * bot q N ≤ top p q N * bot q m = subst (λ (k : ℕ). top p q m * bot q k ≤ top p q k * bot q m) (add_comm m n) (rise p q m n Q) in
    through (top p q m) (top p q N) (cap p q n) (bot q m) (bot q N) (bot q n) (bot_pos q N Q) r
    (le_trans (mul-le-mul_right (bot q n) (top_le_cap p q N)) (fall p q n m Q h))

-- ---- a common factor
move : (x b k q m : ℕ) → x * b * (k * q * m) ≡ x * k * (b * (q * m))
move x b k q m = simp (mul_assoc, mul_left_comm)

pub bot_factor : (k q n : ℕ) → bot (k * q) n ≡ k ^ n * bot q n
unfolding bot
bot_factor k q zero = sym (mul-one (k ^ 0) ∙ pow-zero k)
bot_factor k q (suc n) = ap (λ (z : ℕ). z * (k * q * suc n)) (bot_factor k q n) ∙ move (k ^ n) (bot q n) k q (suc n) ∙ ap (λ (z : ℕ). z * (bot q n * (q * suc n))) (sym (pow-suc k n))

pub top_factor : (k p q n : ℕ) → top (k * p) (k * q) n ≡ k ^ n * top p q n
unfolding top
top_factor k p q zero = sym (mul-one (k ^ 0) ∙ pow-zero k)
top_factor k p q (suc n) =
    ap₂ (λ (y z : ℕ). y + z)
    (ap (λ (z : ℕ). z * (k * q * suc n)) (top_factor k p q n) ∙ move (k ^ n) (top p q n) k q (suc n) ∙ ap (λ (z : ℕ). z * (top p q n * (q * suc n))) (sym (pow-suc k n)))
    (mul-pow k p (suc n))
    ∙ sym (mul-add (k ^ suc n) (top p q n * (q * suc n)) (p ^ suc n))

-- ---- the enclosures narrow to one number: their width, the last term, at least halves with each term more
half_term : (p q n : ℕ) → Late p q n → p ^ suc n * narrowing * bot q n ≤ p ^ n * bot q (suc n)
unfolding bot
half_term p q n h =
    le_trans (mul-le-mul_right (bot q n) (le_trans (le_of_eq (ap (λ (z : ℕ). z * narrowing) (pow-suc p n) ∙ mul_assoc (p ^ n) p narrowing)) (mul-le-mul_left (p ^ n) (omega (arith, h)))))
    (le_of_eq (mul_assoc (p ^ n) (q * suc n) (bot q n) ∙ ap (λ (z : ℕ). p ^ n * z) (mul_comm (q * suc n) (bot q n))))

pub narrows : (p q n k : ℕ) → 0 < q → Late p q n → p ^ (n + k) * narrowing ^ k * bot q n ≤ p ^ n * bot q (n + k)
narrows p q n zero Q h = le_of_eq (ap (λ (z : ℕ). z * bot q n) (mul-one (p ^ (n + 0))) ∙ ap₂ (λ (y z : ℕ). p ^ y * bot q z) (add-zero n) (sym (add-zero n)))
narrows p q n (suc k) Q h =
    subst (λ (m : ℕ). p ^ m * narrowing ^ suc k * bot q n ≤ p ^ n * bot q m) (sym (add-suc n k))
    (through (p ^ suc (n + k) * narrowing ^ suc k) (p ^ (n + k) * narrowing ^ k) (p ^ n) (bot q (suc (n + k))) (bot q (n + k)) (bot q n) (bot_pos q (n + k) Q)
    (le_trans (le_of_eq (ap (λ (z : ℕ). p ^ suc (n + k) * z * bot q (n + k)) (pow-suc narrowing k) ∙ shift (p ^ suc (n + k)) (narrowing ^ k) (bot q (n + k))))
    (le_trans (mul-le-mul_right (narrowing ^ k) (half_term p q (n + k) (late p q n k h))) (le_of_eq (mul_right_comm (p ^ (n + k)) (bot q (suc (n + k))) (narrowing ^ k)))))
    (narrows p q n k Q h))
  where
    shift : (x y b : ℕ) → x * (y * narrowing) * b ≡ x * narrowing * b * y
    shift x y b = simp (mul_assoc, mul_comm, mul_left_comm)

-- ---- strictly, for a p above 0: one more term lowers bot / top, and two more raise bot / cap
rise_strict : (p q n : ℕ) → 0 < q → 0 < p → top p q n * bot q (suc n) < top p q (suc n) * bot q n
unfolding top bot
rise_strict p q n Q P =
    lt_of_le_of_lt (le_of_eq (ap (λ (z : ℕ). top p q n * z) (mul_comm (bot q n) (q * suc n)) ∙ sym (mul_assoc (top p q n) (q * suc n) (bot q n))))
    (mul-lt-mul_of_pos_right (more (top p q n * (q * suc n)) (p ^ suc n) (one-le-pow (suc n) p P)) (bot_pos q n Q))
  where
    more : (x y : ℕ) → 0 < y → x < x + y
    more x y h = omega arith

fall_strict : (p q n : ℕ) → 0 < q → 0 < p → p * 2 < q * suc n → cap p q (suc n) * bot q n < cap p q n * bot q (suc n)
unfolding top bot cap
fall_strict p q n Q P h =
    let k = q * suc n in
    let two : p ^ suc n + p ^ suc n < p ^ n * k = lt_of_le_of_lt (le_of_eq (ap₂ (λ (y z : ℕ). y + z) (pow-suc p n) (pow-suc p n) ∙ double (p ^ n) p)) (mul-lt-mul_of_pos_left h (one-le-pow n p P)) in
    let c : top p q n * k + p ^ suc n + p ^ suc n < (top p q n + p ^ n) * k = let e = add-mul (top p q n) (p ^ n) k in omega arith in
    lt_of_lt_of_le (mul-lt-mul_of_pos_right c (bot_pos q n Q)) (le_of_eq (mul_assoc (top p q n + p ^ n) k (bot q n) ∙ ap (λ (z : ℕ). (top p q n + p ^ n) * z) (mul_comm k (bot q n))))

-- x / u < y / v ≤ z / w
strictly : (x y z u v w : ℕ) → 0 < w → x * v < y * u → y * w ≤ z * v → x * w < z * u
strictly x y z u v w W h k =
    lt_of_mul-lt-mul_right v
    (lt_of_le_of_lt (le_of_eq (mul_right_comm x w v))
    (lt_of_lt_of_le (mul-lt-mul_of_pos_right h W)
    (le_trans (le_of_eq (mul_right_comm y u w)) (le_trans (mul-le-mul_right u k) (le_of_eq (mul_right_comm z v u))))))

turn : (a b c d : ℕ) → a * b < c * d → b * a < d * c
turn a b c d h = lt_of_le_of_lt (le_of_eq (mul_comm b a)) (lt_of_lt_of_le h (le_of_eq (mul_comm c d)))

pub under_strict : (p q n a b : ℕ) → 0 < q → 0 < p → 0 < b → bot q n * b ≤ a * top p q n → bot q (suc n) * b < a * top p q (suc n)
under_strict p q n a b Q P B h = strictly (bot q (suc n)) (bot q n) a (top p q (suc n)) (top p q n) b B (turn (top p q n) (bot q (suc n)) (top p q (suc n)) (bot q n) (rise_strict p q n Q P)) h

pub over_strict : (p q n a b : ℕ) → 0 < q → 0 < p → 0 < a → Late p q n → a * cap p q n ≤ bot q n * b → a * cap p q (suc (suc n)) < bot q (suc (suc n)) * b
over_strict p q n a b Q P A l h =
    let m = suc n in
    let s : cap p q (suc m) * bot q m < cap p q m * bot q (suc m) = fall_strict p q m Q P (lt_of_le_of_lt l (mul-lt-mul_of_pos_left (lt-suc_self (suc n)) Q)) in
    let c : cap p q m * a ≤ b * bot q m = through (cap p q m) (cap p q n) b (bot q m) (bot q n) a (bot_pos q n Q) (fall_one p q n l) (le_trans (le_of_eq (mul_comm (cap p q n) a)) (le_trans h (le_of_eq (mul_comm (bot q n) b)))) in
    turn (cap p q (suc m)) a b (bot q (suc m)) (strictly (cap p q (suc m)) (cap p q m) b (bot q (suc m)) (bot q m) a A s c)

-- ---- at p = 0 every sum is 1
pub top_zero : (q n : ℕ) → top 0 q n ≡ bot q n
unfolding top bot
top_zero q zero = refl
top_zero q (suc n) = ap₂ (λ (y z : ℕ). y * (q * suc n) + z) (top_zero q n) (pow-suc 0 n ∙ mul-zero (0 ^ n)) ∙ add-zero (bot q n * (q * suc n))

pub cap_zero : (q : ℕ) → cap 0 q 1 ≡ bot q 1
unfolding cap
cap_zero q = ap (λ (z : ℕ). z + 0) (top_zero q 1) ∙ add-zero (bot q 1)
