-- Values that are numbers, finite or infinite: which operations give one, how two compare, what a clamp leaves. Assumes nothing.
use mathlib.Core.Path.{◌≡◌, refl, sym, ◌∙◌, subst}
use mathlib.Core.Logic.{◌⊎◌, inl, inr}
use mathlib.Core.Bool.{Bool, true, false, not, ◌&&◌, ◌||◌, beq, cond, true≢false}
use Prim.Native.Nat.{ℕ, zero, suc, ◌+◌, ◌-◌, ◌*◌, ◌^◌, ◌≤◌}
use native.Mathlib.Omega.{arith}
use native.Mathlib.Decide.{dec_le}
use lib.Dec.{T, ltb, eqb, ltb→lt}
use lib.IntN.{ℤ}
use lib.Ieee as Ieee
use lib.Ieee.{Float, nan, inf, fin, binary64, low, emax, up, down, below, level, odd, round, of_bits, lt, le, unlike}
use lib.Ieee.Fits.{round_is}
use lib.Ieee.Positive.{positive, above, above_of_le, between, le_trans_positive}
use Rattle.std.proofs.lemmas.Float.{T_from_true}
use borrow.Author.Tests.{lt-ltb, ltb-true, ltb-false, eq-eqb, ne_eqb}
use Rattle.ieee.specs.Doubles.{nothing, half, one}
use Rattle.ieee.specs.Extremes.{clamped, most}
use Rattle.scan_trim.specs.Laws.{Trim}
use Rattle.scan_trim.specs.Trimming.{is_finite}
use Rattle.std.specs.Float.{float_is_finite}

-- what std says is finite lies between the infinities
pub finite_is : (x : Float) → float_is_finite x ≡ is_finite x
unfolding float_is_finite is_finite lt Ieee.div of_bits Ieee.neg
finite_is nan = refl
finite_is (inf true) = refl
finite_is (inf false) = refl
finite_is (fin s m e) = refl

-- x is a number, and no not-a-number
pub data Number : Float → Type 0 where
  infinite : {s : Bool} → Number (inf s)
  finite : {s : Bool} {m : ℕ} {e : ℤ} → Number (fin s m e)

pick : (b : Bool) (x y : Float) → Number x → Number y → Number (cond b x y)
pick true x y a b = a
pick false x y a b = b

-- ---- a rounded fraction is a number
odd_number : (d : ℕ) (s : Bool) (q k l : ℕ) → Number (odd d s q k l)
unfolding odd
odd_number d s zero k l = finite
odd_number d s (suc q) k l = finite

units_number : (s : Bool) (q k : ℕ) → Number (Ieee.units binary64 s q k)
unfolding Ieee.units
units_number s q k = pick (ltb (q * 2 ^ k) (2 ^ (low binary64 + suc (emax binary64)))) (odd 54 s q k 1074) (inf s) (odd_number 54 s q k 1074) infinite

round_number : (s : Bool) (a c : ℕ) → Number (round binary64 s a c)
round_number s a c = subst Number (sym (round_is binary64 s a c)) (units_number s _ _)

sum_number : (s : Bool) (a : ℕ) (t : Bool) (b c : ℕ) → Number (Ieee.sum binary64 s a t b c)
unfolding Ieee.sum
sum_number s a t b c = pick (beq s t) _ _ (round_number s (a + b) c) (pick (ltb a b) _ _ (round_number t (b - a) c) (round_number (s && ltb b a) (a - b) c))

-- ---- a finite value and a number: their sum is a number
pub add_number : (x : Float) (s : Bool) (m : ℕ) (e : ℤ) → Number x → Number (Ieee.add binary64 x (fin s m e))
unfolding Ieee.add
add_number nan s m e x'' = elim x'' [ ]
add_number (inf t) s m e infinite = infinite
add_number (fin t n d) s m e finite = sum_number t (n * up d * down e) s (m * up e * down d) (down d * down e)

pub add_to : (x : Float) (s : Bool) (m : ℕ) (e : ℤ) → Number x → Number (Ieee.add binary64 (fin s m e) x)
unfolding Ieee.add
add_to nan s m e x'' = elim x'' [ ]
add_to (inf t) s m e infinite = infinite
add_to (fin t n d) s m e finite = sum_number s (m * up e * down d) t (n * up d * down e) (down e * down d)

-- ---- the product of one that is finite and not zero with a number is a number
pub mul_number : (s : Bool) (m : ℕ) (e : ℤ) (x : Float) → (m ≡ 0 → ⊥) → Number x → Number (Ieee.mul binary64 (fin s m e) x)
unfolding Ieee.mul
mul_number s m e nan o x3 = elim x3 [ ]
mul_number s m e (inf t) o infinite = rw (ne_eqb m 0 o) infinite
mul_number s m e (fin t n d) o finite = round_number (unlike s t) (m * up e * (n * up d)) (down e * down d)

-- ---- above zero
above_zero : (t : Bool) (n : ℕ) (d : ℤ) → lt nothing (fin t n d) ≡ true → n ≡ 0 → ⊥
unfolding lt of_bits
above_zero true n d h z = true≢false (sym h)
above_zero false zero d h z = omega (arith, ltb-true (0 * 1 * down d) (0 * up d * 1) h)
above_zero false (suc n) d h z = omega arith

-- the quotient of a finite value by one above zero is a number
pub div_number : (s : Bool) (m : ℕ) (e : ℤ) (x : Float) → lt nothing x ≡ true → Number (Ieee.div binary64 (fin s m e) x)
unfolding Ieee.div
div_number s m e nan h = absurd (true≢false (sym h ∙ below_nan))
  where
    below_nan : lt nothing nan ≡ false
    below_nan = unfold lt of_bits in refl
div_number s m e (inf t) h = finite
div_number s m e (fin t n d) h = rw (ne_eqb n 0 (above_zero t n d h)) (round_number (unlike s t) (m * up e * down d) (n * up d * down e))

-- ---- comparison: of two numbers, where x is not below y, y is at most x
infinite_below : (s t : Bool) → s && not t ≡ false → (t && not s) || beq t s ≡ true
infinite_below true true h = refl
infinite_below true false h = absurd (true≢false h)
infinite_below false true h = refl
infinite_below false false h = refl

or_right : (a : Bool) → a || true ≡ true
or_right true = refl
or_right false = refl

ordered : (a b : ℕ) (e : Bool) → a ≤ b → (a ≡ b → e ≡ true) → ltb a b || (e && true) ≡ true
ordered a b e l f = elim (dec_le b a) [ yes m ↦ rw (f (omega arith)) (or_right (ltb a b)) | no m ↦ rw (lt-ltb a b (omega arith)) refl ]

-- ±a is not below ±b
not-below : (s t : Bool) (a b : ℕ) → below s a t b ≡ false → below t b s a || level t b s a ≡ true
not-below false false a b h = ordered b a (eqb b a) (ltb-false a b h) (eq-eqb b a)
not-below true true a b h = ordered a b (eqb b a) (ltb-false b a h) (λ e. eq-eqb b a (sym e))
not-below true false a b h = let z = ltb-false 0 (a + b) h in rw (eq-eqb b a (omega arith), eq-eqb b 0 (omega arith)) refl
not-below false true a b h = elim (dec_le (b + a) 0) [ yes m ↦ rw (eq-eqb b a (omega arith), eq-eqb b 0 (omega arith)) (or_right (ltb 0 (b + a))) | no m ↦ rw (lt-ltb 0 (b + a) (omega arith)) refl ]

not-lt : (x y : Float) → Number x → Number y → lt x y ≡ false → le y x ≡ true
unfolding le
not-lt nan y x4 _ h = elim x4 [ ]
not-lt (inf s) nan _ x9 h = elim x9 [ ]
not-lt (fin s m e) nan _ x10 h = elim x10 [ ]
not-lt (inf s) (inf t) infinite infinite h = infinite_below s t h
not-lt (inf true) (fin t n d) infinite finite h = absurd (true≢false h)
not-lt (inf false) (fin t n d) infinite finite h = refl
not-lt (fin s m e) (inf true) finite infinite h = refl
not-lt (fin s m e) (inf false) finite infinite h = absurd (true≢false h)
not-lt (fin s m e) (fin t n d) finite finite h = not-below s t (m * up e * down d) (n * up d * down e) h

holds : {b : Bool} → T b → b ≡ true
holds {b = true} t = refl
holds {b = false} t = absurd t

-- from a finite value above zero upward: a ≤ b ≤ x
le_up : (a b x : Float) → T (positive a) → T (positive b) → le a b ≡ true → le b x ≡ true → le a x ≡ true
le_up a b x p q h k = go x (above_of_le b x q (T_from_true _ k)) (T_from_true _ k)
  where
    to_infinity : (a : Float) → T (positive a) → le a (inf false) ≡ true
    to_infinity nan p = elim p [ ]
    to_infinity (inf _) p = elim p [ ]
    to_infinity (fin true m e) p = elim p [ ]
    to_infinity (fin false m e) p = unfold le in refl

    go : (x : Float) → T (above x) → T (le b x) → le a x ≡ true
    go nan r k = elim r [ ]
    go (inf true) r k = elim r [ ]
    go (fin true m e) r k = elim r [ ]
    go (inf false) r k = to_infinity a p
    go (fin false m e) r k = holds (le_trans_positive a b (fin false m e) p q r (T_from_true _ h) k)

half_positive : T (positive half)
unfolding of_bits
half_positive = tt

one_positive : T (positive one)
unfolding of_bits
one_positive = tt

-- ---- a trim is finite and above zero
pub trim_positive : (x : Float) → Trim x → T (positive x)
trim_positive x t = between half x one half_positive one_positive (T_from_true _ t.least) (T_from_true _ t.most)

-- x is finite and not zero
pub data Finite : Float → Type 0 where
  some : {s : Bool} {m : ℕ} {e : ℤ} → (m ≡ 0 → ⊥) → Finite (fin s m e)

pub positive-finite : (x : Float) → T (positive x) → Finite x
positive-finite nan p = elim p [ ]
positive-finite (inf _) p = elim p [ ]
positive-finite (fin true m e) p = elim p [ ]
positive-finite (fin false m e) p = some (λ (z : m ≡ 0). omega (arith, ltb→lt 0 m p))

positive_number : (x : Float) → T (positive x) → Number x
positive_number nan p = elim p [ ]
positive_number (inf _) p = elim p [ ]
positive_number (fin true m e) p = elim p [ ]
positive_number (fin false m e) p = finite

-- ---- a number clamped to two trims is a trim
pub clamp_trim : (x low high : Float) → Number x → Trim low → Trim high → Trim (clamped x low high)
clamp_trim x low high n l h = lowered (cond (lt x low) low x) (raised (lt x low) refl) (pick (lt x low) low x (number low l) n)
  where
    number : (y : Float) → Trim y → Number y
    number y t = positive_number y (trim_positive y t)

    raised : (b : Bool) → lt x low ≡ b → le half (cond b low x) ≡ true
    raised true e = l.least
    raised false e = le_up half low x half_positive (trim_positive low l) l.least (not-lt x low n (number low l) e)

    lowered : (r : Float) → le half r ≡ true → Number r → Trim (cond (lt high r) high r)
    lowered r k m = by (lt high r) refl
      where
        by : (b : Bool) → lt high r ≡ b → Trim (cond b high r)
        by true e = h
        by false e =
            let p = not-lt high r (number high h) m e in
            let q = between half r high half_positive (trim_positive high h) (T_from_true _ k) (T_from_true _ p) in
            record { least = k; most = holds (le_trans_positive r high one q (trim_positive high h) one_positive (T_from_true _ p) (T_from_true _ h.most)) }

-- clamped to numbers it is a number
pub clamp_number : (x low high : Float) → Number x → Number low → Number high → Number (clamped x low high)
clamp_number x low high n l h = pick (lt high (cond (lt x low) low x)) high (cond (lt x low) low x) h (pick (lt x low) low x l n)

-- ---- a number or not
pub number_or_nan : (x : Float) → Number x ⊎ (x ≡ nan)
number_or_nan nan = inr refl
number_or_nan (inf s) = inl infinite
number_or_nan (fin s m e) = inl finite

-- ---- the larger of a number and a value of at least 1 is at least 1
pub most_least : (x low : Float) → Number x → le one low ≡ true → T (positive low) → le one (most x low) ≡ true
most_least x low n h p = either (Ieee.ne x x)
  where
    larger : (c : Bool) → lt x low ≡ c → le one (cond c low x) ≡ true
    larger true e = h
    larger false e = le_up one low x one_positive p h (not-lt x low n (positive_number low p) e)

    either : (b : Bool) → le one (cond b low (cond (lt x low) low x)) ≡ true
    either true = h
    either false = larger (lt x low) refl
