-- Numerals: `numeral` is the library's `digits` at the fewest digits that hold the number, and has no more digits than it may. Assumes nothing.
use mathlib.Core.Path.{◌≡◌, refl, sym, ap, ◌∙◌}
use mathlib.Core.Bool.{Bool, true, false, cond}
use mathlib.Core.List.{List, [], ◌∷◌, ◌++◌}
use Prim.Native.Nat.{ℕ, zero, suc, ◌-◌, ◌*◌, ◌/◌, ◌%◌, ◌^◌, ◌≤◌, ◌<◌}
use native.Mathlib.Nat.{mod-eq_of_lt, div-lt_iff_lt-mul, le-div_iff_mul-le, pow-suc, pow-zero, pow-le-pow_right, one-mul}
use native.Mathlib.Decide.{dec_lt}
use native.Mathlib.Omega.{arith}
use borrow.Author.Tests.{lt-ltb, le-ltb}
use lib.Dec.{ltb}
use lib.ListN.{length, length-append}
use Rattle.io.specs.Digits.{hex_digit_ascii, last_digits, IsDigitCount}
use Rattle.text.specs.Number.{numeral, decimal, hexadecimal, word}

pub length_digits : (base k n : ℕ) → length (last_digits base k n) ≡ k
length_digits base zero n = refl
length_digits base (suc k) n = length-append (last_digits base k (n / base)) (hex_digit_ascii (n % base) ∷ []) ∙ omega (arith, length_digits base k (n / base))

pub length_word : (n : ℕ) → length (word n) ≡ 16
unfolding word
length_word n = length_digits 16 16 n

pub numeral_short : (base most n : ℕ) → length (numeral base most n) ≤ most
unfolding numeral
numeral_short base zero n = omega arith
numeral_short base (suc most) n = shorter (ltb n base) _ _ (numeral base most (n / base)) (numeral_short base most (n / base))
  where
    shorter : (t : Bool) (x y : ℕ) (xs : List ℕ) → length xs ≤ most → length (cond t (x ∷ []) (xs ++ (y ∷ []))) ≤ suc most
    shorter true x y xs h = omega arith
    shorter false x y xs h = omega (arith, length-append xs (y ∷ []))

-- the digits are suc k, no fewer hold n
module _ (base : ℕ) (large : 1 < base) where
  pow-one : base ^ 1 ≡ base
  pow-one = pow-suc base 0 ∙ ap (λ (x : ℕ). x * base) (pow-zero base) ∙ one-mul base

  pow_least : (k : ℕ) → base ≤ base ^ suc k
  pow_least k = rw pow-one at (pow-le-pow_right {n = base} (omega arith) {i = 1} {j = suc k} (omega arith))

  pub numeral_digits : (most k n : ℕ) → k < most → n < base ^ suc k → (0 < k → base ^ k ≤ n) → numeral base most n ≡ last_digits base (suc k) n
  unfolding numeral
  numeral_digits zero k n room below least = absurd (omega arith)
  numeral_digits (suc most) zero n room below least =
      let h : n < base = rw pow-one at below in
      simp (lt-ltb n base h, mod-eq_of_lt h)
  numeral_digits (suc most) (suc k) n room below least =
      let h : base ^ suc k ≤ n = least (omega arith) in
      let two : base ≤ base ^ suc k = pow_least k in
      simp (le-ltb n base (omega arith))
      (ap (λ (xs : List ℕ). xs ++ (hex_digit_ascii (n % base) ∷ []))
      (numeral_digits most k (n / base) (omega arith)
      ((div-lt_iff_lt-mul (omega arith)).1 (rw (pow-suc base (suc k)) at below))
      (λ p. (le-div_iff_mul-le (omega arith)).1 (rw (pow-suc base k) at h))))

  pub fewest_numeral : (most k n : ℕ) → IsDigitCount base 1 n k → n < base ^ most → 0 < most → last_digits base k n ≡ numeral base most n
  fewest_numeral most zero n f below some = absurd (omega (arith, f.0))
  fewest_numeral most (suc k) n f below some =
      sym (numeral_digits most k n (elim (dec_lt k most) [ yes h ↦ h | no h ↦ absurd (tight (omega arith)) ]) f.1 least)
    where
      least : 0 < k → base ^ k ≤ n
      least p = let e : suc k - 1 ≡ k = omega arith in rw e at (f.2 (omega arith))

      tight : most ≤ k → ⊥
      tight h = omega (arith, least (omega arith), pow-le-pow_right {n = base} (omega arith) {i = most} {j = k} h)

pub fewest_decimal : (k n : ℕ) → IsDigitCount 10 1 n k → n < 18446744073709551616 → last_digits 10 k n ≡ decimal n
unfolding decimal
fewest_decimal k n f below = fewest_numeral 10 (omega arith) 20 k n f (omega arith) (omega arith)

pub fewest_hexadecimal : (k n : ℕ) → IsDigitCount 16 1 n k → n < 18446744073709551616 → last_digits 16 k n ≡ hexadecimal n
unfolding hexadecimal
fewest_hexadecimal k n f below = fewest_numeral 16 (omega arith) 16 k n f (omega arith) (omega arith)

pub fewest_word : (k n : ℕ) → IsDigitCount 16 16 n k → n < 18446744073709551616 → last_digits 16 k n ≡ word n
unfolding word
fewest_word k n f below = ap (λ (j : ℕ). last_digits 16 j n) sixteen
  where
    over : 16 < k → ⊥
    over h = omega (arith, f.2 h, pow-le-pow_right {n = 16} (omega arith) {i = 16} {j = k - 1} (omega arith))

    sixteen : k ≡ 16
    sixteen = elim (dec_lt 16 k) [ yes h ↦ absurd (over h) | no h ↦ omega (arith, f.0) ]
