-- Labels as written: five texts one after the other, and no label is longer than a key's. Assumes nothing.
use mathlib.Core.Path.{◌≡◌, refl, sym, ap, ◌∙◌}
use mathlib.Core.List.{List, [], ◌∷◌, ◌++◌}
use Prim.Native.Nat.{ℕ, zero, suc, ◌+◌, ◌≤◌, ◌/◌, ◌%◌}
use native.Mathlib.Omega.{arith}
use lib.ListN.{length, length-append}
use Rattle.text.specs.Page.{Page, page, write, writes, joined}
use Rattle.text.specs.Number.{decimal, hexadecimal}
use Rattle.text.proofs.Writing.{writes_joined}
use Rattle.text.proofs.Numbers.{numeral_short, length_word}
use Rattle.sender.specs.declared.PublicKey.{PublicKey}
use Rattle.sender.specs.declared.Group.TheVariants.{V4, V6}
use Rattle.sender.specs.declared.Unit.{Unit}
use Rattle.sender.specs.declared.Unit.TheVariants.{Corroborated, Group as Grouped, NoAddress, Overflow}
use Rattle.label.specs.Label.{label, key_label, v4_label, v6_label}
use Rattle.label.specs.Short.{shown, short_label}
use Rattle.label.proofs.Short.{not_zero, is_short}

-- texts written in two parts
writes_append : (p : Page) (ts us : List (List ℕ)) → writes p (ts ++ us) ≡ writes (writes p ts) us
unfolding writes
writes_append p [] us = refl
writes_append p (t ∷ ts) us = writes_append (write p t) ts us

-- five texts joined, and their length
module _ (a b c d e : List ℕ) where
  abbrev five : List (List ℕ)
  five = a ∷ b ∷ c ∷ d ∷ e ∷ []

  five_length : length (joined five) ≡ length a + (length b + (length c + (length d + length e)))
  unfolding joined
  five_length = simp length-append (omega arith)

  -- written one after the other into a buffer with room for them, they are their joined text written
  pub five_written : (out : List ℕ) {p1 p2 p3 p4 p5 : Page} → length a + (length b + (length c + (length d + length e))) ≤ length out
      → p1 ≡ write (page out 0) a → p2 ≡ write p1 b → p3 ≡ write p2 c → p4 ≡ write p3 d → p5 ≡ write p4 e → p5 ≡ write (page out 0) (joined five)
  unfolding writes
  five_written out room e1 e2 e3 e4 e5 =
      e5
      ∙ ap (λ (p : Page). write p e)
      (e4 ∙ ap (λ (p : Page). write p d) (e3 ∙ ap (λ (p : Page). write p c) (e2 ∙ ap (λ (p : Page). write p b) e1)))
      ∙ writes_joined (page out 0) five (omega (arith, five_length))

pub decimal_short : (n : ℕ) → length (decimal n) ≤ 20
unfolding decimal
decimal_short n = numeral_short 10 20 n

pub hexadecimal_short : (n : ℕ) → length (hexadecimal n) ≤ 16
unfolding hexadecimal
hexadecimal_short n = numeral_short 16 16 n

pub key_short : (k : PublicKey) → length (key_label k) ≤ 68
unfolding key_label joined
key_short k = simp (length-append, length_word) (omega arith)

pub v4_short : (n : ℕ) → length (v4_label n) ≤ 68
unfolding v4_label joined
v4_short n = simp length-append (omega (arith, decimal_short (n / 256), decimal_short (n % 256)))

shown_short : (a b : ℕ) → length (joined (shown a b ++ ((58 ∷ 58 ∷ 47 ∷ 51 ∷ 50 ∷ []) ∷ []))) ≤ 65
unfolding shown joined
shown_short zero zero = omega arith
shown_short (suc a) zero = rw (not_zero a) (simp length-append (omega (arith, hexadecimal_short (suc a))))
shown_short zero (suc b) = rw (not_zero b) (simp length-append (omega (arith, hexadecimal_short 0, hexadecimal_short (suc b))))
shown_short (suc a) (suc b) = rw (not_zero b) (simp length-append (omega (arith, hexadecimal_short (suc a), hexadecimal_short (suc b))))

short_fits : (n : ℕ) → length (short_label n) ≤ 68
unfolding short_label joined
short_fits n = omega (arith, shown_short (n / 65536) (n % 65536))

pub v6_short : (n : ℕ) → length (v6_label n) ≤ 68
v6_short n = rw (is_short n) (short_fits n)

-- `v6:`, what is shown of the two fields, and `::/32`, written one after the other
pub v6_written : (prefix high low : ℕ) (out : List ℕ) {p1 p2 p3 : Page} → high ≡ prefix / 65536 → low ≡ prefix % 65536 → 68 ≤ length out
    → p1 ≡ write (page out 0) (118 ∷ 54 ∷ 58 ∷ []) → p2 ≡ writes p1 (shown high low) → p3 ≡ write p2 (58 ∷ 58 ∷ 47 ∷ 51 ∷ 50 ∷ [])
    → p3 ≡ write (page out 0) (v6_label prefix)
unfolding writes short_label
v6_written prefix high low out eh el room e1 e2 e3 =
    let front : List ℕ = 118 ∷ 54 ∷ 58 ∷ [] in
    let back : List ℕ = 58 ∷ 58 ∷ 47 ∷ 51 ∷ 50 ∷ [] in
    let ts : List (List ℕ) = shown (prefix / 65536) (prefix % 65536) in
    e3
    ∙ ap (λ (p : Page). write p back) (e2 ∙ ap (λ (p : Page). writes p (shown high low)) e1 ∙ simp (eh, el))
    ∙ sym (writes_append (write (page out 0) front) ts (back ∷ []))
    ∙ writes_joined (page out 0) (front ∷ (ts ++ (back ∷ []))) (omega (arith, short_fits prefix))
    ∙ ap (write (page out 0)) (sym (is_short prefix))

-- no label is longer than a key's
pub label_short : (u : Unit) → length (label u) ≤ 68
unfolding label
label_short (Corroborated k) = key_short k
label_short (Grouped (V4 n)) = v4_short n
label_short (Grouped (V6 n)) = v6_short n
label_short NoAddress = omega arith
label_short Overflow = omega arith
