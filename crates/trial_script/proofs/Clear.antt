-- Texts without a space: the first field of a line, and what stands behind it. Assumes nothing.
use mathlib.Core.Path.{◌≡◌, refl, sym, ap, ◌∙◌}
use mathlib.Core.Bool.{Bool, true, false, cond}
use mathlib.Core.List.{List, [], ◌∷◌, ◌++◌, append_assoc}
use Prim.Native.Nat.{ℕ, zero, suc, ◌+◌, ◌/◌, ◌%◌, ◌≤◌, ◌<◌}
use native.Mathlib.Nat.{zero-add, add-zero}
use native.Mathlib.Decide.{dec_lt}
use native.Mathlib.Omega.{arith}
use borrow.Author.Tests.{ne_eqb, lt-ltb, le-ltb, eqb-true}
use lib.Dec.{eqb, ltb}
use lib.ListN.{length, take, drop, length-append, drop_of_length-le}
use lib.Seq.{take_at, drop_at, take-length}
use Rattle.io.specs.Digits.{hex_digit_ascii, last_digits}
use Rattle.text.specs.Page.{joined}
use Rattle.text.specs.Number.{numeral, decimal, hexadecimal, word}
use Rattle.sender.specs.declared.Group.TheVariants.{V4, V6}
use Rattle.sender.specs.declared.Unit as unit
use Rattle.sender.specs.declared.Unit.TheVariants.{Corroborated, Group as Grouped, NoAddress, Overflow}
use Rattle.label.specs.Label.{label, key_label, v4_label, v6_label}
use Rattle.label.specs.Short.{shown, short_label}
use Rattle.label.proofs.Short.{is_short}
use Rattle.store.specs.declared.Cause as cause
use Rattle.store.specs.declared.Cause.TheVariants.{ReceiverCeiling, OverShare, RelayRate}
use Rattle.trial_script.specs.Fields.{width, first, rest}
use Rattle.trial_script.specs.Script.{cause_name}

abbrev pub Clear : List ℕ → Type 0
Clear x = width x ≡ length x

append_by : (x : ℕ) (a b : List ℕ) (t : Bool) → cond t 0 (suc (width a)) ≡ suc (length a) → (width a ≡ length a → width (a ++ b) ≡ length a + width b)
    → cond t 0 (suc (width (a ++ b))) ≡ suc (length a) + width b
append_by x a b true e h = absurd (omega arith)
append_by x a b false e h = omega (arith, h (omega arith))

width_append : (a b : List ℕ) → Clear a → width (a ++ b) ≡ length a + width b
unfolding width
width_append [] b e = sym (zero-add (width b))
width_append (x ∷ a) b e = append_by x a b (eqb x 32) e (width_append a b)

pub clear_append : (a b : List ℕ) → Clear a → Clear b → Clear (a ++ b)
clear_append a b ea eb = omega (arith, width_append a b ea, length-append a b)

-- a text without a space, one space, and any text behind it
module _ (a b : List ℕ) (e : Clear a) where
  width_seam : width (a ++ (32 ∷ b)) ≡ length a
  unfolding width
  width_seam = width_append a (32 ∷ b) e ∙ add-zero (length a)

  pub first_seam : first (a ++ (32 ∷ b)) ≡ a
  unfolding first
  first_seam = take_at a (32 ∷ b) (width (a ++ (32 ∷ b))) (sym width_seam)

  pub rest_seam : rest (a ++ (32 ∷ b)) ≡ b
  unfolding rest
  rest_seam =
      ap (drop (suc (width (a ++ (32 ∷ b))))) (sym (append_assoc a (32 ∷ []) b))
      ∙ drop_at (a ++ (32 ∷ [])) b (suc (width (a ++ (32 ∷ b)))) (length-append a (32 ∷ []) ∙ omega (arith, width_seam))

pub first_whole : (a : List ℕ) → Clear a → first a ≡ a
unfolding first
first_whole a e = ap (λ (n : ℕ). take n a) e ∙ take-length a

-- a line with something behind its first field is that field, a space, and what stands behind
split_by : (x : ℕ) (xs : List ℕ) (t : Bool) → eqb x 32 ≡ t → (width xs < length xs → take (width xs) xs ++ (32 ∷ drop (suc (width xs)) xs) ≡ xs)
    → cond t 0 (suc (width xs)) < suc (length xs)
    → take (cond t 0 (suc (width xs))) (x ∷ xs) ++ (32 ∷ drop (suc (cond t 0 (suc (width xs)))) (x ∷ xs)) ≡ x ∷ xs
split_by x xs true e h l = ap (λ (n : ℕ). n ∷ xs) (sym (eqb-true x 32 e))
split_by x xs false e h l = ap (λ (r : List ℕ). x ∷ r) (h (omega arith))

split : (s : List ℕ) → width s < length s → take (width s) s ++ (32 ∷ drop (suc (width s)) s) ≡ s
unfolding width
split [] h = absurd (omega arith)
split (x ∷ xs) h = split_by x xs (eqb x 32) refl (split xs) h

pub seamed : (s : List ℕ) → (rest s ≡ [] → ⊥) → first s ++ (32 ∷ rest s) ≡ s
unfolding first rest
seamed s some =
    elim (dec_lt (width s) (length s)) [
      | yes h ↦ split s h
      | no h ↦ absurd (some (drop_of_length-le s {i = suc (width s)} (omega arith)))
    ]

-- digits, labels and causes have no space
glyph_large : (d : ℕ) → 48 ≤ hex_digit_ascii d
glyph_large d = elim (dec_lt d 10) [ yes h ↦ simp (lt-ltb d 10 h) (omega arith) | no h ↦ simp (le-ltb d 10 (omega arith)) (omega arith) ]

glyph_clear : (d : ℕ) → Clear (hex_digit_ascii d ∷ [])
unfolding width
glyph_clear d = let h = glyph_large d in simp (ne_eqb (hex_digit_ascii d) 32 (λ e. omega arith))

digits_clear : (base k n : ℕ) → Clear (last_digits base k n)
unfolding width
digits_clear base zero n = refl
digits_clear base (suc k) n = clear_append (last_digits base k (n / base)) (hex_digit_ascii (n % base) ∷ []) (digits_clear base k (n / base)) (glyph_clear (n % base))

cond_clear : (t : Bool) (x y : List ℕ) → Clear x → Clear y → Clear (cond t x y)
cond_clear true x y ex ey = ex
cond_clear false x y ex ey = ey

numeral_clear : (base most n : ℕ) → Clear (numeral base most n)
unfolding numeral width
numeral_clear base zero n = refl
numeral_clear base (suc most) n =
    cond_clear (ltb n base) (hex_digit_ascii n ∷ []) (numeral base most (n / base) ++ (hex_digit_ascii (n % base) ∷ [])) (glyph_clear n)
    (clear_append (numeral base most (n / base)) (hex_digit_ascii (n % base) ∷ []) (numeral_clear base most (n / base)) (glyph_clear (n % base)))

pub decimal_clear : (n : ℕ) → Clear (decimal n)
unfolding decimal
decimal_clear n = numeral_clear 10 20 n

hexadecimal_clear : (n : ℕ) → Clear (hexadecimal n)
unfolding hexadecimal
hexadecimal_clear n = numeral_clear 16 16 n

word_clear : (n : ℕ) → Clear (word n)
unfolding word
word_clear n = digits_clear 16 16 n

-- five texts joined
five_clear : (a b c d e : List ℕ) → Clear a → Clear b → Clear c → Clear d → Clear e → Clear (joined (a ∷ b ∷ c ∷ d ∷ e ∷ []))
unfolding joined width
five_clear a b c d e ea eb ec ed ee =
    clear_append a (b ++ (c ++ (d ++ (e ++ [])))) ea
    (clear_append b (c ++ (d ++ (e ++ []))) eb
    (clear_append c (d ++ (e ++ [])) ec
    (clear_append d (e ++ []) ed
    (clear_append e [] ee refl))))

-- what is shown of the two fields of a V6 group, and `::/32`
module _ (a b : ℕ) where
  either : (s t : Bool) → Clear (joined (cond s (cond t [] (hexadecimal a ∷ [])) (hexadecimal a ∷ (58 ∷ []) ∷ hexadecimal b ∷ []) ++ ((58 ∷ 58 ∷ 47 ∷ 51 ∷ 50 ∷ []) ∷ [])))
  unfolding joined width
  either true true = refl
  either true false = clear_append (hexadecimal a) (58 ∷ 58 ∷ 47 ∷ 51 ∷ 50 ∷ []) (hexadecimal_clear a) refl
  either false t =
      clear_append (hexadecimal a) (58 ∷ (hexadecimal b ++ (58 ∷ 58 ∷ 47 ∷ 51 ∷ 50 ∷ []))) (hexadecimal_clear a)
      (clear_append (58 ∷ []) (hexadecimal b ++ (58 ∷ 58 ∷ 47 ∷ 51 ∷ 50 ∷ [])) refl
      (clear_append (hexadecimal b) (58 ∷ 58 ∷ 47 ∷ 51 ∷ 50 ∷ []) (hexadecimal_clear b) refl))

  shown_clear : Clear (joined (shown a b ++ ((58 ∷ 58 ∷ 47 ∷ 51 ∷ 50 ∷ []) ∷ [])))
  unfolding shown
  shown_clear = either (eqb b 0) (eqb a 0)

v6_clear : (n : ℕ) → Clear (v6_label n)
unfolding short_label joined width
v6_clear n = rw (is_short n) (clear_append (118 ∷ 54 ∷ 58 ∷ []) _ refl (shown_clear (n / 65536) (n % 65536)))

pub label_clear : (u : unit.Unit) → Clear (label u)
unfolding label key_label v4_label width
label_clear (Corroborated k) = five_clear _ _ _ _ _ refl (word_clear k.a) (word_clear k.b) (word_clear k.c) (word_clear k.d)
label_clear (Grouped (V4 n)) = five_clear _ _ _ _ _ refl (decimal_clear (n / 256)) refl (decimal_clear (n % 256)) refl
label_clear (Grouped (V6 n)) = v6_clear n
label_clear NoAddress = refl
label_clear Overflow = refl

pub cause_clear : (c : cause.Cause) → Clear (cause_name c)
unfolding cause_name width
cause_clear ReceiverCeiling = refl
cause_clear OverShare = refl
cause_clear RelayRate = refl
