-- A number printed in a text is read back by `field`. Assumes nothing.
use mathlib.Core.Path.{◌≡◌, refl, sym, ap, subst, ◌∙◌}
use mathlib.Core.List.{List, [], ◌∷◌, ◌++◌, append_assoc}
use Prim.Native.Nat.{ℕ, zero, suc, ◌+◌, ◌-◌, ◌*◌, ◌/◌, ◌%◌, ◌^◌, ◌≤◌, ◌<◌}
use native.Mathlib.Nat.{add_assoc, pow-suc, pow-zero, one-mul, mod-lt, mod-eq_of_lt, div-lt_iff_lt-mul, div-add-mod'}
use native.Mathlib.Decide.{dec_lt}
use native.Mathlib.Omega.{arith}
use borrow.Author.Tests.{lt-ltb, le-ltb}
use lib.ListN.{length, get_or, length-append}
use lib.Seq.{get_or_at}
use Rattle.io.specs.Digits.{hex_digit_ascii, last_digits}
use Rattle.text.specs.Number.{numeral}
use Rattle.text.proofs.Numbers.{length_digits}
use Rattle.label_parse.specs.declared.Field.{Field}
use Rattle.label_parse.specs.Parse.{digit, field, from, first_of, second-of}
use Rattle.label_parse.proofs.Fields.{field_stop, field_turn}

-- a digit printed is read back
pub digit_glyph : (d : ℕ) → d < 16 → digit (hex_digit_ascii d) ≡ d
unfolding digit
digit_glyph d h =
    elim (dec_lt d 10) [
      | yes l ↦ simp (lt-ltb d 10 l, le-ltb (48 + d) 48 (omega arith), lt-ltb (48 + d) 58 (omega arith)) (omega arith)
      | no l ↦
          simp (
            le-ltb d 10 (omega arith),
            le-ltb (87 + d) 48 (omega arith),
            le-ltb (87 + d) 58 (omega arith),
            le-ltb (87 + d) 97 (omega arith),
            lt-ltb (87 + d) 103 (omega arith),
          ) (omega arith)
    ]

abbrev at : ℕ → ℕ → Field
at value place = record { value = value; at = place }

-- what the digits so far make, and one digit more
one_more : (base v j n : ℕ) → (v * base ^ j + n / base) * base + n % base ≡ v * base ^ suc j + n
one_more base v j n = rw (pow-suc base j) (omega (arith, div-add-mod' n base))

same_field : (base : ℕ) (s : List ℕ) {most k v w place q : ℕ} → most ≡ k → v ≡ w → place ≡ q → field base most s (at v place) ≡ field base k s (at w q)
same_field base s em ev ep = cc

same_at : {v w place q : ℕ} → v ≡ w → place ≡ q → at v place ≡ at w q
same_at ev ep = cc

-- the byte behind a front part
byte_behind : (s p q t : List ℕ) (x place j : ℕ) → s ≡ p ++ (q ++ (x ∷ t)) → length p ≡ place → length q ≡ j → get_or s (place + j) 0 ≡ x
byte_behind s p q t x place j es ep eq =
    ap (λ (l : List ℕ). get_or l (place + j) 0) (es ∙ sym (append_assoc p q (x ∷ t)))
    ∙ get_or_at (p ++ q) x t 0 (place + j) (length-append p q ∙ omega arith)

-- the digits of n, read from their place on, give n
module _ (base : ℕ) (some : 1 < base) (few : base ≤ 16) where
  pub field_digits : (j k most : ℕ) (s p t : List ℕ) (n v place : ℕ) → most ≡ j + k → s ≡ p ++ (last_digits base j n ++ t) → length p ≡ place → n < base ^ j
      → field base most s (at v place) ≡ field base k s (at (v * base ^ j + n) (place + j))
  field_digits zero k most s p t n v place em es ep below =
      same_field base s (omega arith) (rw (pow-zero base) (omega (arith, pow-zero base))) (omega arith)
  field_digits (suc j) k most s p t n v place em es ep below =
      let g : ℕ = hex_digit_ascii (n % base) in
      let es' : s ≡ p ++ (last_digits base j (n / base) ++ (g ∷ t)) = es ∙ ap (λ (l : List ℕ). p ++ l) (append_assoc (last_digits base j (n / base)) (g ∷ []) t) in
      let small : n % base < base = mod-lt n (omega arith) in
      let d : digit (get_or s (place + j) 0) ≡ n % base =
      ap digit (byte_behind s p (last_digits base j (n / base)) t g place j es' ep (length_digits base j (n / base))) ∙ digit_glyph (n % base) (omega arith) in
      field_digits j (suc k) most s p (g ∷ t) (n / base) v place (omega arith) es' ep ((div-lt_iff_lt-mul (omega arith)).1 (rw (pow-suc base j) at below))
      ∙ field_turn base s (at (v * base ^ j + n / base) (place + j)) k (rw d small)
      ∙ same_field base s refl (ap (λ (x : ℕ). (v * base ^ j + n / base) * base + x) d ∙ one_more base v j n) (omega arith)

  -- a numeral is one of digits, no more than hold the number
  pub record Printed (m n : ℕ) (text : List ℕ) : Type 0 where
    pub count : ℕ
    pub within : count < m
    pub holds : n < base ^ suc count
    pub is : text ≡ last_digits base (suc count) n

  pow-one : base ^ 1 ≡ base
  pow-one = pow-suc base 0 ∙ ap (λ (x : ℕ). x * base) (pow-zero base) ∙ one-mul base

  longer : (m n : ℕ) → base ≤ n → n < base ^ suc m → 0 < m
  longer zero n h below = absurd (omega (arith, pow-one))
  longer (suc m) n h below = omega arith

  printed : (most m n : ℕ) → n < base ^ m → 0 < m → m ≤ most → Printed m n (numeral base most n)
  unfolding numeral
  printed zero m n below p l = absurd (omega arith)
  printed (suc most) zero n below p l = absurd (omega arith)
  printed (suc most) (suc m) n below p l =
      elim (dec_lt n base) [
        | yes h ↦ record { count = 0; within = omega arith; holds = rw pow-one h; is = simp (lt-ltb n base h, mod-eq_of_lt h) }
        | no h ↦
            let w : Printed m (n / base) (numeral base most (n / base)) =
            printed most m (n / base) ((div-lt_iff_lt-mul (omega arith)).1 (rw (pow-suc base m) at below)) (longer m n (omega arith) below) (omega arith) in
            record {
              count = suc w.count;
              within = omega (arith, w.within);
              holds = rw (pow-suc base (suc w.count)) ((div-lt_iff_lt-mul {k = base} (omega arith)).0 w.holds);
              is = simp (le-ltb n base (omega arith)) (ap (λ (l : List ℕ). l ++ (hex_digit_ascii (n % base) ∷ [])) w.is);
            }
      ]

  -- a numeral with a byte behind it that is no digit is read whole
  pub field_numeral : (most m : ℕ) (s p t : List ℕ) (n x place : ℕ) → s ≡ p ++ (numeral base most n ++ (x ∷ t)) → length p ≡ place
      → n < base ^ m → 0 < m → m ≤ most → base ≤ digit x
      → field base m s (from place) ≡ at n (place + length (numeral base most n))
  field_numeral most m s p t n x place es ep below pos l ends =
      let w : Printed m n (numeral base most n) = printed most m n below pos l in
      let k : ℕ = suc w.count in
      let es' : s ≡ p ++ (last_digits base k n ++ (x ∷ t)) = es ∙ ap (λ (q : List ℕ). p ++ (q ++ (x ∷ t))) w.is in
      let long : length (numeral base most n) ≡ k = ap length w.is ∙ length_digits base k n in
      let b : get_or s (place + k) 0 ≡ x = byte_behind s p (last_digits base k n) t x place k es' ep (length_digits base k n) in
      field_digits k (m - k) m s p (x ∷ t) n 0 place (omega (arith, w.within)) es' ep w.holds
      ∙ field_stop base s (at (0 * base ^ k + n) (place + k)) (m - k) (rw b ends)
      ∙ same_at (omega arith) (omega arith)

  -- two numerals behind three bytes, with a byte between them and one behind
  module _ (most m : ℕ) (h0 h1 h2 a mid b x : ℕ) (t : List ℕ) (pos : 0 < m) (l : m ≤ most) (below_a : a < base ^ m) (below_b : b < base ^ m)
      (ends_a : base ≤ digit mid) (ends_b : base ≤ digit x) where
    abbrev head : List ℕ
    head = h0 ∷ h1 ∷ h2 ∷ []

    abbrev text : List ℕ
    text = head ++ (numeral base most a ++ (mid ∷ (numeral base most b ++ (x ∷ t))))

    first-is : first_of base m text ≡ at a (3 + length (numeral base most a))
    unfolding first_of
    first-is = field_numeral most m text head (numeral base most b ++ (x ∷ t)) a mid 3 refl refl below_a pos l ends_a

    parts : text ≡ head ++ numeral base most a ++ (mid ∷ []) ++ (numeral base most b ++ (x ∷ t))
    parts = sym (append_assoc (head ++ numeral base most a) (mid ∷ []) (numeral base most b ++ (x ∷ t)) ∙ append_assoc head (numeral base most a) (mid ∷ (numeral base most b ++ (x ∷ t))))

    pub first_value : (first_of base m text).value ≡ a
    first_value = ap (λ (f : Field). f.value) first-is

    pub second_value : (second-of base m text).value ≡ b
    unfolding second-of
    second_value =
        ap (λ (f : Field). (field base m text (from (f.at + 1))).value) first-is
        ∙ ap (λ (f : Field). f.value)
        (field_numeral most m text (head ++ numeral base most a ++ (mid ∷ [])) t b x (3 + length (numeral base most a) + 1) parts
        (simp length-append (omega arith)) below_b pos l ends_b)

  -- one numeral behind three bytes, with two bytes that are no digits behind it: the second field is 0
  module _ (most m : ℕ) (h0 h1 h2 a mid x : ℕ) (t : List ℕ) (pos : 0 < m) (l : m ≤ most) (below : a < base ^ m) (ends_a : base ≤ digit mid) (ends_x : base ≤ digit x) where
    abbrev front : List ℕ
    front = h0 ∷ h1 ∷ h2 ∷ []

    abbrev single : List ℕ
    single = front ++ (numeral base most a ++ (mid ∷ x ∷ t))

    alone-is : first_of base m single ≡ at a (3 + length (numeral base most a))
    unfolding first_of
    alone-is = field_numeral most m single front (x ∷ t) a mid 3 refl refl below pos l ends_a

    pub alone_value : (first_of base m single).value ≡ a
    alone_value = ap (λ (f : Field). f.value) alone-is

    byte_next : get_or single (3 + length (numeral base most a) + 1) 0 ≡ x
    byte_next =
        ap (λ (k : ℕ). get_or single k 0) (add_assoc 3 (length (numeral base most a)) 1)
        ∙ byte_behind single front (numeral base most a ++ (mid ∷ [])) t x 3 (length (numeral base most a) + 1)
        (ap (λ (q : List ℕ). front ++ q) (sym (append_assoc (numeral base most a) (mid ∷ []) (x ∷ t)))) refl (length-append (numeral base most a) (mid ∷ []))

    pub none_behind : (second-of base m single).value ≡ 0
    unfolding second-of
    none_behind =
        ap (λ (f : Field). (field base m single (from (f.at + 1))).value) alone-is
        ∙ ap (λ (f : Field). f.value) (field_stop base single (from (3 + length (numeral base most a) + 1)) m (subst (λ (y : ℕ). base ≤ digit y) (sym byte_next) ends_x))
