-- `parse` takes exactly the labels: what it takes prints to the same bytes, and each label is taken. Assumes nothing.
use mathlib.Core.Path.{◌≡◌, refl, sym, ap, ◌∙◌}
use mathlib.Core.Bool.{Bool, true, false, cond}
use mathlib.Core.List.{List, [], ◌∷◌, ◌++◌, append_assoc}
use Prim.Native.Nat.{ℕ, zero, suc, ◌+◌, ◌*◌, ◌/◌, ◌%◌, ◌<◌}
use native.Mathlib.Nat.{div-add-mod', mod-lt, div-lt_iff_lt-mul, mod-eq_of_lt}
use native.Mathlib.Omega.{arith}
use lib.Dec.{eqb}
use lib.ListN.{length, length-append}
use Rattle.text.specs.Page.{joined}
use Rattle.text.specs.Number.{decimal, hexadecimal, word}
use Rattle.text.proofs.Numbers.{length_word}
use Rattle.text.specs.Order.{same}
use Rattle.text.proofs.Orders.{same_is, same_refl, same_eq}
use Rattle.sender.specs.declared.PublicKey.{PublicKey}
use Rattle.sender.specs.declared.Group.TheVariants.{V4, V6}
use Rattle.sender.specs.declared.Unit as unit
use Rattle.sender.specs.declared.Unit.TheVariants.{Corroborated, Group as Grouped, NoAddress, Overflow}
use Rattle.label_parse.specs.declared.Field.{Field}
use Rattle.std.specs.Prelude.{Option, Some, None, is_some}
use Rattle.std.specs.Bool.{then_some}
use Rattle.std.specs.Cmp.Lexicographic.{pointwise}
use Rattle.label.specs.Label.{label, key_label, v4_label, v6_label}
use Rattle.label.specs.Short.{shown, short_label}
use Rattle.label.proofs.Short.{not_zero, is_short}
use Rattle.label_parse.specs.Parse.{digit, field, first_of, second-of, word_at, key_of, v4_of, v6_of, unit_in, is_label, parse, KeyFits, InRange, Exact}
use Rattle.label_parse.proofs.Reading.{field_digits, first_value, second_value, alone_value, none_behind}

-- a word printed is read back
word_read : (s p t : List ℕ) (n place : ℕ) → s ≡ p ++ (word n ++ t) → length p ≡ place → n < 18446744073709551616 → word_at s place ≡ n
unfolding word word_at field
word_read s p t n place es ep below =
    ap (λ (f : Field). f.value) (field_digits 16 (omega arith) (omega arith) 16 0 16 s p t n 0 place refl es ep below) ∙ omega arith

module _ (k : PublicKey) (r : KeyFits k) where
  abbrev start : List ℕ
  start = 107 ∷ 101 ∷ 121 ∷ 58 ∷ []

  abbrev end_c : List ℕ
  end_c = word k.d ++ []

  abbrev end_b : List ℕ
  end_b = word k.c ++ end_c

  abbrev end_a : List ℕ
  end_a = word k.b ++ end_b

  all : key_label k ≡ start ++ (word k.a ++ end_a)
  unfolding key_label joined
  all = refl

  from_b : key_label k ≡ start ++ word k.a ++ end_a
  from_b = all ∙ sym (append_assoc start (word k.a) end_a)

  from_c : key_label k ≡ start ++ word k.a ++ word k.b ++ end_b
  from_c = from_b ∙ sym (append_assoc (start ++ word k.a) (word k.b) end_b)

  from_d : key_label k ≡ start ++ word k.a ++ word k.b ++ word k.c ++ end_c
  from_d = from_c ∙ sym (append_assoc (start ++ word k.a ++ word k.b) (word k.c) end_c)

  key_read : key_of (key_label k) ≡ k
  unfolding key_of
  key_read =
      let a = word_read (key_label k) start end_a k.a 4 all refl r.a_fits in
      let b = word_read (key_label k) (start ++ word k.a) end_b k.b 20 from_b (simp (length-append, length_word)) r.b_fits in
      let c = word_read (key_label k) (start ++ word k.a ++ word k.b) end_c k.c 36 from_c (simp (length-append, length_word)) r.c_fits in
      let d = word_read (key_label k) (start ++ word k.a ++ word k.b ++ word k.c) [] k.d 52 from_d (simp (length-append, length_word)) r.d_fits in
      simp (a, b, c, d)

v4_read : (n : ℕ) → n < 65536 → v4_of (v4_label n) ≡ n
unfolding v4_of v4_label joined decimal digit
v4_read n below =
    let p : n / 256 < 256 = (div-lt_iff_lt-mul {k = 256} (omega arith)).1 below in
    let q : n % 256 < 256 = mod-lt n (omega arith) in
    let t : List ℕ = 48 ∷ 46 ∷ 48 ∷ 47 ∷ 49 ∷ 54 ∷ [] in
    let x = first_value 10 (omega arith) (omega arith) 20 3 118 52 58 (n / 256) 46 (n % 256) 46 t (omega arith) (omega arith) (omega arith) (omega arith) (omega arith) (omega arith) in
    let y = second_value 10 (omega arith) (omega arith) 20 3 118 52 58 (n / 256) 46 (n % 256) 46 t (omega arith) (omega arith) (omega arith) (omega arith) (omega arith) (omega arith) in
    simp (x, y, mod-eq_of_lt p, mod-eq_of_lt q) (div-add-mod' n 256)

-- both fields printed
both_read : (a b : ℕ) → a < 65536 → b < 65536 → v6_of (118 ∷ 54 ∷ 58 ∷ (hexadecimal a ++ (58 ∷ (hexadecimal b ++ (58 ∷ 58 ∷ 47 ∷ 51 ∷ 50 ∷ []))))) ≡ a * 65536 + b
unfolding v6_of hexadecimal digit
both_read a b p q =
    let t : List ℕ = 58 ∷ 47 ∷ 51 ∷ 50 ∷ [] in
    let x = first_value 16 (omega arith) (omega arith) 16 4 118 54 58 a 58 b 58 t (omega arith) (omega arith) p q (omega arith) (omega arith) in
    let y = second_value 16 (omega arith) (omega arith) 16 4 118 54 58 a 58 b 58 t (omega arith) (omega arith) p q (omega arith) (omega arith) in
    simp (x, y)

-- what the short form shows of two fields is read back as them
shown_read : (a b : ℕ) → a < 65536 → b < 65536 → v6_of (118 ∷ 54 ∷ 58 ∷ joined (shown a b ++ ((58 ∷ 58 ∷ 47 ∷ 51 ∷ 50 ∷ []) ∷ []))) ≡ a * 65536 + b
unfolding v6_of first_of second-of field digit shown joined hexadecimal
shown_read zero zero p q = refl
shown_read (suc a) zero p q =
    let t : List ℕ = 47 ∷ 51 ∷ 50 ∷ [] in
    let x = alone_value 16 (omega arith) (omega arith) 16 4 118 54 58 (suc a) 58 58 t (omega arith) (omega arith) p (omega arith) (omega arith) in
    let y = none_behind 16 (omega arith) (omega arith) 16 4 118 54 58 (suc a) 58 58 t (omega arith) (omega arith) p (omega arith) (omega arith) in
    rw (not_zero a) (simp (x, y))
shown_read zero (suc b) p q = rw (not_zero b) (both_read 0 (suc b) p q)
shown_read (suc a) (suc b) p q = rw (not_zero b) (both_read (suc a) (suc b) p q)

v6_read : (n : ℕ) → n < 4294967296 → v6_of (v6_label n) ≡ n
unfolding short_label joined
v6_read n below =
    let p : n / 65536 < 65536 = (div-lt_iff_lt-mul {k = 65536} (omega arith)).1 below in
    rw (is_short n) (shown_read (n / 65536) (n % 65536) p (mod-lt n (omega arith)) ∙ div-add-mod' n 65536)

-- the fields of a label give its unit
unit_read : (u : unit.Unit) → InRange u → unit_in (label u) ≡ u
unfolding unit_in label key_label v4_label v6_label joined
unit_read (Corroborated k) r = ap Corroborated (key_read k r)
unit_read (Grouped (V4 n)) r = ap (λ (x : ℕ). Grouped (V4 x)) (v4_read n r)
unit_read (Grouped (V6 n)) r = ap (λ (x : ℕ). Grouped (V6 x)) (v6_read n r)
unit_read NoAddress r = refl
unit_read Overflow r = refl

-- a text that is taken is the label of its fields' unit
taken_is : (s : List ℕ) → is_label s ≡ true → label (unit_in s) ≡ s
unfolding is_label
taken_is s h = same_eq _ _ h

-- what is taken prints to the same bytes
pub parse_label : (s : List ℕ) (u : unit.Unit) → parse s ≡ Some u → label u ≡ s
unfolding parse
parse_label s u e = by (is_label s) refl e
  where
    by : (t : Bool) → is_label s ≡ t → cond t (Some (unit_in s)) None ≡ Some u → label u ≡ s
    by true h k = let same_bytes = taken_is s h in cc
    by false h k = let z : ◌≡◌ {A = ℕ} 0 1 = cc in absurd (omega arith)

-- each label is taken
pub label_parse_lem : (u : unit.Unit) → InRange u → parse (label u) ≡ Some u
unfolding parse is_label
label_parse_lem u r = simp (unit_read u r, same_refl (label u))

pub parse_exact : (s : List ℕ) → Exact s (parse s)
parse_exact s = record { taken = parse_label s; every = λ u r e. rw e at (label_parse_lem u r) }

pub exact_of : (s : List ℕ) (r : Option unit.Unit) → r ≡ parse s → Exact s r
exact_of s r e = rw e (parse_exact s)

some_if : (t : Bool) (u : unit.Unit) → then_some t u ≡ cond t (Some u) None
some_if true u = refl
some_if false u = refl

-- `parse` as the code finds it: the unit read, where its printed label is the text
pub found : (s : List ℕ) → parse s ≡ then_some (pointwise eqb (label (unit_in s)) s) (unit_in s)
unfolding parse is_label
found s =
    sym (some_if (same (label (unit_in s)) s) (unit_in s))
    ∙ ap (λ (t : Bool). then_some t (unit_in s)) (sym (same_is (label (unit_in s)) s))

-- a text is a label where a unit is read of it
pub is_some_parse : (s : List ℕ) → is_some (parse s) ≡ is_label s
unfolding parse
is_some_parse s = by (is_label s)
  where
    by : (t : Bool) → is_some (cond t (Some (unit_in s)) None) ≡ t
    by true = refl
    by false = refl
