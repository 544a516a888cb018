-- Labels compared without writing them: those of two keys by their words, and that of a key before all others. Assumes nothing.
use mathlib.Core.Path.{◌≡◌, refl, sym, ap, ◌∙◌}
use mathlib.Core.Bool.{Bool, true, false, cond, not, false≢true}
use mathlib.Core.List.{List, [], ◌∷◌, ◌++◌, append_assoc}
use Prim.Native.Nat.{ℕ, zero, suc, ◌/◌, ◌%◌, ◌^◌, ◌<◌}
use native.Mathlib.Nat.{pow-suc, pow-zero, div-lt_iff_lt-mul, div-add-mod', mod-lt}
use native.Mathlib.Decide.{ℕ_discrete, dec_lt}
use Rattle.std.specs.Cmp.Lexicographic.{slice_partial_cmp}
use Rattle.std.specs.Ordering.{is_some_and, is_lt, partial_ordering_then, nat_cmp}
use Rattle.std.specs.declared.cmp.Ordering.{Ordering}
use Rattle.std.specs.declared.cmp.Ordering.TheVariants.{Less, Equal, Greater}
use Rattle.std.specs.declared.option.Option.{Option}
use Rattle.std.specs.declared.option.Option.TheVariants.{Some}
use native.Mathlib.Omega.{arith}
use borrow.Author.Tests.{lt-ltb, le-ltb, eq-eqb, ne_eqb}
use lib.Dec.{eqb}
use Rattle.io.specs.Digits.{hex_digit_ascii, last_digits}
use Rattle.text.specs.Order.{less}
use Rattle.text.specs.Number.{word}
use Rattle.text.specs.Page.{joined}
use Rattle.sender.specs.declared.PublicKey.{PublicKey}
use Rattle.sender.specs.declared.Group.TheVariants.{V4, V6}
use Rattle.sender.specs.declared.Unit.{Unit}
use Rattle.sender.specs.declared.Unit.TheVariants.{Corroborated, Group as Grouped, NoAddress, Overflow}
use Rattle.label.specs.Label.{label, key_label, v4_label, v6_label}
use Rattle.report_ranking.proofs.Ordering.{less_irreflexive, less_transitive, less_first}

less_prefix : (p x y : List ℕ) → less (p ++ x) (p ++ y) ≡ less x y
unfolding less
less_prefix [] x y = refl
less_prefix (a ∷ p) x y = simp (eq-eqb a a refl) (less_prefix p x y)

less_not : (t : Bool) (x y : List ℕ) → less x y ≡ t → less y x ≡ true → less x y ≡ false
less_not true x y e f = absurd (false≢true (sym (less_irreflexive x) ∙ less_transitive x y x e f))
less_not false x y e f = e

-- ---- digits
glyph_less : (d e : ℕ) → d < e → hex_digit_ascii d < hex_digit_ascii e
glyph_less d e h =
    elim (dec_lt e 10) [
      | yes p ↦ rw (lt-ltb d 10 (omega arith), lt-ltb e 10 p) (omega arith)
      | no p ↦ rw (le-ltb e 10 (omega arith)) (elim (dec_lt d 10) [ yes q ↦ rw (lt-ltb d 10 q) (omega arith) | no q ↦ rw (le-ltb d 10 (omega arith)) (omega arith) ])
    ]

digits_step : (k n : ℕ) (x : List ℕ) → last_digits 16 (suc k) n ++ x ≡ last_digits 16 k (n / 16) ++ (hex_digit_ascii (n % 16) ∷ x)
digits_step k n x = append_assoc (last_digits 16 k (n / 16)) (hex_digit_ascii (n % 16) ∷ []) x

below : (k n : ℕ) → n < 16 ^ suc k → n / 16 < 16 ^ k
below k n h = (div-lt_iff_lt-mul {k = 16} {x = n} {y = 16 ^ k} (omega arith)).1 (rw (pow-suc 16 k) at h)

pub digits_less : (k a b : ℕ) (x y : List ℕ) → a < b → b < 16 ^ k → less (last_digits 16 k a ++ x) (last_digits 16 k b ++ y) ≡ true
digits_less zero a b x y h r = absurd (omega (arith, rw (pow-zero 16) at r))
digits_less (suc k) a b x y h r =
    rw (digits_step k a x, digits_step k b y)
    (elim (dec_lt (a / 16) (b / 16)) [
      | yes p ↦ digits_less k (a / 16) (b / 16) (hex_digit_ascii (a % 16) ∷ x) (hex_digit_ascii (b % 16) ∷ y) p (below k b r)
      | no p ↦ tied (omega (arith, div-add-mod' a 16, div-add-mod' b 16, mod-lt a {m = 16} (omega arith), mod-lt b {m = 16} (omega arith)))
    ])
  where
    tied : a / 16 ≡ b / 16 → less (last_digits 16 k (a / 16) ++ (hex_digit_ascii (a % 16) ∷ x)) (last_digits 16 k (b / 16) ++ (hex_digit_ascii (b % 16) ∷ y)) ≡ true
    tied e =
        ap (λ (n : ℕ). less (last_digits 16 k n ++ (hex_digit_ascii (a % 16) ∷ x)) (last_digits 16 k (b / 16) ++ (hex_digit_ascii (b % 16) ∷ y))) e
        ∙ less_prefix (last_digits 16 k (b / 16)) (hex_digit_ascii (a % 16) ∷ x) (hex_digit_ascii (b % 16) ∷ y)
        ∙ less_first (hex_digit_ascii (a % 16)) (hex_digit_ascii (b % 16)) x y
        (glyph_less (a % 16) (b % 16) (omega (arith, e, div-add-mod' a 16, div-add-mod' b 16)))

-- ---- words
module _ (a b : ℕ) (x y : List ℕ) where
  pub word_same : a ≡ b → less x y ≡ less (word a ++ x) (word b ++ y)
  word_same e = sym (ap (λ (n : ℕ). less (word n ++ x) (word b ++ y)) e ∙ less_prefix (word b) x y)

  pub word_before : a < b → b < 18446744073709551616 → less (word a ++ x) (word b ++ y) ≡ true
  unfolding word
  word_before h r = digits_less 16 a b x y h r

pub word_behind : (a b : ℕ) (x y : List ℕ) → b < a → a < 18446744073709551616 → less (word a ++ x) (word b ++ y) ≡ false
word_behind a b x y h r = less_not (less (word a ++ x) (word b ++ y)) (word a ++ x) (word b ++ y) refl (word_before b a y x h r)

apart : (x y : ℕ) → (x ≡ y → ⊥) → (x < y → ⊥) → y < x
apart x y e f = elim (dec_lt y x) [ yes p ↦ p | no p ↦ absurd (elim (dec_lt x y) [ yes q ↦ f q | no q ↦ e (omega arith) ]) ]

-- ---- keys
-- one word more in front
word_then : (x y : ℕ) (o : Option Ordering) (xs ys : List ℕ) → x < 18446744073709551616 → y < 18446744073709551616
    → is_some_and is_lt o ≡ less xs ys → is_some_and is_lt (partial_ordering_then (Some (nat_cmp x y)) o) ≡ less (word x ++ xs) (word y ++ ys)
word_then x y o xs ys f g e = elim (dec_lt x y) [
  | yes p ↦ ap (λ (b : Bool). is_some_and is_lt (partial_ordering_then (Some (cond b Less (cond (eqb x y) Equal Greater))) o)) (lt-ltb x y p) ∙ sym (word_before x y xs ys p g)
  | no p ↦ ap (λ (b : Bool). is_some_and is_lt (partial_ordering_then (Some (cond b Less (cond (eqb x y) Equal Greater))) o)) (le-ltb x y (omega arith))
      ∙ elim (ℕ_discrete x y) [
        | yes q ↦ ap (λ (b : Bool). is_some_and is_lt (partial_ordering_then (Some (cond b Equal Greater)) o)) (eq-eqb x y q) ∙ e ∙ word_same x y xs ys q
        | no q ↦ ap (λ (b : Bool). is_some_and is_lt (partial_ordering_then (Some (cond b Equal Greater)) o)) (ne_eqb x y q) ∙ sym (word_behind x y xs ys (apart x y q p) f)
      ]
]

abbrev words : PublicKey → List ℕ
words k = k.a ∷ k.b ∷ k.c ∷ k.d ∷ []

pub keys_less : (k l : PublicKey) → k.a < 18446744073709551616 → k.b < 18446744073709551616 → k.c < 18446744073709551616 → k.d < 18446744073709551616
    → l.a < 18446744073709551616 → l.b < 18446744073709551616 → l.c < 18446744073709551616 → l.d < 18446744073709551616
    → is_some_and is_lt (slice_partial_cmp (λ (x y : ℕ). Some (nat_cmp x y)) (words k) (words l)) ≡ less (key_label k) (key_label l)
unfolding key_label joined less
keys_less k l a b c d e f g h = word_then k.a l.a _ _ _ a e (word_then k.b l.b _ _ _ b f (word_then k.c l.c _ _ _ c g (word_then k.d l.d (Some Equal) [] [] d h refl)))

-- a label that is not a key's
data Other : Unit → Type 0 where
  v4 : {n : ℕ} → Other (Grouped (V4 n))
  v6 : {n : ℕ} → Other (Grouped (V6 n))
  no_address : Other NoAddress
  overflow : Other Overflow

other : (u : Unit) → ((k : PublicKey) → u ≡ Corroborated k → ⊥) → Other u
other (Corroborated k) f = absurd (f k refl)
other (Grouped (V4 n)) f = v4
other (Grouped (V6 n)) f = v6
other NoAddress f = no_address
other Overflow f = overflow

key_before : (k : PublicKey) {u : Unit} → Other u → less (key_label k) (label u) ≡ true
unfolding key_label joined less label v4_label v6_label
key_before k v4 = refl
key_before k v6 = refl
key_before k no_address = refl
key_before k overflow = refl

key_behind : (k : PublicKey) {u : Unit} → Other u → less (label u) (key_label k) ≡ false
unfolding key_label joined less label v4_label v6_label
key_behind k v4 = refl
key_behind k v6 = refl
key_behind k no_address = refl
key_behind k overflow = refl

-- ---- units
pub both_keys : (u v : Unit) (k l : PublicKey) → u ≡ Corroborated k → v ≡ Corroborated l → less (key_label k) (key_label l) ≡ less (label u) (label v)
unfolding label
both_keys u v k l e f = rw (e, f) refl

pub first_key : (u v : Unit) (k : PublicKey) → u ≡ Corroborated k → ((l : PublicKey) → v ≡ Corroborated l → ⊥) → true ≡ less (label u) (label v)
unfolding label
first_key u v k e f = rw e (sym (key_before k (other v f)))

pub second_key : (u v : Unit) (l : PublicKey) → ((k : PublicKey) → u ≡ Corroborated k → ⊥) → v ≡ Corroborated l → false ≡ less (label u) (label v)
unfolding label
second_key u v l e f = rw f (sym (key_behind l (other u e)))

pub keys_same : (k l k' l' : PublicKey) → k ≡ k' → l ≡ l' → less (key_label k) (key_label l) ≡ less (key_label k') (key_label l')
keys_same k l k' l' e f = rw (e, f) refl

pub both_same : (u v u' v' : Unit) → u ≡ u' → v ≡ v' → less (label u) (label v) ≡ less (label u') (label v')
both_same u v u' v' e f = rw (e, f) refl

pub key_first : (k : PublicKey) → less (label (Corroborated k)) (label Overflow) ≡ true
unfolding label
key_first k = key_before k overflow

-- ---- tests
pub not_cond : (t : Bool) → not t ≡ cond t false true
not_cond true = refl
not_cond false = refl

pub false_cond : (t : Bool) → false ≡ cond t false false
false_cond true = refl
false_cond false = refl

pub same_cond : (t : Bool) (x b : ℕ) → x ≡ b → b ≡ cond t x b
same_cond true x b e = sym e
same_cond false x b e = refl
