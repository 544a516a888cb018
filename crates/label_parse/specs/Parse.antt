-- A label read back. Definitions only. The fields are read without asking for their form, and the unit so read is taken
-- only if its label is the text: so exactly the labels are taken.
use Rattle.std.specs.Prelude.{ℕ, zero, suc, ◌+◌, ◌-◌, ◌*◌, ◌%◌, ◌^◌, ◌<◌, ◌≡◌, Bool, cond, List, Option, Some, None, eqb, ltb, get_or}
use Rattle.text.specs.Order.{same}
use Rattle.label.specs.Label.{label}
use Rattle.sender.specs.declared.PublicKey.{PublicKey}
use Rattle.sender.specs.declared.Group.TheVariants.{V4, V6}
use Rattle.sender.specs.declared.Unit as unit
use Rattle.sender.specs.declared.Unit.TheVariants.{Corroborated, Group as Grouped, NoAddress, Overflow}
use Rattle.label_parse.specs.declared.Field.{Field}

-- the value of a digit, `0` to `9` and `a` to `f`; 16 of any other byte
unfoldable pub digit : ℕ → ℕ
digit x =
    cond (ltb x 48) 16
    (cond (ltb x 58) (x - 48)
    (cond (ltb x 97) 16
    (cond (ltb x 103) (x - 87) 16)))

-- the number that at most `most` digits from the place `at` on add to `value`, and the place behind them
unfoldable pub field : ℕ → ℕ → List ℕ → Field → Field
field base zero s f = f
field base (suc most) s f =
    cond (ltb (digit (get_or s f.at 0)) base)
    (field base most s (record { value = f.value * base + digit (get_or s f.at 0); at = f.at + 1 }))
    f

abbrev pub from : ℕ → Field
from at = record { value = 0; at = at }

-- sixteen hexadecimal digits
unfoldable pub word_at : List ℕ → ℕ → ℕ
word_at s at = (field 16 16 s (from at)).value

unfoldable pub key_of : List ℕ → PublicKey
key_of s = record { a = word_at s 4; b = word_at s 20; c = word_at s 36; d = word_at s 52 }

-- two fields of at most `most` digits from place 3 on, with one byte between
unfoldable pub first_of : ℕ → ℕ → List ℕ → Field
first_of base most s = field base most s (from 3)

unfoldable pub second-of : ℕ → ℕ → List ℕ → Field
second-of base most s = field base most s (from ((first_of base most s).at + 1))

unfoldable pub v4_of : List ℕ → ℕ
v4_of s = (first_of 10 3 s).value % 256 * 256 + (second-of 10 3 s).value % 256

unfoldable pub v6_of : List ℕ → ℕ
v6_of s = (first_of 16 4 s).value * 65536 + (second-of 16 4 s).value

-- the unit as its fields read: by the first byte, `k`, `v`, `n` or another, and of `v` by the second
unfoldable pub unit_in : List ℕ → unit.Unit
unit_in s =
    cond (eqb (get_or s 0 0) 107) (Corroborated (key_of s))
    (cond (eqb (get_or s 0 0) 118) (cond (eqb (get_or s 1 0) 52) (Grouped (V4 (v4_of s))) (Grouped (V6 (v6_of s))))
    (cond (eqb (get_or s 0 0) 110) NoAddress Overflow))

-- whether s is a label
unfoldable pub is_label : List ℕ → Bool
is_label s = same (label (unit_in s)) s

unfoldable pub parse : List ℕ → Option unit.Unit
parse s = cond (is_label s) (Some (unit_in s)) None

-- the numbers of a unit are of their types
pub record KeyFits (k : PublicKey) : Type 0 where
  pub a_fits : k.a < 2 ^ 64
  pub b_fits : k.b < 2 ^ 64
  pub c_fits : k.c < 2 ^ 64
  pub d_fits : k.d < 2 ^ 64

abbrev pub InRange : unit.Unit → Type 0
InRange (Corroborated k) = KeyFits k
InRange (Grouped (V4 prefix)) = prefix < 65536
InRange (Grouped (V6 prefix)) = prefix < 4294967296
InRange NoAddress = Unit {0}
InRange Overflow = Unit {0}

-- r says exactly what s is: the unit whose label it is, where there is one
pub record Exact (s : List ℕ) (r : Option unit.Unit) : Type 0 where
  pub taken : (u : unit.Unit) → r ≡ Some u → label u ≡ s
  pub every : (u : unit.Unit) → InRange u → label u ≡ s → r ≡ Some u
