-- The label of a unit: the bytes that `Unit::label` of the Rust prints, but for a V6 group, whose prefix is printed by RFC 5952. Definitions only.
use Rattle.std.specs.Prelude.{ℕ, ◌/◌, ◌%◌, List, [], ◌∷◌}
use Rattle.text.specs.Page.{joined}
use Rattle.text.specs.Number.{decimal, word}
use Rattle.label.specs.Rfc5952.{address}
use Rattle.sender.specs.declared.PublicKey.{PublicKey}
use Rattle.sender.specs.declared.Group.TheVariants.{V4, V6}
use Rattle.sender.specs.declared.Unit.{Unit}
use Rattle.sender.specs.declared.Unit.TheVariants.{Corroborated, Group as Grouped, NoAddress, Overflow}

-- `key:` and 64 hexadecimal digits, byte 0 of the key first
unfoldable pub key_label : PublicKey → List ℕ
key_label k = joined ((107 ∷ 101 ∷ 121 ∷ 58 ∷ []) ∷ word k.a ∷ word k.b ∷ word k.c ∷ word k.d ∷ [])

-- `v4:`, the two bytes in decimal with `.` between, `.0.0/16`
unfoldable pub v4_label : ℕ → List ℕ
v4_label prefix =
    joined
    ((118 ∷ 52 ∷ 58 ∷ []) ∷ decimal (prefix / 256) ∷ (46 ∷ []) ∷ decimal (prefix % 256)
    ∷ (46 ∷ 48 ∷ 46 ∷ 48 ∷ 47 ∷ 49 ∷ 54 ∷ []) ∷ [])

-- the eight fields of the address of a /32 prefix: two are given, six are zero
unfoldable pub prefix_fields : ℕ → List ℕ
prefix_fields prefix = prefix / 65536 ∷ prefix % 65536 ∷ 0 ∷ 0 ∷ 0 ∷ 0 ∷ 0 ∷ 0 ∷ []

-- `v6:`, the prefix as an address (RFC 5952, section 7: a prefix is written as an address is), `/32`
unfoldable pub v6_label : ℕ → List ℕ
v6_label prefix = joined ((118 ∷ 54 ∷ 58 ∷ []) ∷ address (prefix_fields prefix) ∷ (47 ∷ 51 ∷ 50 ∷ []) ∷ [])

-- `no_address`
abbrev pub no_address : List ℕ
no_address = 110 ∷ 111 ∷ 45 ∷ 97 ∷ 100 ∷ 100 ∷ 114 ∷ 101 ∷ 115 ∷ 115 ∷ []

-- `overflow`
abbrev pub overflow : List ℕ
overflow = 111 ∷ 118 ∷ 101 ∷ 114 ∷ 102 ∷ 108 ∷ 111 ∷ 119 ∷ []

unfoldable pub label : Unit → List ℕ
label (Corroborated key) = key_label key
label (Grouped (V4 prefix)) = v4_label prefix
label (Grouped (V6 prefix)) = v6_label prefix
label NoAddress = no_address
label Overflow = overflow
