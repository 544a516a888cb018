-- A unit's bytes, hash, rank and table, and its words in memory. Definitions only.
use Rattle.std.specs.Prelude.{ℕ, ◌+◌, ◌*◌, ◌/◌, ◌%◌, ◌^◌, ◌<◌, min, ◌≡◌, Bool, true, false, cond, ◌&&◌, List, [], ◌∷◌, ◌++◌, eqb, ltb, Float}
use Rattle.std.specs.Float.{binary64}
use Rattle.std.specs.Float.Ieee.{of_bits, to_unsigned}
use Rattle.ieee.specs.Doubles.{◌⊗◌, ◌⊘◌, whole}
use Rattle.fnv.specs.Fnv.{fnv1a, big_endian}
use Rattle.sender.specs.declared.PublicKey.{PublicKey}
use Rattle.sender.specs.declared.Group.{Group}
use Rattle.sender.specs.declared.Group.TheVariants.{V4, V6}
use Rattle.sender.specs.declared.Unit as unit
use Rattle.sender.specs.declared.Unit.TheVariants.{Corroborated, Group as Grouped, NoAddress, Overflow}
use Rattle.sender.specs.declared.Words.{Words}
use Rattle.sender.specs.declared.Name.{Name}

-- the test `r` is true exactly when P holds
pub record Tells (r : Bool) (P : Type 0) : Type 0 where
  pub shows : r ≡ true → P
  pub shown : P → r ≡ true

-- ---- the hash

-- a group as one number
unfoldable pub as_u64 : Group → ℕ
as_u64 (V4 prefix) = 2 ^ 32 + prefix
as_u64 (V6 prefix) = 2 ^ 33 + prefix

-- the 32 bytes of a key
unfoldable pub key_bytes : PublicKey → List ℕ
key_bytes k = big_endian 8 k.a ++ big_endian 8 k.b ++ big_endian 8 k.c ++ big_endian 8 k.d

-- the bytes that are hashed
unfoldable pub bytes_of : unit.Unit → List ℕ
bytes_of (Corroborated k) = 0 ∷ key_bytes k
bytes_of (Grouped g) = 1 ∷ big_endian 8 (as_u64 g)
bytes_of NoAddress = 2 ∷ []
bytes_of Overflow = 3 ∷ []

unfoldable pub hash_of : unit.Unit → ℕ
hash_of u = fnv1a (bytes_of u)

-- ---- rank and table

-- tables that the tracked units are split into
abbrev pub «TABLES» : ℕ
«TABLES» = 64

-- 2^53: the steps of the rank, what a double tells apart below 1
abbrev pub RANK_STEPS : Float
RANK_STEPS = of_bits binary64 0x4340_0000_0000_0000

-- (hash >> 11) / 2^53, a double
unfoldable pub rank_of_hash : ℕ → Float
rank_of_hash hash = whole (hash / 2 ^ 11) ⊘ RANK_STEPS

-- the whole part of TABLES × rank
unfoldable pub table_of_hash : ℕ → ℕ
table_of_hash hash = «TABLES» * (hash / 2 ^ 11) / 2 ^ 53

-- ---- the tag: what a record keeps of the hash, in 16 bits: the table, and the ten lowest bits, in which most hashes of one
-- table differ
unfoldable pub tag_of_hash : ℕ → ℕ
tag_of_hash hash = 1024 * table_of_hash hash + hash % 1024

unfoldable pub table_of_tag : ℕ → ℕ
table_of_tag tag = tag / 1024

-- the table as the Rust takes it from the rank: the double product with 64.0 (0x4050_0000_0000_0000), cut to its whole part,
-- and at most 63. `rust_table_is` shows that this is the same table
unfoldable pub rust_table : Float → ℕ
rust_table r = min (to_unsigned 64 (r ⊗ of_bits binary64 0x4050_0000_0000_0000)) 63

abbrev pub rank : unit.Unit → Float
rank u = rank_of_hash (hash_of u)

abbrev pub table_of : unit.Unit → ℕ
table_of u = table_of_hash (hash_of u)

-- ---- words of memory

-- the words of a kind that has one number, or none
abbrev pub number : ℕ → ℕ → Words
number kind a = record { kind = kind; a = a; b = 0; c = 0; d = 0 }

unfoldable pub words_of : unit.Unit → Words
words_of (Corroborated k) = record { kind = 0; a = k.a; b = k.b; c = k.c; d = k.d }
words_of (Grouped (V4 prefix)) = number 1 prefix
words_of (Grouped (V6 prefix)) = number 2 prefix
words_of NoAddress = number 3 0
words_of Overflow = number 4 0

-- a group's prefix has 16 or 32 bits; `Unit {0}` is what always holds
unfoldable pub Ranged : unit.Unit → Type 0
Ranged (Corroborated k) = Unit {0}
Ranged (Grouped (V4 prefix)) = prefix < 65536
Ranged (Grouped (V6 prefix)) = prefix < 4294967296
Ranged NoAddress = Unit {0}
Ranged Overflow = Unit {0}

-- any other kind, and a number too large for its group, is overflow
unfoldable pub unit_of : Words → unit.Unit
unit_of w =
    cond (eqb w.kind 0) (Corroborated (record { a = w.a; b = w.b; c = w.c; d = w.d }))
    (cond (eqb w.kind 1) (cond (ltb w.a 65536) (Grouped (V4 w.a)) Overflow)
    (cond (eqb w.kind 2) (cond (ltb w.a 4294967296) (Grouped (V6 w.a)) Overflow)
    (cond (eqb w.kind 3) NoAddress Overflow)))

unfoldable pub name_by_hash : unit.Unit → ℕ → Name
name_by_hash u hash = record { tag = tag_of_hash hash; words = words_of u }

abbrev pub name_of : unit.Unit → Name
name_of u = name_by_hash u (hash_of u)

-- ---- what a record reads as
-- raw words are compared
unfoldable pub same : Words → Words → Bool
same v w = eqb v.kind w.kind && eqb v.a w.a && eqb v.b w.b && eqb v.c w.c && eqb v.d w.d

unfoldable pub same_name : Name → Name → Bool
same_name m n = eqb m.tag n.tag && same m.words n.words

-- WHAT A RECORD READS AS: the unit whose record has exactly this tag and these words, else overflow. Memory that the caller filled may hold any bits
unfoldable pub reads : Name → unit.Unit
reads n = cond (same_name (name_of (unit_of n.words)) n) (unit_of n.words) Overflow

unfoldable pub is_overflow : unit.Unit → Bool
is_overflow (Corroborated k) = false
is_overflow (Grouped g) = false
is_overflow NoAddress = false
is_overflow Overflow = true
