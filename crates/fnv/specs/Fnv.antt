-- FNV-1a with 64 bits, from RFC 9923: each byte of the string goes into the hash by an exclusive or, and then the hash is
-- multiplied by the prime, modulo 2^64. Definitions only.
use Rattle.std.specs.Prelude.{◌≡◌, ℕ, zero, suc, ◌*◌, ◌/◌, ◌%◌, ◌^◌, List, [], ◌∷◌, bit_xor}

-- the hash of the empty string
abbrev pub offset_basis : ℕ
offset_basis = 0xcbf2_9ce4_8422_2325

-- 2^40 + 0x1b3
abbrev pub prime : ℕ
prime = 0x0000_0100_0000_01b3

-- the hash after one more byte
unfoldable pub fed : ℕ → ℕ → ℕ
fed hash byte = bit_xor hash byte * prime % 2 ^ 64

-- the hash after more bytes, the first of the list first
unfoldable pub feed : ℕ → List ℕ → ℕ
feed hash [] = hash
feed hash (byte ∷ bytes) = feed (fed hash byte) bytes

unfoldable pub fnv1a : List ℕ → ℕ
fnv1a bytes = feed offset_basis bytes

-- the `n` low bytes of a number, the most significant first
unfoldable pub big_endian : ℕ → ℕ → List ℕ
big_endian zero word = []
big_endian (suc n) word = word / 256 ^ n % 256 ∷ big_endian n word

-- ---- where RFC 9923 has the offset basis from: the FNV-0 hash, which begins at 0 and multiplies first, of a text
unfoldable pub fnv0 : ℕ → List ℕ → ℕ
fnv0 hash [] = hash
fnv0 hash (byte ∷ bytes) = fnv0 (bit_xor (hash * prime % 2 ^ 64) byte) bytes

-- `chongo <Landon Curt Noll> /\../\`
abbrev pub basis_text : List ℕ
basis_text = 99 ∷ 104 ∷ 111 ∷ 110 ∷ 103 ∷ 111 ∷ 32 ∷ 60 ∷ 76 ∷ 97 ∷ 110 ∷ 100 ∷ 111 ∷ 110 ∷ 32 ∷ 67 ∷ 117 ∷ 114 ∷ 116 ∷ 32 ∷ 78 ∷ 111 ∷ 108 ∷ 108 ∷ 62 ∷ 32 ∷ 47 ∷ 92 ∷ 46 ∷ 46 ∷ 47 ∷ 92 ∷ []

abbrev pub Basis : Type 0
Basis = fnv0 0 basis_text ≡ offset_basis
