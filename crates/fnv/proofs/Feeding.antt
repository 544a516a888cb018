-- Laws of `feed`: bytes fed in two parts, the hash is below 2^64, and `feed` and `big_endian` in the forms that code has.
use Rattle.std.proofs.Common.{◌≡◌, ℕ, zero, suc, ◌*◌, ◌/◌, ◌%◌, ◌^◌, ◌<◌, List, [], ◌∷◌, ◌++◌, refl, ap, div-one, mod-lt, lit<, pow_pos}
use Rattle.std.specs.List.{fold}
use Rattle.std.specs.Int.{bytes_high_first}
use lib.Bits.{bit_xor}
use Rattle.fnv.specs.Fnv.{fed, feed, fnv1a, big_endian, offset_basis, prime}

pub feed_append : (hash : ℕ) (xs ys : List ℕ) → feed hash (xs ++ ys) ≡ feed (feed hash xs) ys
unfolding feed
feed_append hash [] ys = refl
feed_append hash (x ∷ xs) ys = feed_append (fed hash x) xs ys

pub fed_below : (hash byte : ℕ) → fed hash byte < 2 ^ 64
unfolding fed
fed_below hash byte = mod-lt (bit_xor hash byte * prime) (pow_pos 64)

pub feed_below : (hash : ℕ) (bytes : List ℕ) → hash < 2 ^ 64 → feed hash bytes < 2 ^ 64
unfolding feed
feed_below hash [] h = h
feed_below hash (x ∷ xs) h = feed_below (fed hash x) xs (fed_below hash x)

pub fnv1a_below : (bytes : List ℕ) → fnv1a bytes < 2 ^ 64
unfolding fnv1a
fnv1a_below bytes = feed_below offset_basis bytes (lit< tt)

-- ---- in the forms that code has

pub feed_is_fold : (hash : ℕ) (bytes : List ℕ) → feed hash bytes ≡ fold (λ hash byte. fed hash byte) hash bytes
unfolding feed
feed_is_fold hash [] = refl
feed_is_fold hash (x ∷ xs) = feed_is_fold (fed hash x) xs

pub big_endian_is : (n word : ℕ) → big_endian n word ≡ bytes_high_first n word
unfolding big_endian
big_endian_is zero word = refl
big_endian_is (suc zero) word = rw div-one refl
big_endian_is (suc (suc n)) word = ap (λ (bytes : List ℕ). word / 256 ^ suc n % 256 ∷ bytes) (big_endian_is (suc n) word)
