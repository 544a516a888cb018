-- The hash of each unit, as the code feeds it, and that it is below 2^64.
use mathlib.Core.Path.{◌≡◌, refl}
use Prim.Native.Nat.{ℕ, ◌^◌, ◌<◌}
use Rattle.fnv.specs.Fnv.{fed, feed, fnv1a, big_endian, offset_basis}
use Rattle.fnv.proofs.Feeding.{feed_append, fnv1a_below}
use Rattle.sender.specs.Sender.{as_u64, key_bytes, bytes_of, hash_of}
use Rattle.sender.specs.declared.PublicKey.{PublicKey}
use Rattle.sender.specs.declared.Group as group
use Rattle.sender.specs.declared.Unit as unit
use Rattle.sender.specs.declared.Unit.TheVariants.{Corroborated, Group as Grouped, NoAddress, Overflow}

pub hash_below : (u : unit.Unit) → hash_of u < 2 ^ 64
unfolding hash_of
hash_below u = fnv1a_below (bytes_of u)

-- four words, one after the other
pub feed_key : (hash : ℕ) (k : PublicKey)
    → feed hash (key_bytes k) ≡ feed (feed (feed (feed hash (big_endian 8 k.a)) (big_endian 8 k.b)) (big_endian 8 k.c)) (big_endian 8 k.d)
unfolding key_bytes
feed_key hash k = simp feed_append

-- ---- the hash of each unit, as the code feeds it

pub hash_key : (k : PublicKey) → hash_of (Corroborated k) ≡ feed (fed offset_basis 0) (key_bytes k)
unfolding hash_of fnv1a bytes_of feed
hash_key k = refl

pub hash_group : (g : group.Group) → hash_of (Grouped g) ≡ feed (fed offset_basis 1) (big_endian 8 (as_u64 g))
unfolding hash_of fnv1a bytes_of feed
hash_group g = refl

pub hash_none : hash_of NoAddress ≡ fed offset_basis 2
unfolding hash_of fnv1a bytes_of feed
hash_none = refl

pub hash_overflow : hash_of Overflow ≡ fed offset_basis 3
unfolding hash_of fnv1a bytes_of feed
hash_overflow = refl
