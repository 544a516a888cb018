-- The table of a hash is its six highest bits; it is the table of the hash's tag.
use mathlib.Core.Path.{◌≡◌, ap, ◌∙◌}
use Prim.Native.Nat.{ℕ, ◌+◌, ◌*◌, ◌/◌, ◌%◌, ◌^◌, ◌<◌}
use native.Mathlib.Omega.{arith}
use native.Mathlib.Nat.{mul_comm, div-div-eq-div-mul, mul-div-mul_right}
use lib.Dec.{lit<}
use Rattle.sender.specs.Sender.{table_of_hash, tag_of_hash, table_of_tag}

pub table_is : (hash : ℕ) → table_of_hash hash ≡ hash / 2 ^ 58
unfolding table_of_hash
table_is hash =
    ap (λ (n : ℕ). n / 2 ^ 53) (mul_comm 64 (hash / 2 ^ 11))
    ∙ mul-div-mul_right (hash / 2 ^ 11) (2 ^ 47) (lit< tt)
    ∙ div-div-eq-div-mul hash (2 ^ 11) (2 ^ 47)

tenfold : (t r : ℕ) → r < 1024 → (1024 * t + r) / 1024 ≡ t
tenfold t r h = omega arith

pub tag_table : (hash : ℕ) → table_of_tag (tag_of_hash hash) ≡ table_of_hash hash
unfolding tag_of_hash table_of_tag
tag_table hash = tenfold (table_of_hash hash) (hash % 1024) (omega arith)
