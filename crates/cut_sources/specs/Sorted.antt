-- Numbers in ascending order, and how many are below one. Definitions only.
use Rattle.std.specs.Prelude.{ℕ, ◌+◌, max, Bool, true, false, cond, List, [], ◌∷◌, nat_le, nat_lt}

-- x put before the first number that is not below it
unfoldable pub insert : ℕ → List ℕ → List ℕ
insert x [] = x ∷ []
insert x (y ∷ ys) = cond (nat_le x y) (x ∷ y ∷ ys) (y ∷ insert x ys)

-- the same numbers, ascending
unfoldable pub sorted : List ℕ → List ℕ
sorted [] = []
sorted (x ∷ xs) = insert x (sorted xs)

abbrev pub one_if : ℕ → Bool → ℕ
one_if n true = n + 1
one_if n false = n

-- how many are below x
unfoldable pub below : ℕ → List ℕ → ℕ
below x [] = 0
below x (y ∷ ys) = one_if (below x ys) (nat_lt y x)

-- the highest, of none 0
unfoldable pub highest : List ℕ → ℕ
highest [] = 0
highest (x ∷ xs) = max (highest xs) x
