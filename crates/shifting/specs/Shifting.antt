-- Entries that go up for one that comes in, and down for those that leave. Definitions only.
use Rattle.std.specs.Prelude.{ℕ, zero, suc, ◌+◌, ◌-◌, List, [], ◌∷◌, ◌++◌, length, take, drop, replicate}

-- ys laid over xs from i on
unfoldable pub over : {A : Type 0} → List A → ℕ → List A → List A
over xs i ys = take i xs ++ ys ++ drop (i + length ys) xs

-- the places from a up to b
unfoldable pub part : {A : Type 0} → List A → ℕ → ℕ → List A
part xs a b = take (b - a) (drop a xs)

-- x comes in at p, and the entries from p to n go one place up, over what stood at n
unfoldable pub inserted : {A : Type 0} → List A → ℕ → ℕ → A → List A
inserted xs p n x = over xs p (x ∷ part xs p n)

-- the places from a up to b are z
unfoldable pub zeroed : {A : Type 0} → List A → ℕ → ℕ → A → List A
zeroed xs a b z = over xs a (replicate (b - a) z)

-- the entries from `to` to n go down to j, and the places that are then free are z
unfoldable pub closed : {A : Type 0} → List A → ℕ → ℕ → ℕ → A → List A
closed xs j to n z = over xs j (part xs to n ++ replicate (to - j) z)

-- the n numbers below n, the lowest last
unfoldable pub down : ℕ → List ℕ
down zero = []
down (suc n) = n ∷ down n
