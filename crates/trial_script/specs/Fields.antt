-- The fields of a line, which are its parts between single spaces, and the numbers in them. Definitions only.
use Rattle.std.specs.Prelude.{ℕ, zero, suc, ◌+◌, ◌-◌, ◌*◌, ◌^◌, Bool, cond, ◌&&◌, List, [], ◌∷◌, eqb, ltb, take, drop}
use Rattle.text.specs.Number.{decimal}
use Rattle.text.specs.Order.{same}

-- how many bytes stand before the first space
unfoldable pub width : List ℕ → ℕ
width [] = 0
width (x ∷ xs) = cond (eqb x 32) 0 (suc (width xs))

-- the first field, and what stands behind the space after it; nothing where there is no space
unfoldable pub first : List ℕ → List ℕ
first s = take (width s) s

unfoldable pub rest : List ℕ → List ℕ
rest s = drop (suc (width s)) s

-- a number and one byte more, read as a digit without asking whether it is one; it stays where it would reach 2^64
unfoldable pub grown : ℕ → ℕ → ℕ
grown n x = cond (ltb (n * 10 + (x - 48)) (2 ^ 64)) (n * 10 + (x - 48)) n

unfoldable pub read : ℕ → List ℕ → ℕ
read n [] = n
read n (x ∷ xs) = read (grown n x) xs

unfoldable pub number_in : List ℕ → ℕ
number_in s = read 0 s

-- a number is the decimal of what is read in it: so a zero in front, a sign or any other byte is refused
unfoldable pub is_number : List ℕ → Bool
is_number s = same (decimal (number_in s)) s

-- whether s is a number and `more` numbers behind it, each after one space
unfoldable pub are_numbers : ℕ → List ℕ → Bool
are_numbers zero s = is_number s
are_numbers (suc more) s = is_number (first s) && are_numbers more (rest s)

-- the number in the field of index k
unfoldable pub number_at : ℕ → List ℕ → ℕ
number_at zero s = number_in (first s)
number_at (suc k) s = number_at k (rest s)

-- the numbers in the first n fields
unfoldable pub numbers : ℕ → List ℕ → List ℕ
numbers zero s = []
numbers (suc n) s = number_in (first s) ∷ numbers n (rest s)
