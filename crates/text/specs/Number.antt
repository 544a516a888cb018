-- Numbers as text. Definitions only; `hex_digit_ascii` and `last_digits` (a fixed number of digits) are the library's.
use Rattle.std.specs.Prelude.{ℕ, zero, suc, ◌/◌, ◌%◌, cond, List, [], ◌∷◌, ◌++◌, ltb}
use Rattle.io.specs.Digits.{hex_digit_ascii, last_digits}

-- n in the base, most significant digit first and no zero in front; it has at most `most` digits
unfoldable pub numeral : ℕ → ℕ → ℕ → List ℕ
numeral base zero n = []
numeral base (suc most) n =
    cond (ltb n base) (hex_digit_ascii n ∷ []) (numeral base most (n / base) ++ (hex_digit_ascii (n % base) ∷ []))

-- a number of 64 bits has at most 20 decimal and 16 hexadecimal digits
unfoldable pub decimal : ℕ → List ℕ
decimal n = numeral 10 20 n

unfoldable pub hexadecimal : ℕ → List ℕ
hexadecimal n = numeral 16 16 n

-- all sixteen hexadecimal digits of a number of 64 bits
unfoldable pub word : ℕ → List ℕ
word n = last_digits 16 16 n
