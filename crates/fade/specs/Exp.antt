-- The exponential of a fraction p / q that is not negative, by whole numbers alone. Definitions only. Assumes nothing.
--
-- With x = p / q, e ^ x is the sum of all the terms x ^ k / k!. No term is negative, so each sum of the terms up to the n-th, top / bot, is at most e ^ x.
-- Each term is x / (k + 1) times the one before. From an n on with x / (n + 1) ≤ 1 / 2 (`Late`) each is at most half of the one before,
-- so all the terms after the n-th add up to at most the n-th itself, and the sum with its last term counted twice, cap / bot, is at least e ^ x.
-- Turned over, bot / cap ≤ exp(-p / q) ≤ bot / top. More terms narrow this enclosure, to as little as is asked for, around one number.
-- The crate fade_laws states what of this is used as laws on whole numbers (`Series`), and proves them.
use Rattle.std.specs.Prelude.{ℕ, zero, suc, ◌+◌, ◌*◌, ◌/◌, ◌^◌, ◌≤◌}

-- the sum of x ^ k / k! for k from 0 to n is the fraction top p q n / bot q n, with bot q n = q ^ n * n!
unfoldable pub bot : ℕ → ℕ → ℕ
bot q zero = 1
bot q (suc n) = bot q n * (q * suc n)

unfoldable pub top : ℕ → ℕ → ℕ → ℕ
top p q zero = 1
top p q (suc n) = top p q n * (q * suc n) + p ^ suc n

-- the same sum with its last term counted twice, over the same bot
unfoldable pub cap : ℕ → ℕ → ℕ → ℕ
unfolding top
cap p q n = top p q n + p ^ n

-- from here on each term is at most half of the one before
abbrev pub Late : ℕ → ℕ → ℕ → Type 0
Late p q n = p * 2 ≤ q * suc n

-- how many terms are taken: as many as make the sums late, and thirty
abbrev pub terms : ℕ → ℕ → ℕ
terms p q = p * 2 / q + 30
