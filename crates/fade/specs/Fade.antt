-- The fade as a function of the milliseconds d: the product of two doubles, each the one nearest its exponential, made from the exponential's series.
-- Definitions only. Assumes nothing.
use Rattle.std.specs.Prelude.{false, cond, ℕ, ◌*◌, ◌/◌, ◌%◌, pos, ltb, Float}
use Rattle.std.specs.Float.{fin, binary64}
use Rattle.std.specs.Float.Ieee.{round, mul}
use Rattle.fade.specs.Exp.{bot, cap, terms}

-- The double nearest exp(-p / q): the lower end of an enclosure, rounded to the nearest double.
-- At each p / q that the fade uses the upper end rounds to the same double, and no other double is nearer (`Nearest` of the crate fade_laws).
unfoldable pub nearest : ℕ → ℕ → Float
unfolding bot cap round
nearest p q = round binary64 false (bot q (terms p q)) (cap p q (terms p q))

-- the span of stamps that a rate is measured over, in milliseconds: a sum fades to 1 / e in it
abbrev pub WINDOW_MS : ℕ
WINDOW_MS = 2000

-- how many windows the fade goes back: the entries of the table B
abbrev pub long : ℕ
long = 700

-- from these milliseconds on the fade is 0
abbrev pub end : ℕ
end = WINDOW_MS * long

-- with w the window: exp(-d / w) is exp(-(d mod w) / w) times exp(-(d / w)), whole division; the product of their nearest doubles is rounded once
unfoldable pub fade : ℕ → Float
unfolding nearest mul
fade d = cond (ltb d end) (mul binary64 (nearest (d % WINDOW_MS) WINDOW_MS) (nearest (d / WINDOW_MS) 1)) (fin false 0 (pos 0))
