-- What is proved of the series, of the doubles `nearest` and of the fade: statements only; proofs/Laws.antt proves each record. Assumes nothing.
use Rattle.std.specs.Prelude.{not, ℕ, ◌+◌, ◌*◌, ◌^◌, ◌≤◌, ◌<◌, T, Float}
use Rattle.std.specs.Float.{binary64}
use Rattle.std.specs.Float.Ieee.{fits, is_nan, lt}
use Rattle.std.specs.Float.Ieee.Positive.{num, den, positive}
use Rattle.fade.specs.Exp.{top, bot, cap, Late}
use Rattle.fade.specs.Fade.{nearest, long, end, fade}

-- ---- a double and the exponential. A positive double x is the fraction num x / den x.

-- exp(-p / q) is below a / b, and above a / b: so is an upper end, or a lower end, of an enclosure
abbrev pub Under : ℕ → ℕ → ℕ → ℕ → Type 0
Under p q a b = (n : ℕ) × (bot q n * b < a * top p q n)

abbrev pub Over : ℕ → ℕ → ℕ → ℕ → Type 0
Over p q a b = (n : ℕ) × Late p q n × (a * cap p q n < bot q n * b)

-- x is nearer to exp(-p / q) than any other positive double y: where y is above x the exponential lies below the middle of the two, and where y is below x above it.
-- (A double that is not positive is farther from the exponential than any positive y below x.)
pub record Nearest (p q : ℕ) (x : Float) : Type 0 where
  pub up : (y : Float) → T (fits binary64 y) → T (positive y) → num x * den y < num y * den x → Under p q (num x * den y + num y * den x) (den x * den y * 2)
  pub down : (y : Float) → T (fits binary64 y) → T (positive y) → num y * den x < num x * den y → Over p q (num x * den y + num y * den x) (den x * den y * 2)

-- z is within one part in h of exp(-p / q): z * e ^ (p / q) is at most 1 + 1 / h, whichever sum stands for e ^ (p / q),
-- and at least 1 - 1 / h already with one of the sums
pub record Close (h p q : ℕ) (z : Float) : Type 0 where
  pub above : (n : ℕ) → top p q n * num z * h ≤ bot q n * den z * h + bot q n * den z
  pub n : ℕ
  pub below : bot q n * den z * h ≤ top p q n * num z * h + bot q n * den z

-- how close the fade is: within one part in 2 ^ 51
abbrev pub parts : ℕ
parts = 2 ^ 51

-- 2 ^ -normal is the least positive double that is not subnormal: its significand has all 53 digits. What is positive and above it has them too
abbrev pub normal : ℕ
normal = 1022

abbrev pub NotSubnormal : Float → Type 0
NotSubnormal x = T (positive x) × (den x < num x * 2 ^ normal)

-- with each term more the width of a late enclosure falls to one part in 2, or below
abbrev pub narrowing : ℕ
narrowing = 2

-- ---- the laws

-- the sums enclose one number: each sum top / bot is at most each late cap / bot, and the width of a late enclosure, its last term, at least halves with each term more
pub record Series : Type 0 where
  pub encloses : (p q n m : ℕ) → 0 < q → Late p q n → top p q m * bot q n ≤ cap p q n * bot q m
  pub narrows : (p q n k : ℕ) → 0 < q → Late p q n → p ^ (n + k) * narrowing ^ k * bot q n ≤ p ^ n * bot q (n + k)

-- each double that the fade multiplies is the nearest, and none of them and no product is subnormal; the fade is within 2 ^ -51, relatively, of exp(-d / 2000),
-- and positive, up to the end; it falls strictly, also at the step to 0; and it is always a double and never a not-a-number
pub record Fading : Type 0 where
  pub short : (r : ℕ) → r < 2000 → Nearest r 2000 (nearest r 2000)
  pub far : (q : ℕ) → q < long → Nearest q 1 (nearest q 1)
  pub short_normal : (r : ℕ) → r < 2000 → NotSubnormal (nearest r 2000)
  pub far_normal : (q : ℕ) → q < long → NotSubnormal (nearest q 1)
  pub product_normal : (d : ℕ) → d < end → NotSubnormal (fade d)
  pub close : (d : ℕ) → d < end → Close parts d 2000 (fade d)
  pub above : (d : ℕ) → d < end → T (positive (fade d))
  pub falls : (d e : ℕ) → d < e → e ≤ end → T (lt (fade e) (fade d))
  pub double : (d : ℕ) → T (fits binary64 (fade d))
  pub number : (d : ℕ) → T (not (is_nan (fade d)))
