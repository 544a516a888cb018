-- What is taken off tokens and credit, and what a hand-back adds: laws on the definitions. Statements only; proofs/Laws.antt proves them.
-- They refuse a definition that never spends or that keeps back a part of a hand-back, whatever the code does.
use Rattle.std.specs.Prelude.{◌≡◌, ℕ, ◌+◌, ◌-◌, ◌*◌, ◌^◌, ◌<◌, ◌≤◌, List, length, Float}
use Rattle.ieee.specs.Doubles.{whole}
use Rattle.ieee.specs.Units.{power, units, Amount, Is, Within}
use Rattle.flow.specs.declared.Bucket.{Bucket}
use Rattle.flow.specs.declared.Use.{Use}
use Rattle.flow.specs.Flow.{dims, at, spent, charged, handed_back}

-- a whole cost n that tokens, or a credit, hold is taken off exactly, from amounts up to 2 ^ 46
pub record Takes : Type 0 where
  pub tokens : (b : Bucket) (n : ℕ) → Amount b.tokens → units b.tokens ≤ power 1120 → n * power 1074 ≤ units b.tokens → Is (spent b (whole n)).tokens (units b.tokens - n * power 1074)
  pub credit : (u : Use) (cost : List Float) (d n : ℕ) → length u.credit ≡ dims → d < dims → at cost d ≡ whole n → Amount (at u.credit d) → units (at u.credit d) ≤ power 1120 → n * power 1074 ≤ units (at u.credit d)
      → Is (at (charged u cost).credit d) (units (at u.credit d) - n * power 1074)

-- a hand-back of the cost n adds to each credit all of it, past the 4 times fill too: off by at most 2 ^ -11 for a credit up to 2 ^ 42
pub record Returns (u : Use) (cost : List Float) (d n : ℕ) : Type 0 where
  pub credit : Amount (at u.credit d) → units (at u.credit d) ≤ power 1116 → Within (at (handed_back u cost).credit d) (units (at u.credit d) + n * power 1074) (power 1063)

abbrev pub Gives : Type 0
Gives = (u : Use) (cost : List Float) → length u.credit ≡ dims → (d n : ℕ) → d < dims → n ≤ 2 ^ 40 → at cost d ≡ whole n → Returns u cost d n
