-- Bounds carried along equations. Assumes nothing.
use mathlib.Core.Path.{◌≡◌}
use Prim.Native.Nat.{ℕ, ◌+◌, ◌≤◌, ◌<◌}
use native.Mathlib.Omega.{arith}

pub le_by : {a b c : ℕ} → a ≡ b → b ≤ c → a ≤ c
le_by e p = omega arith

pub lt_by : {a b c : ℕ} → a ≡ b → b < c → a < c
lt_by e p = omega arith

pub le_to : {a b c : ℕ} → a ≤ b → c ≡ b → a ≤ c
le_to e p = omega arith

-- among k more
pub le_within : {a b c : ℕ} (k : ℕ) → a ≤ b → c ≡ b + k → a ≤ c
le_within k e p = omega arith

-- the place of a counted source's tag, behind those of the unit records
pub sum_within : {r s c d k t u : ℕ} → s ≡ r → d ≡ c → c < k → t ≡ r + k → u ≡ t → s + d < u
sum_within e f h p q = omega arith
