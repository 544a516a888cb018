-- What a test that was answered yes shows, and the other way. Assumes nothing.
use mathlib.Core.Path.{◌≡◌, refl, sym}
use mathlib.Core.Bool.{Bool, true, false, ◌&&◌, ◌||◌, cond, true≢false}
use mathlib.Core.Logic.{◌⊎◌, inl, inr}
use Prim.Native.Nat.{ℕ, suc}
use native.Mathlib.Omega.{arith}

-- ---- what a test shows
pub zero_yes : (b : Bool) (x n : ℕ) → cond b x (suc n) ≡ 0 → (b ≡ true) × (x ≡ 0)
zero_yes true x n e = (refl, e)
zero_yes false x n e = absurd (omega arith)

pub no_yes : (b x : Bool) → cond b false x ≡ true → (b ≡ false) × (x ≡ true)
no_yes true x e = absurd (true≢false (sym e))
no_yes false x e = (refl, e)

pub one_of : (b x : Bool) → b || x ≡ true → (b ≡ true) ⊎ (x ≡ true)
one_of true x e = inl refl
one_of false x e = inr e

-- ---- the other way
pub both : (a b : Bool) → a ≡ true → b ≡ true → a && b ≡ true
both true b e f = f
both false b e f = e

pub no_then : (b x : Bool) → b ≡ false → x ≡ true → cond b false x ≡ true
no_then true x e f = sym e
no_then false x e f = f

pub first_yes : (b x : Bool) → b ≡ true → b || x ≡ true
first_yes true x e = refl
first_yes false x e = absurd (true≢false (sym e))

pub second_yes : (b x : Bool) → x ≡ true → b || x ≡ true
second_yes true x e = refl
second_yes false x e = e
