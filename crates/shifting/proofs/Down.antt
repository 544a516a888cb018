-- The numbers counted down, turn by turn. Assumes nothing.
use mathlib.Core.Path.{◌≡◌, refl, sym, ap, ◌∙◌}
use mathlib.Core.List.{List, ◌++◌, append-nil}
use Prim.Native.Nat.{ℕ, zero, suc, ◌+◌, ◌-◌, ◌<◌}
use native.Mathlib.Omega.{arith}
use lib.ListN.{length, get_or, set, take, drop}
use lib.Seq.{drop-length, paste, paste-zero, take_all}
use Rattle.shifting.specs.Shifting.{down}
use Rattle.shifting.proofs.Laying.{paste_next}

pub down_at : (n k : ℕ) → k < n → get_or (down n) k 0 ≡ n - 1 - k
unfolding down
down_at zero k h = absurd (omega arith)
down_at (suc n) zero h = omega arith
down_at (suc n) (suc k) h = down_at n k (omega arith) ∙ omega arith

pub down_long : (n : ℕ) → length (down n) ≡ n
unfolding down
down_long zero = refl
down_long (suc n) = ap suc (down_long n)

-- the slice after k turns
unfoldable pub filling : List ℕ → ℕ → List ℕ
filling xs k = paste xs 0 (down (length xs)) k

pub fill_none : (xs : List ℕ) → xs ≡ filling xs 0
unfolding filling
fill_none xs = paste-zero xs 0 (down (length xs))

pub fill_turn : (xs : List ℕ) (k v : ℕ) → k < length xs → v ≡ length xs - 1 - k → set (filling xs k) k v ≡ filling xs (k + 1)
unfolding filling
fill_turn xs k v h e =
    let z : k ≡ 0 + k = omega arith in
    ap (λ (i : ℕ). set (paste xs 0 (down (length xs)) k) i v) z ∙ ap (set (paste xs 0 (down (length xs)) k) (0 + k)) (e ∙ sym (down_at (length xs) k h))
    ∙ paste_next 0 xs 0 (down (length xs)) k (omega arith) (omega (arith, down_long (length xs)))

pub fill_done : (xs : List ℕ) (k : ℕ) → k ≡ length xs → filling xs k ≡ down (length xs)
unfolding filling
fill_done xs k e =
    let z : 0 + k ≡ length xs = omega arith in
    ap (λ (i : ℕ). take k (down (length xs)) ++ drop i xs) z ∙ ap (λ (r : List ℕ). take k (down (length xs)) ++ r) (drop-length xs) ∙ append-nil (take k (down (length xs)))
    ∙ take_all k (down (length xs)) (omega (arith, down_long (length xs)))
