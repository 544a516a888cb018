-- One source more looked at, and the place found as an Option. Assumes nothing.
use mathlib.Core.Path.{◌≡◌, refl, sym}
use mathlib.Core.Bool.{Bool, true, false, cond}
use mathlib.Core.List.{List}
use Prim.Native.Nat.{ℕ, zero, suc, ◌<◌, ◌≤◌}
use native.Mathlib.Omega.{arith}
use borrow.Author.Tests.{eq-eqb, ne_eqb}
use Rattle.std.specs.Prelude.{Option, Some, None}
use Rattle.std.specs.Option.{IfSome, unwrap_or}
use Rattle.store.specs.Found.{found}
use Rattle.store.proofs.Found.{some_found, none_found}
use Rattle.report_ranking.specs.Sources.{precedes, is_after, earlier, better, first_after}
use Rattle.report_ranking.specs.Taken.{better_taken}

pub after_none : (tags : List ℕ) (rows : List (List ℕ)) (n i : ℕ) → true ≡ is_after tags rows n n i
unfolding is_after
after_none tags rows n i = simp (eq-eqb n n refl)

pub after_some : (tags : List ℕ) (rows : List (List ℕ)) (n q i : ℕ) → q < n → precedes tags rows q i ≡ is_after tags rows n q i
unfolding is_after
after_some tags rows n q i h = simp (ne_eqb q n (λ e. omega arith))

module _ (by tags : List ℕ) (rows : List (List ℕ)) (n p b i : ℕ) where
  pub better_skip : is_after tags rows n p i ≡ false → b ≡ better_taken by tags rows n p b i
  unfolding better_taken
  better_skip e = simp e

  pub better_new : is_after tags rows n p i ≡ true → b < n → precedes by rows i b ≡ true → i ≡ better_taken by tags rows n p b i
  unfolding better_taken earlier
  better_new e h f = simp (e, ne_eqb b n (λ q. omega arith), f)

  pub better_old : b < n → precedes by rows i b ≡ false → b ≡ better_taken by tags rows n p b i
  unfolding better_taken earlier
  better_old h f = simp (ne_eqb b n (λ q. omega arith), f) (either (is_after tags rows n p i))
    where
      either : (t : Bool) → b ≡ cond t b b
      either true = refl
      either false = refl

pub better_none : (by tags : List ℕ) (rows : List (List ℕ)) (n p i : ℕ) → is_after tags rows n p i ≡ true → i ≡ better_taken by tags rows n p n i
unfolding better_taken earlier
better_none by tags rows n p i e = simp (e, eq-eqb n n refl)

-- a place below n, or none, is found where it is
pub found_again : (n : ℕ) (o : Option ℕ) → IfSome o (λ i. i < n) → o ≡ found n (unwrap_or o n)
found_again n None h = sym (none_found n n (omega arith))
found_again n (Some i) h = sym (some_found n i h)

-- the first is a place below n, or n
at_most : (s t u : Bool) (b m n : ℕ) → b ≤ n → m ≤ n → cond s (cond t m (cond u m b)) b ≤ n
at_most true true u b m n h g = g
at_most true false true b m n h g = g
at_most true false false b m n h g = h
at_most false t u b m n h g = h

pub first_after_bound : (tags : List ℕ) (rows : List (List ℕ)) (n p m : ℕ) → m ≤ n → first_after tags rows n p m ≤ n
unfolding first_after better earlier
first_after_bound tags rows n p zero h = omega arith
first_after_bound tags rows n p (suc m) h = at_most _ _ _ (first_after tags rows n p m) m n (first_after_bound tags rows n p m (omega arith)) (omega arith)
