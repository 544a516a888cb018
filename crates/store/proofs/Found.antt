-- A place found, or none. Assumes nothing.
use mathlib.Core.Path.{◌≡◌, sym, ap, ◌∙◌}
use mathlib.Core.Bool.{false≢true}
use native.Mathlib.Decide.{dec_lt}
use native.Mathlib.Omega.{arith}
use Prim.Native.Nat.{ℕ, ◌<◌, ◌≤◌}
use borrow.Author.Tests.{lt-ltb, le-ltb}
use Rattle.std.specs.Prelude.{Option, Some, None}
use Rattle.std.specs.Option.{unwrap_or, is_some}
use Rattle.store.specs.Found.{found}

pub some_found : (n i : ℕ) → i < n → found n i ≡ Some i
unfolding found
some_found n i h = simp (lt-ltb i n h)

pub none_found : (n i : ℕ) → n ≤ i → found n i ≡ None
unfolding found
none_found n i h = simp (le-ltb i n h)

-- which place it is then
pub found_some : (n i j : ℕ) → found n i ≡ Some j → (i ≡ j) × (i < n)
found_some n i j e = elim (dec_lt i n) [
  | yes h ↦ (ap (λ (o : Option ℕ). unwrap_or o 0) (sym (some_found n i h) ∙ e), h)
  | no h ↦ absurd (false≢true (ap is_some (sym (none_found n i (omega arith)) ∙ e)))
]

pub found_none : (n i : ℕ) → found n i ≡ None → n ≤ i
found_none n i e = elim (dec_lt i n) [
  | yes h ↦ absurd (false≢true (sym (ap is_some (sym (some_found n i h) ∙ e))))
  | no h ↦ omega arith
]
