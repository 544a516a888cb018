-- Three texts put one after the other at the front of a buffer. Assumes nothing.
use mathlib.Core.Path.{◌≡◌, ap, ◌∙◌}
use mathlib.Core.List.{List, [], ◌∷◌}
use Prim.Native.Nat.{ℕ, ◌+◌, ◌≤◌}
use native.Mathlib.Omega.{arith}
use lib.ListN.{length, take, length-append}
use Rattle.io.specs.Counts.{IsPrefixLen}
use Rattle.text.specs.Page.{Page, page, write, writes, joined}
use Rattle.text.proofs.Writing.{writes_joined, front}

module _ (a b c : List ℕ) where
  abbrev three : List (List ℕ)
  three = a ∷ b ∷ c ∷ []

  three_length : length (joined three) ≡ length a + (length b + length c)
  unfolding joined
  three_length = simp length-append (omega arith)

  -- written one after the other from the front of a buffer with room for them, they are its front part
  pub three_front : (out : List ℕ) {p1 p2 : Page} (after : List ℕ) (r : ℕ) → length a + (length b + length c) ≤ length out
      → p1 ≡ write (page out 0) a → p2 ≡ write p1 b → page after r ≡ write p2 c
      → IsPrefixLen r after × (take r after ≡ joined three)
  unfolding writes
  three_front out after r room e1 e2 e3 =
      front out (joined three) after r (omega (arith, three_length))
      (e3
      ∙ ap (λ (p : Page). write p c) (e2 ∙ ap (λ (p : Page). write p b) e1)
      ∙ writes_joined (page out 0) three (omega (arith, three_length)))
