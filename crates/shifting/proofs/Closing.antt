-- Places zeroed, and entries that close up. Assumes nothing.
use mathlib.Core.Path.{◌≡◌, sym, ap, ◌∙◌}
use mathlib.Core.List.{List, ◌++◌}
use Prim.Native.Nat.{ℕ, ◌+◌, ◌-◌, ◌<◌, ◌≤◌}
use native.Mathlib.Omega.{arith}
use lib.ListN.{length, set, take, drop, replicate, length-take, length-drop, length-replicate, replicate-append-replicate}
use lib.Seq.{paste}
use Rattle.shifting.specs.Shifting.{over, part, zeroed, closed}
use Rattle.shifting.proofs.Laying.{over_nil, over_snoc, over_over, part_length}

module _ {A : Type 0} (xs : List A) (z : A) where
  pub zero_none : (a : ℕ) → xs ≡ zeroed xs a a z
  unfolding zeroed
  zero_none a = let e : a - a ≡ 0 = omega arith in sym (over_nil xs a) ∙ sym (ap (λ (k : ℕ). over xs a (replicate k z)) e)

  pub zero_turn : (a i : ℕ) → a ≤ i → i < length xs → set (zeroed xs a i z) i z ≡ zeroed xs a (i + 1) z
  unfolding zeroed
  zero_turn a i h l =
      let e : i ≡ a + length (replicate {A = A} (i - a) z) = omega (arith, length-replicate {A = A} (i - a) z) in
      let y : i - a + 1 ≡ i + 1 - a = omega arith in
      ap (λ (k : ℕ). set (over xs a (replicate (i - a) z)) k z) e ∙ over_snoc z xs a (replicate (i - a) z) z (omega arith)
      ∙ ap (over xs a) (replicate-append-replicate {A = A} (i - a) 1 z) ∙ ap (λ (k : ℕ). over xs a (replicate k z)) y

  -- a copy down is laid over, and what it leaves is zeroed
  pub copied : (j to n : ℕ) → n ≤ length xs → paste xs j (drop to xs) (n - to) ≡ over xs j (part xs to n)
  unfolding over part
  copied j to n l =
      let e : n - to ≡ length (take (n - to) (drop to xs)) = simp (length-take, length-drop) (omega arith) in
      ap (λ (i : ℕ). take j xs ++ take (n - to) (drop to xs) ++ drop (j + i) xs) e

  pub closes : (j to n : ℕ) → j ≤ to → to ≤ n → n ≤ length xs → zeroed (paste xs j (drop to xs) (n - to)) (n - (to - j)) n z ≡ closed xs j to n z
  unfolding zeroed closed
  closes j to n h l m =
      let e : n - (to - j) ≡ j + length (part xs to n) = omega (arith, part_length xs to n m) in
      let y : n - (n - (to - j)) ≡ to - j = omega arith in
      ap (λ (r : List A). over r (n - (to - j)) (replicate (n - (n - (to - j))) z)) (copied j to n m)
      ∙ ap (λ (k : ℕ). over (over xs j (part xs to n)) (n - (to - j)) (replicate k z)) y
      ∙ over_over xs j (n - (to - j)) (part xs to n) (replicate (to - j) z) (omega arith) e
