-- The tables of src/tables.rt: the test of all entries, which antt computes, and what it says of each. Assumes nothing.
use mathlib.Core.Path.{◌≡◌, refl, subst}
use mathlib.Core.Bool.{Bool, true}
use mathlib.Core.List.{List}
use Prim.Native.Nat.{ℕ, ◌+◌, ◌-◌, ◌<◌}
use native.Mathlib.Decide.{dec_lt}
use native.Mathlib.Omega.{arith}
use lib.Dec.{T}
use lib.ListN.{get_or}
use Rattle.std.proofs.lemmas.Bool.{agree_below, agree_below_at}
use Rattle.std.proofs.lemmas.Float.{T_from_true}
use Rattle.fade.specs.declared.tables.TheConstants.{A, B}
use Rattle.fade.specs.Fade.{WINDOW_MS, long}
use Rattle.fade.proofs.Entries.{good}

-- each entry of A is at least 2 ^ -least_a, and each of B at least 2 ^ -least_b
abbrev pub least_a : ℕ
least_a = 2

abbrev pub least_b : ℕ
least_b = 1018

-- entry p of the table passes the test
abbrev pub passing : ℕ → ℕ → List ℕ → ℕ → Bool
passing k q table p = good k q p (get_or table p 0)

tested_a : agree_below (passing least_a WINDOW_MS A) (λ p. true) WINDOW_MS ≡ true
unfolding good
tested_a = refl

-- the entries of B in parts that cost about as much each, since the check of one declaration takes so many steps and no more
abbrev part_b : ℕ → ℕ → Bool
part_b from p = passing least_b 1 B (from + p)

tested_to_240 : agree_below (part_b 0) (λ p. true) 240 ≡ true
unfolding good
tested_to_240 = refl

tested_to_340 : agree_below (part_b 240) (λ p. true) 100 ≡ true
unfolding good
tested_to_340 = refl

tested_to_420 : agree_below (part_b 340) (λ p. true) 80 ≡ true
unfolding good
tested_to_420 = refl

tested_to_490 : agree_below (part_b 420) (λ p. true) 70 ≡ true
unfolding good
tested_to_490 = refl

tested_to_550 : agree_below (part_b 490) (λ p. true) 60 ≡ true
unfolding good
tested_to_550 = refl

tested_to_600 : agree_below (part_b 550) (λ p. true) 50 ≡ true
unfolding good
tested_to_600 = refl

tested_to_650 : agree_below (part_b 600) (λ p. true) 50 ≡ true
unfolding good
tested_to_650 = refl

tested_to_700 : agree_below (part_b 650) (λ p. true) 50 ≡ true
unfolding good
tested_to_700 = refl

-- what is true below `from`, and of the n from there on, is true below their end
joined : (from n end : ℕ) → from + n ≡ end → agree_below (part_b from) (λ p. true) n ≡ true → ((p : ℕ) → p < from → T (passing least_b 1 B p))
    → (p : ℕ) → p < end → T (passing least_b 1 B p)
joined from n end e tested before p h = elim (dec_lt p from) [
  | yes l ↦ before p l
  | no g ↦
      let k : from + (p - from) ≡ p = omega arith in
      subst (λ (i : ℕ). T (passing least_b 1 B i)) k (T_from_true _ (agree_below_at (part_b from) (λ p. true) n (p - from) tested (omega arith)))
]

pub passes_a : (p : ℕ) → p < WINDOW_MS → T (passing least_a WINDOW_MS A p)
passes_a p h = T_from_true _ (agree_below_at (passing least_a WINDOW_MS A) (λ p. true) WINDOW_MS p tested_a h)

pub passes_b : (p : ℕ) → p < long → T (passing least_b 1 B p)
passes_b =
    joined 650 50 700 (omega arith) tested_to_700
    (joined 600 50 650 (omega arith) tested_to_650
    (joined 550 50 600 (omega arith) tested_to_600
    (joined 490 60 550 (omega arith) tested_to_550
    (joined 420 70 490 (omega arith) tested_to_490
    (joined 340 80 420 (omega arith) tested_to_420
    (joined 240 100 340 (omega arith) tested_to_340
    (joined 0 240 240 (omega arith) tested_to_240 (λ p h. absurd (omega arith)))))))))
