-- The label of a V6 group as it is printed: the fields in front of the run of zeros, which is always the one at the end. A definition, and that it
-- is the label; proofs/Short proves it.
use Rattle.std.specs.Prelude.{ℕ, ◌/◌, ◌%◌, ◌≡◌, cond, List, [], ◌∷◌, ◌++◌, eqb}
use Rattle.text.specs.Page.{joined}
use Rattle.text.specs.Number.{hexadecimal}
use Rattle.label.specs.Label.{v6_label}

-- both fields with `:` between where the second is not zero, else the first, else none
unfoldable pub shown : ℕ → ℕ → List (List ℕ)
shown high low = cond (eqb low 0) (cond (eqb high 0) [] (hexadecimal high ∷ [])) (hexadecimal high ∷ (58 ∷ []) ∷ hexadecimal low ∷ [])

-- `v6:`, what is shown, `::/32`
unfoldable pub short_label : ℕ → List ℕ
short_label prefix = joined ((118 ∷ 54 ∷ 58 ∷ []) ∷ (shown (prefix / 65536) (prefix % 65536) ++ ((58 ∷ 58 ∷ 47 ∷ 51 ∷ 50 ∷ []) ∷ [])))

abbrev pub IsShort : Type 0
IsShort = (prefix : ℕ) → v6_label prefix ≡ short_label prefix
