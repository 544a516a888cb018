-- The label of a V6 group is its short form. Assumes nothing.
use Rattle.std.proofs.Common.{◌≡◌, refl, ap, ℕ, zero, suc, ◌/◌, ◌%◌, List, [], ◌∷◌, ◌++◌, false, eqb, ne_eqb, arith}
use mathlib.Core.List.{append_assoc}
use Rattle.text.specs.Page.{joined}
use Rattle.text.specs.Number.{hexadecimal}
use Rattle.label.specs.Rfc5952.{address, longest, zeros, colons, shortened}
use Rattle.label.specs.Label.{v6_label, prefix_fields}
use Rattle.label.specs.Short.{shown, short_label, IsShort}

pub not_zero : (n : ℕ) → eqb (suc n) 0 ≡ false
not_zero n = ne_eqb (suc n) 0 (λ e. omega arith)

-- two fields with `:` between, `::` and `/32` behind them
both : (a b : ℕ) → (hexadecimal a ++ (58 ∷ hexadecimal b)) ++ (58 ∷ 58 ∷ []) ++ (47 ∷ 51 ∷ 50 ∷ []) ≡ hexadecimal a ++ (58 ∷ (hexadecimal b ++ (58 ∷ 58 ∷ 47 ∷ 51 ∷ 50 ∷ [])))
both a b = simp append_assoc

-- an address of two fields and six of zero, with `/32` behind it
with_length : (a b : ℕ) → address (a ∷ b ∷ 0 ∷ 0 ∷ 0 ∷ 0 ∷ 0 ∷ 0 ∷ []) ++ (47 ∷ 51 ∷ 50 ∷ []) ≡ joined (shown a b ++ ((58 ∷ 58 ∷ 47 ∷ 51 ∷ 50 ∷ []) ∷ []))
unfolding address longest zeros colons shortened shown joined
with_length zero zero = refl
with_length (suc a) zero = rw (not_zero a) (append_assoc (hexadecimal (suc a)) (58 ∷ 58 ∷ []) (47 ∷ 51 ∷ 50 ∷ []))
with_length zero (suc b) = rw (not_zero b) (both 0 (suc b))
with_length (suc a) (suc b) = rw (not_zero b) (both (suc a) (suc b))

pub is_short : IsShort
unfolding v6_label prefix_fields short_label joined
is_short prefix = ap (λ (l : List ℕ). 118 ∷ 54 ∷ 58 ∷ l) (with_length (prefix / 65536) (prefix % 65536))
