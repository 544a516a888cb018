-- Which sources a report names: up to 16, the larger total first, then the label by bytes, then the order of the store. Definitions only.
use Rattle.std.specs.Prelude.{ℕ, zero, suc, Bool, true, false, cond, List, [], ◌∷◌, eqb, ltb}
use Rattle.text.specs.Order.{less}
use Rattle.label.specs.Label.{label}
use Rattle.store.specs.Store.{unit_at}
use Rattle.cut_sources.specs.Counted.{total_at}

-- ---- a counted source: the label of the unit that it reads as
abbrev pub label_at : List ℕ → List (List ℕ) → ℕ → List ℕ
label_at tags rows i = label (unit_at tags rows i)

-- ---- the order
-- of two sources with the same total
unfoldable pub label_precedes : List ℕ → List (List ℕ) → ℕ → ℕ → Bool
label_precedes tags rows i j = cond (less (label_at tags rows i) (label_at tags rows j)) true (cond (less (label_at tags rows j) (label_at tags rows i)) false (ltb i j))

unfoldable pub precedes : List ℕ → List (List ℕ) → ℕ → ℕ → Bool
precedes tags rows i j = cond (ltb (total_at rows j) (total_at rows i)) true (cond (ltb (total_at rows i) (total_at rows j)) false (label_precedes tags rows i j))

-- ---- the selection, of the first n sources; the place n stands for none
-- i comes after p; every source comes after none
unfoldable pub is_after : List ℕ → List (List ℕ) → ℕ → ℕ → ℕ → Bool
is_after tags rows n p i = cond (eqb p n) true (precedes tags rows p i)

-- the earlier of a source and the best found so far
unfoldable pub earlier : List ℕ → List (List ℕ) → ℕ → ℕ → ℕ → ℕ
earlier tags rows n best i = cond (eqb best n) i (cond (precedes tags rows i best) i best)

unfoldable pub better : List ℕ → List (List ℕ) → ℕ → ℕ → ℕ → ℕ → ℕ
better tags rows n p best i = cond (is_after tags rows n p i) (earlier tags rows n best i) best

-- the earliest of those among the first m that come after p
unfoldable pub first_after : List ℕ → List (List ℕ) → ℕ → ℕ → ℕ → ℕ
first_after tags rows n p zero = n
first_after tags rows n p (suc m) = better tags rows n p (first_after tags rows n p m) m

-- up to k sources, each the earliest of those after the one before, the first of them after p
unfoldable pub named : List ℕ → List (List ℕ) → ℕ → ℕ → ℕ → List ℕ
named tags rows n zero p = []
named tags rows n (suc k) p = cond (eqb (first_after tags rows n p n) n) [] (first_after tags rows n p n ∷ named tags rows n k (first_after tags rows n p n))

-- the sources that a report names at most
abbrev pub SOURCES_REPORTED : ℕ
SOURCES_REPORTED = 16

-- those that it names
abbrev pub reported : List ℕ → List (List ℕ) → ℕ → List ℕ
reported tags rows n = named tags rows n SOURCES_REPORTED n
