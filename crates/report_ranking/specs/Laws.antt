-- What holds of the order of the sources and of those that a report names: they are the front of the sorted list. Statements only.
use Rattle.std.specs.Prelude.{ℕ, ◌≤◌, ◌<◌, ◌≡◌, true, false, ◌⊎◌, List, length, get_or}
use Rattle.text.specs.Order.{less}
use Rattle.cut_sources.specs.Counted.{total_at}
use Rattle.report_ranking.specs.Sources.{label_at, precedes, reported}

-- document 01's words: larger total first, then label by bytes, then store order
abbrev pub Before : List ℕ → List (List ℕ) → ℕ → ℕ → Type 0
Before tags rows i j =
    (total_at rows j < total_at rows i)
    ⊎ ((total_at rows i ≡ total_at rows j)
    × ((less (label_at tags rows i) (label_at tags rows j) ≡ true) ⊎ ((label_at tags rows i ≡ label_at tags rows j) × (i < j))))

-- the order is a strict and total one
pub record Order (tags : List ℕ) (rows : List (List ℕ)) : Type 0 where
  pub shows : (i j : ℕ) → precedes tags rows i j ≡ true → Before tags rows i j
  pub shown : (i j : ℕ) → Before tags rows i j → precedes tags rows i j ≡ true
  pub irreflexive : (i : ℕ) → precedes tags rows i i ≡ false
  pub transitive : (i j k : ℕ) → precedes tags rows i j ≡ true → precedes tags rows j k ≡ true → precedes tags rows i k ≡ true
  pub connected : (i j : ℕ) → precedes tags rows i j ≡ false → precedes tags rows j i ≡ false → i ≡ j

-- `l` is the front of the first n sources in their order: up to `most` of them, in order (so none twice), and a source is
-- left out only where `most` are named and each of them precedes it
pub record Front (tags : List ℕ) (rows : List (List ℕ)) (n most : ℕ) (l : List ℕ) : Type 0 where
  pub few : length l ≤ most
  pub held : (k : ℕ) → k < length l → get_or l k 0 < n
  pub ordered : (j k : ℕ) → j < k → k < length l → precedes tags rows (get_or l j 0) (get_or l k 0) ≡ true
  pub left_out : (i : ℕ) → i < n → ((k : ℕ) → k < length l → get_or l k 0 ≡ i → ⊥)
      → (length l ≡ most) × ((k : ℕ) → k < length l → precedes tags rows (get_or l k 0) i ≡ true)

pub record Naming : Type 0 where
  pub order : (tags : List ℕ) (rows : List (List ℕ)) → Order tags rows
  pub front : (tags : List ℕ) (rows : List (List ℕ)) (n : ℕ) → Front tags rows n 16 (reported tags rows n)
