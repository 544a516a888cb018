-- What pruning leaves of the counted sources: exactly those whose total is above k, in their order, with their tags, and zero bits
-- behind them; k is the total at index length / 4 of the ascending totals. Statements only; proofs/Laws.antt proves them. They refuse
-- a definition that leaves out other sources, whatever the code does.
use Rattle.std.specs.Prelude.{◌≡◌, ℕ, zero, suc, ◌+◌, ◌/◌, ◌%◌, ◌^◌, ◌<◌, ◌≤◌, Bool, true, false, List, [], ◌∷◌, ◌++◌, map, length, replicate, ◌==◌, nat_lt, slice_index, slice_index_or}
use Rattle.cut_sources.specs.Sorted.{one_if, sorted}
use Rattle.cut_sources.specs.Counted.{Sources, sources, pruned, pruned_tags}

-- ---- k
-- how often x is in a list
unfoldable pub times : ℕ → List ℕ → ℕ
times x [] = 0
times x (y ∷ ys) = one_if (times x ys) (y == x)

-- `sorted l` is l in ascending order
pub record Sorts (l : List ℕ) : Type 0 where
  pub ascending : (i j : ℕ) → i ≤ j → j < length l → slice_index (sorted l) i ≤ slice_index (sorted l) j
  pub same : (x : ℕ) → times x (sorted l) ≡ times x l

unfoldable pub at_quarter : List ℕ → ℕ
at_quarter l = slice_index (sorted l) (length l / 4)

-- ---- the sources
-- a source: its tag and its row. The words of the row are the kind, four words of the unit, three counts
pub record Source : Type 0 where
  pub tag : ℕ
  pub row : List ℕ

unfoldable pub source_at : List ℕ → List (List ℕ) → ℕ → Source
source_at tags rows i = record { tag = slice_index tags i; row = slice_index_or rows i [] }

-- the sources at the first n places, in their order
unfoldable pub listed : List ℕ → List (List ℕ) → ℕ → List Source
listed tags rows zero = []
listed tags rows (suc n) = listed tags rows n ++ (source_at tags rows n ∷ [])

unfoldable pub zero_bits : Source
zero_bits = record { tag = 0; row = replicate 8 0 }

-- the sum of the three counts, which wraps
unfoldable pub sum : Source → ℕ
sum s = (slice_index s.row 5 + slice_index s.row 6 + slice_index s.row 7) % 2 ^ 64

abbrev pub keep : Bool → Source → List Source → List Source
keep true s l = s ∷ l
keep false s l = l

-- those whose total is above k, in their order
unfoldable pub above : ℕ → List Source → List Source
above k [] = []
above k (s ∷ l) = keep (nat_lt k (sum s)) s (above k l)

-- of the first n sources those whose total is up to k are left out: s is how many remain, and the rows then
pub record Leaves (tags : List ℕ) (rows : List (List ℕ)) (n k : ℕ) (s : Sources) (tags' : List ℕ) : Type 0 where
  -- in front stand exactly those above k, in their order, and so many are counted
  pub stay : listed tags' s.rows s.count ≡ above k (listed tags rows n)
  pub counted : s.count ≡ length (above k (listed tags rows n))
  -- zero bits up to the n-th place, and from there on all is as it was
  pub zeroed : (j : ℕ) → s.count ≤ j → j < n → source_at tags' s.rows j ≡ zero_bits
  pub behind : (j : ℕ) → n ≤ j → source_at tags' s.rows j ≡ source_at tags rows j
  pub rows_long : length s.rows ≡ length rows
  pub tags_long : length tags' ≡ length tags

-- for any bits
pub record Prunes : Type 0 where
  pub sorts : (l : List ℕ) → Sorts l
  -- more sources than are kept: every row is taken, the spare one too
  pub full : (tags : List ℕ) (rows : List (List ℕ)) → length rows ≤ length tags
      → Leaves tags rows (length rows) (at_quarter (map sum (listed tags rows (length rows)))) (pruned (sources (length rows) rows)) (pruned_tags (sources (length rows) rows) tags)
  -- else all stay
  pub room : (tags : List ℕ) (rows : List (List ℕ)) (n : ℕ) → n < length rows → (pruned (sources n rows) ≡ sources n rows) × (pruned_tags (sources n rows) tags ≡ tags)
