-- The rows of counted sources: found, counted, and the least counted left out. Definitions only.
use Rattle.std.specs.Prelude.{ℕ, zero, suc, ◌+◌, ◌-◌, ◌/◌, ◌%◌, ◌^◌, Bool, cond, List, [], ◌∷◌, ◌++◌, map, length, take, drop, replicate, nat_lt, slice_index, slice_index_or, slice_set}
use Rattle.sender.specs.declared.Name.{Name}
use Rattle.sender.specs.declared.Words.{Words}
use Rattle.sender.specs.Sender.{name_of, same_name}
use Rattle.store.specs.Store.{unit_at, first}
use Rattle.cut_sources.specs.Sorted.{sorted}

-- ---- counted sources: a tag, and a row of kind, four words, three counts
abbrev pub counted_row : List (List ℕ) → ℕ → List ℕ
counted_row rows i = slice_index_or rows i []

-- the source at i reads as the unit of this name; so the first that reads as overflow is overflow's
unfoldable pub counted_is : List ℕ → List (List ℕ) → Name → ℕ → Bool
counted_is tags rows name i = same_name (name_of (unit_at tags rows i)) name

unfoldable pub counted_find : List ℕ → List (List ℕ) → Name → ℕ → ℕ
counted_find tags rows name n = first (counted_is tags rows name) n

-- one more for a cause, modulo 2^64
unfoldable pub counted_up : List (List ℕ) → ℕ → ℕ → List (List ℕ)
counted_up rows i cause = slice_set rows i (slice_set (counted_row rows i) (5 + cause) ((slice_index (counted_row rows i) (5 + cause) + 1) % 2 ^ 64))

-- a source that is counted for nothing yet
unfoldable pub counted_add : List (List ℕ) → ℕ → Words → List (List ℕ)
counted_add rows i w = slice_set rows i (w.kind ∷ w.a ∷ w.b ∷ w.c ∷ w.d ∷ 0 ∷ 0 ∷ 0 ∷ [])

-- so many sources, and the rows
pub record Sources : Type 0 where
  pub count : ℕ
  pub rows : List (List ℕ)

abbrev pub sources : ℕ → List (List ℕ) → Sources
sources n rows = record { count = n; rows = rows }

-- of n sources the unit's is counted for a cause once more; it is added at the end where it is not among them
unfoldable pub count : List ℕ → List (List ℕ) → ℕ → Name → ℕ → Sources
count tags rows n name cause =
    cond (nat_lt (counted_find tags rows name n) n) (sources n (counted_up rows (counted_find tags rows name n) cause))
    (sources (n + 1) (counted_up (counted_add rows n name.words) n cause))

-- the tags then
unfoldable pub count_tags : List ℕ → List (List ℕ) → ℕ → Name → List ℕ
count_tags tags rows n name = cond (nat_lt (counted_find tags rows name n) n) tags (slice_set tags n name.tag)

-- ---- leaving out the least counted
-- a source's total: the sum of its three counts, modulo 2^64
unfoldable pub total : List ℕ → ℕ
total row = (slice_index row 5 + slice_index row 6 + slice_index row 7) % 2 ^ 64

-- its counts of receiver-ceiling, over-share and relay-rate
unfoldable pub counts_at : List (List ℕ) → ℕ → List ℕ
counts_at rows i = slice_index (counted_row rows i) 5 ∷ slice_index (counted_row rows i) 6 ∷ slice_index (counted_row rows i) 7 ∷ []

unfoldable pub total_at : List (List ℕ) → ℕ → ℕ
total_at rows i = total (counted_row rows i)

-- the totals of the first n sources
unfoldable pub totals : List (List ℕ) → ℕ → List ℕ
totals rows n = map total (take n rows)

-- of the ascending totals the one at index length / 4
unfoldable pub keep_from : List ℕ → ℕ
keep_from l = slice_index (sorted l) (length l / 4)

-- the sources whose total is above k, in their order
unfoldable pub above : ℕ → List (List ℕ) → List (List ℕ)
above k [] = []
above k (row ∷ rows) = cond (nat_lt k (total row)) (row ∷ above k rows) (above k rows)

abbrev pub free : List ℕ
free = replicate 8 0

-- the kept sources in front, freed places up to n, and the rows behind n as they were
abbrev pub left : List (List ℕ) → ℕ → List (List ℕ) → Sources
left kept n behind = sources (length kept) (kept ++ (replicate (n - length kept) free ++ behind))

-- of the first n sources those above k remain
unfoldable pub prune : List (List ℕ) → ℕ → ℕ → Sources
prune rows k n = left (above k (take n rows)) n (drop n rows)

-- the source at i stands at j, and i is freed
abbrev pub row_put : List (List ℕ) → ℕ → ℕ → List (List ℕ)
row_put rows i j = slice_set (slice_set rows i free) j (counted_row rows i)

-- one source more: moved to the end of those kept where its total is above k, else freed
unfoldable pub prune_one : Sources → ℕ → ℕ → Sources
prune_one s k i =
    cond (nat_lt k (total_at s.rows i)) (sources (s.count + 1) (row_put s.rows i s.count))
    (sources s.count (slice_set s.rows i free))

-- where every row is taken, the spare one too, only totals above k remain
unfoldable pub pruned : Sources → Sources
pruned s = cond (nat_lt s.count (length s.rows)) s (prune s.rows (keep_from (totals s.rows s.count)) s.count)

-- ---- the tags go with their rows
-- the tag at i stands at j, and i becomes 0
abbrev pub tag_put : List ℕ → ℕ → ℕ → List ℕ
tag_put tags i j = slice_set (slice_set tags i 0) j (slice_index tags i)

-- the source at i of this total: its tag goes to j, the end of those kept, where the total is above k; its own place becomes 0
unfoldable pub tag_moved : List ℕ → ℕ → ℕ → ℕ → ℕ → List ℕ
tag_moved tags total k i j = cond (nat_lt k total) (tag_put tags i j) (slice_set tags i 0)

-- of the first n sources, one after the other
unfoldable pub prune_tags : List ℕ → List (List ℕ) → ℕ → ℕ → List ℕ
prune_tags tags rows k zero = tags
prune_tags tags rows k (suc n) = tag_moved (prune_tags tags rows k n) (total_at (prune rows k n).rows n) k n (prune rows k n).count

unfoldable pub pruned_tags : Sources → List ℕ → List ℕ
pruned_tags s tags = cond (nat_lt s.count (length s.rows)) tags (prune_tags tags s.rows (keep_from (totals s.rows s.count)) s.count)
