-- Which tags pass a test that a caller gives. Definitions only.
use Rattle.std.specs.Prelude.{ℕ, ◌<◌, ◌≤◌, ◌≡◌, Bool, true, false, List, slice_index}
use Rattle.store.specs.Store.{has_tag}

-- the test may answer that the tag at i passes
abbrev pub Passes : (ℕ → Bool → Type 0) → List ℕ → ℕ → Type 0
Passes answers tags i = answers (slice_index tags i) true

-- it may answer that none of the tags from i up to j does
abbrev pub None : (ℕ → Bool → Type 0) → List ℕ → ℕ → ℕ → Type 0
None answers tags i j = (k : ℕ) → i ≤ k → k < j → answers (slice_index tags k) false

-- from `from` on, and no further than n, the tags before `to` are passed over: the test may answer that none of them passes
pub record Passed (answers : ℕ → Bool → Type 0) (tags : List ℕ) (from n to : ℕ) : Type 0 where
  pub lower_bound : from ≤ to
  pub upper_bound : to ≤ n
  pub none : None answers tags from to

-- the record at i has the tag, and the test of places may answer that it is sought
abbrev pub Sought : (ℕ → Bool → Type 0) → List ℕ → ℕ → ℕ → Type 0
Sought answers tags tag i = (has_tag tags tag i ≡ true) × answers i true

-- of the first n records that have the tag it may answer that none is
abbrev pub NoneSought : (ℕ → Bool → Type 0) → List ℕ → ℕ → ℕ → Type 0
NoneSought answers tags tag n = (k : ℕ) → k < n → has_tag tags tag k ≡ true → answers k false
