-- The copies that a visit of a table makes: each entry that stays behind the first one that is dropped goes down, once. Definitions, and
-- statements that the files of proofs/ prove.
use Rattle.std.specs.Prelude.{ℕ, zero, suc, ◌+◌, ◌-◌, ◌<◌, ◌≤◌, ◌≡◌, ◌≢◌, Bool, true, false, cond, ◌&&◌, List, [], ◌∷◌, eqb, nat_le, ltb, length, get_or, set, take}
use Rattle.store.specs.Store.{first}
use Rattle.shifting.specs.Offsets.{Whole, «PARTS»}
use Rattle.shifting.specs.Shifting.{down}
use Rattle.parts.specs.Parts.{Rows, begin, end, slot_at, slot_of, goes, gone, dropped, left}
use Rattle.parts.specs.Held.{Sized}
use Rattle.parts.specs.Laws.{one_if, Sound}

-- an entry, tag and slot, goes from one place of the index to another
pub record Copy : Type 0 where
  pub from : ℕ
  pub to : ℕ

abbrev pub copy : ℕ → ℕ → Copy
copy i j = record { from = i; to = j }

-- the entry at k is dropped: it stands in the part of the table, and its record is stale
unfoldable pub drops : Rows → ℕ → ℕ → ℕ → Bool
drops m table at_ms k = nat_le (begin m table) k && ltb k (end m table) && goes m.slots m.units at_ms k

-- the first of n that is dropped, else n
abbrev pub first_dropped : Rows → ℕ → ℕ → ℕ → ℕ
first_dropped m n table at_ms = first (drops m table at_ms) n

-- of c places from i on, the entries at which p does not hold go down in turn, to the places from j on
unfoldable pub going_down : (ℕ → Bool) → ℕ → ℕ → ℕ → List Copy
going_down p zero i j = []
going_down p (suc c) i j = cond (p i) (going_down p c (suc i) j) (copy i j ∷ going_down p c (suc i) (suc j))

-- the copies of entries that a visit makes, of a store of n; where none is dropped there is none
unfoldable pub copies : Rows → ℕ → ℕ → ℕ → List Copy
copies m n table at_ms =
    going_down (drops m table at_ms) (n - first_dropped m n table at_ms) (first_dropped m n table at_ms) (first_dropped m n table at_ms)

-- how often the entry at k is copied
unfoldable pub copied_from : List Copy → ℕ → ℕ
copied_from [] k = 0
copied_from (c ∷ cs) k = one_if (eqb c.from k) + copied_from cs k

-- a row of the index after the copies, each carried out in turn
unfoldable pub ran : List Copy → List ℕ → List ℕ
ran [] xs = xs
ran (c ∷ cs) xs = ran cs (set xs c.to (get_or xs c.from 0))

-- how often they carry x, from wherever it stands by then
unfoldable pub carried : List Copy → List ℕ → ℕ → ℕ
carried [] xs x = 0
carried (c ∷ cs) xs x = one_if (eqb (get_or xs c.from 0) x) + carried cs (set xs c.to (get_or xs c.from 0)) x

-- the one at place a of the list
abbrev pub copy_at : List Copy → ℕ → Copy
copy_at cs a = get_or cs a (copy 0 0)

-- ---- what they come to
pub record Copied (m : Rows) (n table at_ms : ℕ) : Type 0 where
  -- they make the index: the entries that are left stand as the copies put them
  pub tags : take (left m n table at_ms) (dropped m n table at_ms).tags ≡ take (left m n table at_ms) (ran (copies m n table at_ms) m.tags)
  pub slots : take (left m n table at_ms) (dropped m n table at_ms).slots ≡ take (left m n table at_ms) (ran (copies m n table at_ms) m.slots)
  -- each entry is copied at most once: once where it stays behind the first that is dropped, and else never
  pub most : (k : ℕ) → copied_from (copies m n table at_ms) k ≤ 1
  pub stays : (k : ℕ) → first_dropped m n table at_ms < k → k < n → drops m table at_ms k ≡ false → copied_from (copies m n table at_ms) k ≡ 1
  pub leaves : (k : ℕ) → drops m table at_ms k ≡ true → copied_from (copies m n table at_ms) k ≡ 0
  pub before : (k : ℕ) → k < first_dropped m n table at_ms → copied_from (copies m n table at_ms) k ≡ 0
  pub behind : (k : ℕ) → n ≤ k → copied_from (copies m n table at_ms) k ≡ 0
  -- none is taken from a place that an earlier one wrote: what is copied from a place is the entry that stood there
  pub fresh : (a b : ℕ) → a < b → b < length (copies m n table at_ms) → (copy_at (copies m n table at_ms) a).to < (copy_at (copies m n table at_ms) b).from
  -- each goes to an earlier place
  pub down : (a : ℕ) → a < length (copies m n table at_ms) → (copy_at (copies m n table at_ms) a).to < (copy_at (copies m n table at_ms) a).from
  -- they are as many as stay behind the first that is dropped: those that are left, without those before it
  pub total : length (copies m n table at_ms) + first_dropped m n table at_ms ≡ left m n table at_ms
  -- where none is dropped there is none
  pub none : ((k : ℕ) → k < n → drops m table at_ms k ≡ false) → copies m n table at_ms ≡ []
  -- rows are written in the slots of records that are dropped, and in no other
  pub words : (x : ℕ) → ((k : ℕ) → k < length (gone m table at_ms) → x ≢ slot_of (get_or (gone m table at_ms) k 0) (length m.units)) → get_or (dropped m n table at_ms).units x [] ≡ get_or m.units x []
  pub floats : (x : ℕ) → ((k : ℕ) → k < length (gone m table at_ms) → x ≢ slot_of (get_or (gone m table at_ms) k 0) (length m.units)) → get_or (dropped m n table at_ms).uses x [] ≡ get_or m.uses x []

-- for memory of any bits, also where two entries name one slot
abbrev pub Once_each : Type 0
Once_each = (m : Rows) (n table at_ms : ℕ) → Sized m → Whole m.offsets n → n ≤ length m.units → table < «PARTS» → Copied m n table at_ms

-- Whatever copies are made: if there are no more of them, and they leave the same of a row in which each entry is another number, then they
-- carry each entry at most once. So the number of copies, with the index that they make, says so of each entry
abbrev pub No_other_way : Type 0
No_other_way = (m : Rows) (n table at_ms : ℕ) → Sized m → Whole m.offsets n → n ≤ length m.units → table < «PARTS» → (cs : List Copy) → length cs ≤ length (copies m n table at_ms)
    → take (left m n table at_ms) (ran cs (down n)) ≡ take (left m n table at_ms) (ran (copies m n table at_ms) (down n)) → (x : ℕ) → carried cs (down n) x ≤ 1

-- where each slot stands once, the rows of each record that is left lie where they lay, as they were: none is ever copied
pub record Unmoved (m : Rows) (n table at_ms : ℕ) : Type 0 where
  pub words : (k : ℕ) → k < left m n table at_ms → get_or (dropped m n table at_ms).units (slot_at (dropped m n table at_ms) k) [] ≡ get_or m.units (slot_at (dropped m n table at_ms) k) []
  pub floats : (k : ℕ) → k < left m n table at_ms → get_or (dropped m n table at_ms).uses (slot_at (dropped m n table at_ms) k) [] ≡ get_or m.uses (slot_at (dropped m n table at_ms) k) []

abbrev pub Rows_lie : Type 0
Rows_lie = (m : Rows) (n table at_ms : ℕ) → Sound m n → table < «PARTS» → Unmoved m n table at_ms
