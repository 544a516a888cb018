-- What the calls leave of the records, in the order of the index. Statements only; the files of proofs/ prove them. They refuse a definition
-- that puts a record elsewhere or drops others, whatever the code does.
use Rattle.std.specs.Prelude.{ℕ, zero, suc, ◌+◌, ◌-◌, ◌<◌, ◌≤◌, ◌≡◌, Bool, true, false, cond, List, [], ◌∷◌, ◌++◌, IfSome, eqb, ltb, length, get_or, set, take, drop, replicate}
use Rattle.std.specs.Float.{binary64}
use Rattle.std.specs.Float.Ieee.{of_bits}
use Rattle.flow.specs.Flow.{dims}
use Rattle.flow.specs.declared.Use.{Use}
use Rattle.sender.specs.declared.Name.{Name}
use Rattle.sender.specs.Sender.{table_of_tag}
use Rattle.store.specs.Store.{Record, first}
use Rattle.store.specs.Found.{found}
use Rattle.shifting.specs.Offsets.{Whole, «PARTS»}
use Rattle.parts.specs.Parts.{Rows, begin, end, slot_at, is_at, find, slot_of, words_of, floats_of, put, added, gone, dropped, left, started}
use Rattle.parts.specs.Held.{Sized}

-- ---- what holds from a start on
abbrev pub one_if : Bool → ℕ
one_if true = 1
one_if false = 0

-- how often x is in a list
unfoldable pub times : ℕ → List ℕ → ℕ
times x [] = 0
times x (y ∷ ys) = one_if (eqb y x) + times x ys

-- how often it is among the slots of the first n entries and the free ones
abbrev pub standing : Rows → ℕ → ℕ → ℕ
standing m n x = times x (take n m.slots) + times x (take (length m.units - n) m.free)

-- each slot below the room is there once, and no other number
abbrev pub Once : Rows → ℕ → Type 0
Once m n = (x : ℕ) → standing m n x ≡ one_if (ltb x (length m.units))

-- a store of n records
pub record Sound (m : Rows) (n : ℕ) : Type 0 where
  pub sized : Sized m
  pub room : n ≤ length m.units
  pub offsets : length m.offsets ≡ «PARTS» + 1
  pub whole : Whole m.offsets n
  pub once : Once m n

-- the same, whatever the slots are that the entries name
pub record Fits (m : Rows) (n : ℕ) : Type 0 where
  pub sized : Sized m
  pub room : n ≤ length m.units
  pub offsets : length m.offsets ≡ «PARTS» + 1
  pub whole : Whole m.offsets n

-- each part has only entries of its own table
abbrev pub Homed : Rows → Type 0
Homed m = (table k : ℕ) → table < «PARTS» → begin m table ≤ k → k < end m table → table_of_tag (get_or m.tags k 0) ≡ table

pub record Well (m : Rows) (n : ℕ) : Type 0 where
  pub sound : Sound m n
  pub homed : Homed m

-- ---- the records in the order of the index
unfoldable pub record_at : Rows → ℕ → Record
record_at m k = record { tag = get_or m.tags k 0; words = get_or m.units (slot_at m k) []; floats = get_or m.uses (slot_at m k) [] }

-- the first n
unfoldable pub listed : Rows → ℕ → List Record
listed m zero = []
listed m (suc n) = listed m n ++ (record_at m n ∷ [])

-- a property of each of the first n
abbrev pub Every : (Record → Type 0) → Rows → ℕ → Type 0
Every P m n = (k : ℕ) → k < n → P (record_at m k)

-- ---- the index itself, whatever the entries name
pub record Entry : Type 0 where
  pub tag : ℕ
  pub slot : ℕ

abbrev pub an_entry : ℕ → ℕ → Entry
an_entry tag slot = record { tag = tag; slot = slot }

unfoldable pub entry_at : Rows → ℕ → Entry
entry_at m k = record { tag = get_or m.tags k 0; slot = get_or m.slots k 0 }

-- no list is longer or shorter
pub record AsLong (was is : Rows) : Type 0 where
  pub tags : length is.tags ≡ length was.tags
  pub slots : length is.slots ≡ length was.slots
  pub offsets : length is.offsets ≡ length was.offsets
  pub free : length is.free ≡ length was.free
  pub units : length is.units ≡ length was.units
  pub uses : length is.uses ≡ length was.uses

-- ---- a start
pub record Begins (m : Rows) : Type 0 where
  -- no record is there
  pub well : Well (started m) 0
  -- and none is written
  pub tags : (started m).tags ≡ m.tags
  pub slots : (started m).slots ≡ m.slots
  pub units : (started m).units ≡ m.units
  pub uses : (started m).uses ≡ m.uses

abbrev pub Starts : Type 0
Starts = (m : Rows) → Sized m → Begins m

-- ---- a record comes in
abbrev pub record_of : Name → Use → Record
record_of name u = record { tag = name.tag; words = words_of name u; floats = floats_of u }

pub record Adds (m : Rows) (n : ℕ) (name : Name) (u : Use) : Type 1 where
  -- it stands at the end of the part of its table, and no other is changed
  pub list : listed (added m n name u) (n + 1) ≡ take (end m (table_of_tag name.tag)) (listed m n) ++ (record_of name u ∷ drop (end m (table_of_tag name.tag)) (listed m n))
  pub sound : Sound (added m n name u) (n + 1)
  pub well : Homed m → Well (added m n name u) (n + 1)
  pub every : (P : Record → Type 0) → P (record_of name u) → Every P m n → Every P (added m n name u) (n + 1)
  -- the places of the index behind the new last entry are as they were, and no list is longer or shorter
  pub behind : (k : ℕ) → n < k → entry_at (added m n name u) k ≡ entry_at m k
  pub lengths : AsLong m (added m n name u)

abbrev pub Comes : Type 1
Comes = (m : Rows) (n : ℕ) (name : Name) (u : Use) → Sound m n → n < length m.units → table_of_tag name.tag < «PARTS» → Adds m n name u

-- ---- stale records leave
-- at_ms − its stamp exceeds 8,000. The number is written out: a law that cited the constant would hold of another one too
unfoldable pub stale : ℕ → Record → Bool
stale at_ms r = ltb (get_or r.words 5 0 + 8000) at_ms

-- those of which p does not hold, in their order
unfoldable pub without : {A : Type 0} → (A → Bool) → List A → List A
without p [] = []
without p (r ∷ rs) = cond (p r) (without p rs) (r ∷ without p rs)

-- the records of a part
abbrev pub part_of : Rows → ℕ → ℕ → List Record
part_of m n table = take (end m table - begin m table) (drop (begin m table) (listed m n))

-- a slot is zero bits
abbrev pub Cleared : Rows → ℕ → Type 0
Cleared m slot = (get_or m.units slot [] ≡ replicate 7 0) × (get_or m.uses slot [] ≡ replicate (dims + dims) (of_bits binary64 0))

pub record Drops (m : Rows) (n table at_ms : ℕ) : Type 1 where
  -- of the part exactly those stay that are not stale, in their order, and the others are as they were
  pub list : listed (dropped m n table at_ms) (left m n table at_ms)
      ≡ (take (begin m table) (listed m n) ++ without (stale at_ms) (part_of m n table)) ++ drop (end m table) (listed m n)
  pub sound : Sound (dropped m n table at_ms) (left m n table at_ms)
  pub well : Homed m → Well (dropped m n table at_ms) (left m n table at_ms)
  pub every : (P : Record → Type 0) → Every P m n → Every P (dropped m n table at_ms) (left m n table at_ms)
  -- the places of the index that are then free are 0, and the slots that are then free are zero bits
  pub freed : (k : ℕ) → left m n table at_ms ≤ k → k < n → (get_or (dropped m n table at_ms).tags k 0 ≡ 0) × (get_or (dropped m n table at_ms).slots k 0 ≡ 0)
  pub cleared : (k : ℕ) → k < length (gone m table at_ms) → Cleared (dropped m n table at_ms) (slot_of (get_or (gone m table at_ms) k 0) (length m.units))

-- also where an entry stands in the part of another table: it goes with the part that it stands in
abbrev pub Leave : Type 1
Leave = (m : Rows) (n table at_ms : ℕ) → Sound m n → table < «PARTS» → Drops m n table at_ms

-- each entry that stays stood in one place, in the order of the places, and its record's rows lie where they lay
pub record Moves (m : Rows) (n table at_ms : ℕ) : Type 0 where
  -- where the entry stood that stands at a place then
  pub from : ℕ → ℕ
  pub rises : (k : ℕ) → from k < from (k + 1)
  pub within : (k : ℕ) → k < left m n table at_ms → from k < n
  pub tag : (k : ℕ) → k < left m n table at_ms → get_or (dropped m n table at_ms).tags k 0 ≡ get_or m.tags (from k) 0
  pub slot : (k : ℕ) → k < left m n table at_ms → get_or (dropped m n table at_ms).slots k 0 ≡ get_or m.slots (from k) 0
  pub units : (k : ℕ) → k < left m n table at_ms → get_or (dropped m n table at_ms).units (slot_at (dropped m n table at_ms) k) [] ≡ get_or m.units (slot_at (dropped m n table at_ms) k) []
  pub uses : (k : ℕ) → k < left m n table at_ms → get_or (dropped m n table at_ms).uses (slot_at (dropped m n table at_ms) k) [] ≡ get_or m.uses (slot_at (dropped m n table at_ms) k) []

abbrev pub Move : Type 0
Move = (m : Rows) (n table at_ms : ℕ) → Sound m n → table < «PARTS» → Moves m n table at_ms

-- ---- what a drop leaves whatever the slots are that the entries name, also where two name the same one
-- the first n
unfoldable pub entries : Rows → ℕ → List Entry
entries m zero = []
entries m (suc n) = entries m n ++ (entry_at m n ∷ [])

-- the record that it names
unfoldable pub of_entry : Rows → Entry → Record
of_entry m e = record { tag = e.tag; words = get_or m.units (slot_of e.slot (length m.units)) []; floats = get_or m.uses (slot_of e.slot (length m.units)) [] }

-- the entry at k is one of the part, and its record is stale
abbrev pub Goes : Rows → ℕ → ℕ → ℕ → Type 0
Goes m table at_ms k = (begin m table ≤ k) × (k < end m table) × (stale at_ms (record_at m k) ≡ true)

pub record Clears (m : Rows) (n table at_ms : ℕ) : Type 0 where
  -- of the part exactly the entries stay whose records were not stale, in their order, and the others are as they were
  pub list : entries (dropped m n table at_ms) (left m n table at_ms)
      ≡ (take (begin m table) (entries m n) ++ without (λ (e : Entry). stale at_ms (of_entry m e)) (take (end m table - begin m table) (drop (begin m table) (entries m n)))) ++ drop (end m table) (entries m n)
  pub fits : Fits (dropped m n table at_ms) (left m n table at_ms)
  -- the slots that stale records had are zero bits, and each other slot is as it was
  pub cleared : (k : ℕ) → Goes m table at_ms k → Cleared (dropped m n table at_ms) (slot_at m k)
  pub kept : (slot : ℕ) → slot < length m.units → ((k : ℕ) → Goes m table at_ms k → slot_at m k ≡ slot → ⊥)
      → (get_or (dropped m n table at_ms).units slot [] ≡ get_or m.units slot []) × (get_or (dropped m n table at_ms).uses slot [] ≡ get_or m.uses slot [])
  -- the places of the index that are then free are 0, and from the n-th on all are as they were; no list is longer or shorter
  pub freed : (k : ℕ) → left m n table at_ms ≤ k → k < n → entry_at (dropped m n table at_ms) k ≡ an_entry 0 0
  pub behind : (k : ℕ) → n ≤ k → entry_at (dropped m n table at_ms) k ≡ entry_at m k
  pub lengths : AsLong m (dropped m n table at_ms)

abbrev pub Clear : Type 0
Clear = (m : Rows) (n table at_ms : ℕ) → Fits m n → table < «PARTS» → Clears m n table at_ms

-- ---- a use put into a record
-- the record with it
unfoldable pub with_use : Record → Use → Record
with_use r u = record { tag = r.tag; words = set (set r.words 5 u.at_ms) 6 u.fresh; floats = floats_of u }

pub record Puts (m : Rows) (n k : ℕ) (u : Use) : Type 1 where
  pub list : listed (put m k u) n ≡ set (listed m n) k (with_use (record_at m k) u)
  pub sound : Sound (put m k u) n
  pub well : Homed m → Well (put m k u) n
  pub every : (P : Record → Type 0) → P (with_use (record_at m k) u) → Every P m n → Every P (put m k u) n

abbrev pub Stays : Type 1
Stays = (m : Rows) (n k : ℕ) (u : Use) → Sound m n → k < n → Puts m n k u

-- ---- find
pub record Finds (m : Rows) (n : ℕ) (name : Name) : Type 0 where
  -- none, or an entry of the part of the unit's table that has its tag and its words
  pub inside : IfSome (find m name) (λ i. (begin m (table_of_tag name.tag) ≤ i) × (i < end m (table_of_tag name.tag)) × (is_at m name i ≡ true))
  -- where each part has only entries of its own table it is the first of all
  pub everywhere : Homed m → find m name ≡ found n (first (is_at m name) n)

abbrev pub Searches : Type 0
Searches = (m : Rows) (n : ℕ) (name : Name) → Whole m.offsets n → table_of_tag name.tag < «PARTS» → Finds m n name

-- two stores have the same part of a table: the same places, and at each the same tag and words
pub record Agree (m k : Rows) (table : ℕ) : Type 0 where
  pub begins : begin m table ≡ begin k table
  pub ends : end m table ≡ end k table
  pub tags : (i : ℕ) → begin m table ≤ i → i < end m table → get_or m.tags i 0 ≡ get_or k.tags i 0
  pub words : (i : ℕ) → begin m table ≤ i → i < end m table → get_or m.units (slot_at m i) [] ≡ get_or k.units (slot_at k i) []

-- a search reads its own part alone
abbrev pub Alone : Type 0
Alone = (m k : Rows) (name : Name) → Agree m k (table_of_tag name.tag) → find m name ≡ find k name
