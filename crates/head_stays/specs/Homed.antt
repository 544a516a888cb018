-- A start makes the store well, and a judgement, a cut or new rates leave it so: each slot stands once, each part has only entries of its own table. Each record has the name
-- of a unit that a call was made for, and a search gives the first record that reads as its unit. A start assumes nothing of the bits in the slices. Statement only.
use Rattle.std.specs.Prelude.{ℕ, ◌<◌, ◌≡◌, Bool, false, ⊤, List}
use Rattle.sender.specs.declared.Unit.{Unit}
use Rattle.sender.specs.Sender.{Tells, Ranged, name_of, is_overflow, same_name, reads}
use Rattle.store.specs.Store.{Rows, first}
use Rattle.store.specs.Found.{found}
use Rattle.store.specs.Held.{sizes_of}
use Rattle.store.specs.declared.Cause.{Cause}
use Rattle.parts.specs.Parts.{find}
use Rattle.parts.specs.Laws.{Well}
use Rattle.wants.specs.Wants.{Hist}
use Rattle.head.specs.declared.Shedder.{Shedder}
use Rattle.head.specs.Questions.{start_asked}
use Rattle.head.specs.Start.{start}
use Rattle.store_entry.specs.Own.{name_at, At}
use Rattle.judge.specs.Judging.{Memory, judge}
use Rattle.cut.specs.Cutting.{cut}
use Rattle.rates.specs.Rates.{set_rates}

-- The record at k has the name of a unit that is not overflow, and of which Q holds.
pub record By (Q : Unit → Type 0) (m : Rows) (k : ℕ) : Type 0 where
  pub unit : Unit
  pub own : is_overflow unit ≡ false
  pub holds : Q unit
  pub named : name_at m k ≡ name_of unit

-- Each of the first n records has such a name.
abbrev pub Named : (Unit → Type 0) → Rows → ℕ → Type 0
Named Q m n = (k : ℕ) → k < n → By Q m k

-- The store of n records is well, and each has such a name.
pub record Known (Q : Unit → Type 0) (m : Rows) (n : ℕ) : Type 0 where
  pub well : Well m n
  pub named : Named Q m n

-- P holds after a start that is not refused, and where it holds before a judgement or a cut, refused or not, for a unit of which Q holds, or before new rates, it holds after it.
pub record Lasts (Q : Unit → Type 0) (P : Rows → ℕ → Type 0) : Type 0 where
  pub start : (h : Shedder) (m : Rows) (k : List (List ℕ)) (g : Hist) (rate ceiling : List ℕ) → start_asked rate (sizes_of m k) ≡ 0
      → P (start h m k g rate ceiling).rows (start h m k g rate ceiling).head.tracked
  pub judge : (h : Shedder) (m : Memory) (u : Unit) (cost : List ℕ) (stamp : ℕ) → Q u → P m.rows h.tracked → P (judge h m u cost stamp).memory.rows (judge h m u cost stamp).head.tracked
  pub cut : (h : Shedder) (m : Rows) (k : List (List ℕ)) (u : Unit) (c : Cause) (cost : List ℕ) → Q u → P m h.tracked → P (cut h m k u c cost).rows (cut h m k u c cost).head.tracked
  -- new rates name no unit and write no rows
  pub rates : (h : Shedder) (m : Rows) (k : List (List ℕ)) (rate ceiling : List ℕ) (stamp : ℕ) → P m h.tracked → P m (set_rates h m k rate ceiling stamp).head.tracked

-- The head and the rows are as they were.
abbrev pub Same : Shedder → Rows → Shedder → Rows → Type 0
Same h m h1 m1 = (h1 ≡ h) × (m1 ≡ m)

-- The test whether the record at k reads as the unit.
abbrev pub reads_as : Rows → Unit → ℕ → Bool
reads_as m u k = same_name (name_of (reads (name_at m k))) (name_of u)

-- What holds of the calls, and of such a store.
pub record Homes : Type 1 where
  -- the store stays well, for any units
  pub well : Lasts (λ u. ⊤) Well
  -- and each record is named by a unit that a call was made for: a Q that holds of the calls' units holds of the records' too
  pub known : (Q : Unit → Type 0) → Lasts Q (Known Q)
  -- a refused start changes nothing
  pub refused : (h : Shedder) (m : Rows) (k : List (List ℕ)) (g : Hist) (rate ceiling : List ℕ) → (start_asked rate (sizes_of m k) ≡ 0 → ⊥)
      → Same h m (start h m k g rate ceiling).head (start h m k g rate ceiling).rows
  -- the record is in the part of its unit's table
  pub home : (Q : Unit → Type 0) (m : Rows) (n k : ℕ) (s : Known Q m n) (l : k < n) → At m (s.named k l).unit k
  -- and reads as its unit, where the prefixes of groups have their 16 or 32 bits
  pub read : (m : Rows) (n k : ℕ) (s : Known Ranged m n) (l : k < n) → reads (name_at m k) ≡ (s.named k l).unit
  -- the test is true exactly where it does
  pub tells : (m : Rows) (u : Unit) (k : ℕ) → Tells (reads_as m u k) (reads (name_at m k) ≡ u)
  -- THE SEARCH: the first of all records that reads as the unit
  pub search : (m : Rows) (n : ℕ) (u : Unit) → Ranged u → is_overflow u ≡ false → Well m n → find m (name_of u) ≡ found n (first (reads_as m u) n)
