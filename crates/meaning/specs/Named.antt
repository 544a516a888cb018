-- The record that a judgement or a cut uses names the unit: just found or just added, the unit is in its record, whatever bits the records hold.
-- `judge` on a bounded relay is `judged`, then the count and the scan; a `cut` that hands back is `handed_back`, then the count. store_entry/specs/Own says in which
-- cases the record is found, added or overflow's. Statements only; proofs/Named proves them.
use Rattle.std.specs.Prelude.{ℕ, ◌+◌, ◌<◌, ◌≤◌, ◌≡◌, true, false, List, ◌⊎◌, Float}
use Rattle.flow.specs.Flow as flow
use Rattle.sender.specs.Sender.{name_of, is_overflow, rank}
use Rattle.parts.specs.Parts.{use_of, slot_at}
use Rattle.parts.specs.Laws.{entry_at}
use Rattle.store_entry.specs.Own.{Has, Stays, SameRows, name_at}
use Rattle.meaning.specs.State.{State, Unit, Name, Use}
use Rattle.meaning.specs.Page as page

-- the state once the record was found or added, and its place
abbrev pub entered : State → Unit → (clock : ℕ) → State
entered s u clock = (page.entry s u clock).state

abbrev pub place : State → Unit → (clock : ℕ) → ℕ
place s u clock = (page.entry s u clock).answer

-- the tag and the words of record i, and its use
abbrev pub name_in : State → (i : ℕ) → Name
name_in s i = name_at s.rows i

abbrev pub use_in : State → (i : ℕ) → Use
use_in s i = use_of s.rows i

-- questions 3 and 4 are answered yes; the unit is not overflow; it has a record in the part of its table, or there is room for one
pub record Tracked (s : State) (u : Unit) : Type 0 where
  pub head : page.head_whole s.head s.rows.offsets ≡ true
  pub memory : page.memory_whole s ≡ true
  pub own : is_overflow u ≡ false
  pub found_or_added : Has s.rows u ⊎ (s.head.tracked < s.head.unit_room)

-- from s to t the one record used is the unit's: it has its name, its use is `next` of the use found there; every other, and overflow's, is as in s. A record found leaves the others in their
-- places; one added leaves those before it, and those behind it are one place up. A record that is as it was has its tag and its slot, and its rows where each slot is named once (`Stays`)
pub record Uses (s : State) (u : Unit) (clock : ℕ) (next : Use → Use) (t : State) : Type 0 where
  pub named : name_in t (place s u clock) ≡ name_of u
  pub put_back : t.rows ≡ (page.put_back (entered s u clock) (place s u clock) (next (use_in (entered s u clock) (place s u clock)))).rows
  pub others : Has s.rows u → (j : ℕ) → j < s.head.tracked → (j ≡ place s u clock → ⊥) → Stays s.rows t.rows s.head.tracked j j
  pub before : (Has s.rows u → ⊥) → (j : ℕ) → j < place s u clock → Stays s.rows t.rows s.head.tracked j j
  pub behind : (Has s.rows u → ⊥) → (j : ℕ) → place s u clock ≤ j → j < s.head.tracked → Stays s.rows t.rows s.head.tracked j (j + 1)
  -- the places of the index behind the entries then in use are as they were, and so are the rows of each slot but the record's
  pub beyond : Has s.rows u → (j : ℕ) → s.head.tracked ≤ j → entry_at t.rows j ≡ entry_at s.rows j
  pub beyond_added : (Has s.rows u → ⊥) → (j : ℕ) → s.head.tracked < j → entry_at t.rows j ≡ entry_at s.rows j
  pub rows : (slot : ℕ) → (slot ≡ slot_at t.rows (place s u clock) → ⊥) → SameRows s.rows t.rows slot
  pub overflow : t.head.overflow ≡ s.head.overflow

pub record Named : Type 0 where
  -- just found or just added: the record is in use, and has the unit's name
  pub in_use : (s : State) (u : Unit) (clock : ℕ) → Tracked s u → place s u clock < (entered s u clock).head.tracked
  pub named : (s : State) (u : Unit) (clock : ℕ) → Tracked s u → name_in (entered s u clock) (place s u clock) ≡ name_of u
  -- a judgement: the verdict is that on this record's use, ranked by the unit
  pub verdict : (s : State) (u : Unit) (cost : List Float) (clock : ℕ) → Tracked s u
      → (page.judged s u cost clock).answer ≡ (page.outcome s.head.flow s.head.level (use_in (entered s u clock) (place s u clock)) (rank u) cost clock).verdict
  pub judged : (s : State) (u : Unit) (cost : List Float) (clock : ℕ) → Tracked s u
      → Uses s u clock (λ (x : Use). (page.outcome s.head.flow s.head.level x (rank u) cost clock).used) (page.judged s u cost clock).state
  -- a cut that hands back
  pub handed_back : (s : State) (u : Unit) (cost : List Float) → Tracked s u → Uses s u s.head.flow.at_ms (λ (x : Use). flow.handed_back x cost) (page.handed_back s u cost)
