-- The head stays whole, and its offsets: after a start, a judgement, a cut or new rates, refused or not, question 3 would be answered yes again, whatever bits the memory holds.
-- There are always 65 offsets, since they are lent as an array of that length; so it is assumed of them. Statement only.
use Rattle.std.specs.Prelude.{ℕ, ◌+◌, ◌≡◌, true, List, length}
use Rattle.sender.specs.declared.Unit as unit
use Rattle.shifting.specs.Offsets.{«PARTS»}
use Rattle.store.specs.Store.{Rows}
use Rattle.store.specs.Held.{sizes_of}
use Rattle.wants.specs.Wants.{Hist}
use Rattle.head.specs.declared.Shedder.{Shedder}
use Rattle.store.specs.declared.Cause.{Cause}
use Rattle.head.specs.Questions.{head_whole, whole_with, start_asked}
use Rattle.head.specs.Start.{Beginning, start}
use Rattle.judge.specs.Judging.{Memory, Judged, judge}
use Rattle.cut.specs.Cutting.{Cut, cut}
use Rattle.rates.specs.Rates.{Changed, set_rates}

-- there are so many offsets
abbrev pub Long : Rows → Type 0
Long m = length m.offsets ≡ «PARTS» + 1

-- question 3 of what a call leaves
abbrev pub begun_whole : Beginning → Type 0
begun_whole b = whole_with b.head b.rows.offsets ≡ true

abbrev pub judged_whole : Judged → Type 0
judged_whole j = whole_with j.head j.memory.rows.offsets ≡ true

abbrev pub cut_whole : Cut → Type 0
cut_whole c = whole_with c.head c.rows.offsets ≡ true

-- new rates write no lent memory
abbrev pub changed_whole : Rows → Changed → Type 0
changed_whole m c = whole_with c.head m.offsets ≡ true

pub record Stays : Type 0 where
  pub start_whole : (h : Shedder) (m : Rows) (k : List (List ℕ)) (g : Hist) (rate ceiling : List ℕ) → start_asked rate (sizes_of m k) ≡ 0 → begun_whole (start h m k g rate ceiling)
  pub start_keeps : (h : Shedder) (m : Rows) (k : List (List ℕ)) (g : Hist) (rate ceiling : List ℕ) → whole_with h m.offsets ≡ true → begun_whole (start h m k g rate ceiling)
  pub judge_keeps : (h : Shedder) (m : Memory) (u : unit.Unit) (cost : List ℕ) (stamp : ℕ) → Long m.rows → whole_with h m.rows.offsets ≡ true → judged_whole (judge h m u cost stamp)
  pub cut_keeps : (h : Shedder) (m : Rows) (k : List (List ℕ)) (u : unit.Unit) (c : Cause) (cost : List ℕ) → Long m → whole_with h m.offsets ≡ true → cut_whole (cut h m k u c cost)
  pub rates_keeps : (h : Shedder) (m : Rows) (k : List (List ℕ)) (rate ceiling : List ℕ) (stamp : ℕ) → whole_with h m.offsets ≡ true → changed_whole m (set_rates h m k rate ceiling stamp)

-- The head by itself, also where the offsets lent beside it are not whole for it, or are of another number.
pub record HeadStays : Type 0 where
  pub start_keeps : (h : Shedder) (m : Rows) (k : List (List ℕ)) (g : Hist) (rate ceiling : List ℕ) → head_whole h ≡ true → head_whole (start h m k g rate ceiling).head ≡ true
  pub judge_keeps : (h : Shedder) (m : Memory) (u : unit.Unit) (cost : List ℕ) (stamp : ℕ) → head_whole h ≡ true → head_whole (judge h m u cost stamp).head ≡ true
  pub cut_keeps : (h : Shedder) (m : Rows) (k : List (List ℕ)) (u : unit.Unit) (c : Cause) (cost : List ℕ) → head_whole h ≡ true → head_whole (cut h m k u c cost).head ≡ true
  pub rates_keeps : (h : Shedder) (m : Rows) (k : List (List ℕ)) (rate ceiling : List ℕ) (stamp : ℕ) → head_whole h ≡ true → head_whole (set_rates h m k rate ceiling stamp).head ≡ true
