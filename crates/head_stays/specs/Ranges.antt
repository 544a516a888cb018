-- No call leaves a trim outside 0.5 to 1 or a level below 1: a start sets them so, a judgement keeps them so, a cut and new rates leave them. Statement only.
use Rattle.std.specs.Prelude.{ℕ, ◌≡◌, true, List}
use Rattle.sender.specs.declared.Unit as unit
use Rattle.store.specs.Store.{Rows}
use Rattle.store.specs.Held.{sizes_of}
use Rattle.wants.specs.Wants.{Hist}
use Rattle.head.specs.declared.Shedder.{Shedder}
use Rattle.store.specs.declared.Cause.{Cause}
use Rattle.head.specs.Questions.{head_whole, start_asked}
use Rattle.head.specs.Start.{start}
use Rattle.scan_trim.specs.Laws.{Trims, Levels}
use Rattle.judge.specs.Judging.{Memory, judge}
use Rattle.cut.specs.Cutting.{cut}
use Rattle.rates.specs.Rates.{set_rates}

pub record InRange (h : Shedder) : Type 0 where
  pub trims : Trims h.scan.trim
  pub levels : Levels h.level

pub record Ranges : Type 0 where
  pub start : (h : Shedder) (m : Rows) (k : List (List ℕ)) (g : Hist) (rate ceiling : List ℕ) → start_asked rate (sizes_of m k) ≡ 0 → InRange (start h m k g rate ceiling).head
  pub judge : (h : Shedder) (m : Memory) (u : unit.Unit) (cost : List ℕ) (stamp : ℕ) → head_whole h ≡ true → InRange h → InRange (judge h m u cost stamp).head
  pub cut : (h : Shedder) (m : Rows) (k : List (List ℕ)) (u : unit.Unit) (c : Cause) (cost : List ℕ) → InRange h → InRange (cut h m k u c cost).head
  pub rates : (h : Shedder) (m : Rows) (k : List (List ℕ)) (rate ceiling : List ℕ) (stamp : ℕ) → InRange h → InRange (set_rates h m k rate ceiling stamp).head
