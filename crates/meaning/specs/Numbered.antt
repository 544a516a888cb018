-- The numbers that a call can answer: those of its questions, and 0 where it is not refused. No call answers 9. Statement only; proofs/Numbered proves it.
use Rattle.std.specs.Prelude.{ℕ, ◌≡◌, Bool, true, false, ◌||◌, List, [], ◌∷◌}
use Rattle.head.specs.Answers.{start_number, judge_number, cut_number, rates_number, reading_number, level_number, rate_number, bounded_number, written_number}
use Rattle.meaning.specs.State.{State, Shedder, Unit, Cause, Dim, ◌=?◌}
use Rattle.meaning.specs.Page as page

unfoldable pub among : ℕ → List ℕ → Bool
among n [] = false
among n (x ∷ xs) = n =? x || among n xs

pub record Numbered : Type 0 where
  pub start : (s : State) (rate ceiling : List ℕ) → among (start_number (page.start s rate ceiling).answer) (0 ∷ 1 ∷ 2 ∷ []) ≡ true
  pub judge : (s : State) (u : Unit) (cost : List ℕ) (stamp : ℕ) → among (judge_number (page.judge s u cost stamp).answer) (0 ∷ 3 ∷ 4 ∷ 5 ∷ 6 ∷ []) ≡ true
  pub cut : (s : State) (u : Unit) (c : Cause) (cost : List ℕ) → among (cut_number (page.cut s u c cost).answer) (0 ∷ 3 ∷ 4 ∷ 5 ∷ []) ≡ true
  pub set_rates : (s : State) (rate ceiling : List ℕ) (stamp : ℕ) → among (rates_number (page.set_rates s rate ceiling stamp).answer) (0 ∷ 3 ∷ 4 ∷ 1 ∷ 6 ∷ 10 ∷ []) ≡ true
  pub report : (s : State) (out : List ℕ) → among (written_number (page.report s out).answer) (0 ∷ 3 ∷ 4 ∷ 7 ∷ []) ≡ true
  pub report_refusal : (s : State) (out : List ℕ) → among (page.report_refusal s out) (0 ∷ 3 ∷ 4 ∷ 7 ∷ []) ≡ true
  pub visited : (h : Shedder) (os : List ℕ) → among (reading_number (page.visited h os)) (0 ∷ 3 ∷ []) ≡ true
  pub cut_batches : (h : Shedder) (os : List ℕ) (c : Cause) → among (reading_number (page.cut_batches h os c)) (0 ∷ 3 ∷ []) ≡ true
  pub level : (h : Shedder) (os : List ℕ) (d : Dim) → among (level_number (page.level h os d)) (0 ∷ 3 ∷ []) ≡ true
  pub rate : (h : Shedder) (os : List ℕ) (d : Dim) → among (rate_number (page.rate h os d)) (0 ∷ 3 ∷ []) ≡ true
  pub is_bounded : (h : Shedder) (os : List ℕ) → among (bounded_number (page.is_bounded h os)) (0 ∷ 3 ∷ []) ≡ true
