-- The page says what the contracts of the program say: each call's definition there, on head and memory, is the page's on the state of both. Statement only; proofs/Agrees proves it.
use Rattle.std.specs.Prelude.{ℕ, ◌≡◌, List, length}
use Rattle.wants.specs.Wants.{Hist}
use Rattle.head.specs.Start as starts
use Rattle.head.specs.Readings as readings
use Rattle.judge.specs.Judging as judging
use Rattle.judge.specs.Judging.{Memory}
use Rattle.cut.specs.Cutting as cutting
use Rattle.rates.specs.Rates as rates
use Rattle.report.specs.Report as reports
use Rattle.meaning.specs.State.{State, After, after, Shedder, Unit, Cause, Dim, Begin, Answer, Done}
use Rattle.meaning.specs.Page as page

abbrev pub of : Shedder → Memory → State
of h m = record { head = h; rows = m.rows; hist = m.hist; counted = m.counted }

-- what the contracts' definitions leave, as a state; what a call does not write stays
abbrev pub started : Memory → starts.Beginning → After Begin
started m b = after b.answer (record { head = b.head; rows = b.rows; hist = b.hist; counted = m.counted })

abbrev pub judged : judging.Judged → After Answer
judged j = after j.answer (of j.head j.memory)

abbrev pub cut : Hist → cutting.Cut → After Done
cut g c = after c.answer (record { head = c.head; rows = c.rows; hist = g; counted = c.counted })

abbrev pub changed : Memory → rates.Changed → After Done
changed m c = after c.answer (of c.head m)

abbrev pub start_with : Shedder → Memory → (rate ceiling : List ℕ) → starts.Beginning
start_with h m rate ceiling = starts.start h m.rows m.counted m.hist rate ceiling

abbrev pub report_with : Shedder → Memory → (out : List ℕ) → reports.Ends
report_with h m out = reports.report h m.rows m.counted out

abbrev pub front_with : Shedder → Memory → (room : ℕ) → List ℕ
front_with h m room = reports.front h m.rows m.counted room

abbrev pub asked_with : Shedder → Memory → (room : ℕ) → ℕ
asked_with h m room = reports.report_asked h m.rows m.counted room

pub record Agrees : Type 0 where
  pub start_is : (h : Shedder) (m : Memory) (rate ceiling : List ℕ) → page.start (of h m) rate ceiling ≡ started m (start_with h m rate ceiling)
  pub judge_is : (h : Shedder) (m : Memory) (u : Unit) (cost : List ℕ) (stamp : ℕ) → page.judge (of h m) u cost stamp ≡ judged (judging.judge h m u cost stamp)
  pub rule_is : (h : Shedder) (m : Memory) (u : Unit) (cost : List ℕ) (stamp : ℕ) → page.judge_rule (of h m) u cost stamp ≡ judging.ruling h m u cost stamp
  pub cut_is : (h : Shedder) (m : Memory) (u : Unit) (c : Cause) (cost : List ℕ) → page.cut (of h m) u c cost ≡ cut m.hist (cutting.cut h m.rows m.counted u c cost)
  pub rates_is : (h : Shedder) (m : Memory) (rate ceiling : List ℕ) (stamp : ℕ)
      → page.set_rates (of h m) rate ceiling stamp ≡ changed m (rates.set_rates h m.rows m.counted rate ceiling stamp)
  pub report_is : (h : Shedder) (m : Memory) (out : List ℕ) → reports.ends (page.report (of h m) out).answer (page.report (of h m) out).out ≡ report_with h m out
  pub front_is : (h : Shedder) (m : Memory) (out : List ℕ) → (page.report (of h m) out).front ≡ front_with h m (length out)
  pub refusal_is : (h : Shedder) (m : Memory) (out : List ℕ) → page.report_refusal (of h m) out ≡ asked_with h m (length out)
  pub visited_is : (h : Shedder) (os : List ℕ) → page.visited h os ≡ readings.visited h os
  pub batches_is : (h : Shedder) (os : List ℕ) (c : Cause) → page.cut_batches h os c ≡ readings.cut_batches h os c
  pub level_is : (h : Shedder) (os : List ℕ) (d : Dim) → page.level h os d ≡ readings.level_read h os d
  pub rate_is : (h : Shedder) (os : List ℕ) (d : Dim) → page.rate h os d ≡ readings.rate_read h os d
  pub bounded_is : (h : Shedder) (os : List ℕ) → page.is_bounded h os ≡ readings.is_bounded h os
