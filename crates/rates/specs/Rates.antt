-- New rates for a running relay. Definitions only.
use Rattle.std.specs.Prelude.{ℕ, ◌-◌, max, cond, List, eqb, ⊤, Result, Ok}
use Rattle.flow.specs.Flow as flow
use Rattle.store.specs.Store.{Rows}
use Rattle.store.specs.Held.{sizes_of}
use Rattle.head.specs.declared.Flow.{Flow}
use Rattle.head.specs.declared.Shedder.{Shedder}
use Rattle.head.specs.declared.Refusal.{Refusal}
use Rattle.head.specs.Answers.{refused}
use Rattle.head.specs.Headed.{headed}
use Rattle.head.specs.Questions.{rates_asked}
use Rattle.rates.specs.declared.Changing.{Changing}

-- refilled to the clock at the rates before, as a judgement does, and turned to the new ones: the burst and the rate per millisecond as at a start, of
-- the tokens no more than the burst
unfoldable pub turned : Flow → List ℕ → List ℕ → ℕ → Flow
turned f rate ceiling clock = record {
  rate = rate;
  ceiling = ceiling;
  buckets = flow.turned_all (flow.refilled_all f.buckets (clock - f.at_ms)) rate ceiling;
  at_ms = clock;
  admitted = f.admitted;
}

-- an answer and the head; no lent memory is written
pub record Changed : Type 0 where
  pub answer : Result ⊤ Refusal
  pub head : Shedder

abbrev pub changing : Changing → Changed
changing c = record { answer = c.answer; head = c.head }

abbrev pub change_ends : Result ⊤ Refusal → Shedder → Changed
change_ends a h = record { answer = a; head = h }

-- THE CALL: the first question answered no gives its number and nothing changes; else the clock is the later of stamp and clock, the flow is turned, and
-- the rest of the head is as it was
unfoldable pub set_rates : Shedder → Rows → List (List ℕ) → List ℕ → List ℕ → ℕ → Changed
set_rates h m k rate ceiling stamp =
    cond (eqb (rates_asked h (sizes_of m k) m.offsets rate stamp) 0)
    (change_ends (Ok tt) (headed h (turned h.flow rate ceiling (max stamp h.flow.at_ms)) h.overflow h.tracked))
    (change_ends (refused (rates_asked h (sizes_of m k) m.offsets rate stamp)) h)
