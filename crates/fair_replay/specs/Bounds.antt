-- Demand 3's three claims of one run of a list of calls, for what `replay` returns of it. The statements.
use Rattle.std.specs.Prelude.{◌≡◌, ℕ, suc, ◌+◌, ◌-◌, ◌*◌, ◌<◌, ◌≤◌, Bool, true, T, List, ◌∷◌, slice_index, Ok}
use Rattle.ieee.specs.Doubles.{◌⊴◌, one}
use Rattle.ieee.specs.Units.{power}
use Rattle.flow.specs.Flow.{dims}
use Rattle.sender.specs.declared.Unit as unit
use Rattle.head.specs.declared.Shedder.{Shedder}
use Rattle.head.specs.Questions.{all_rates}
use Rattle.judge.specs.Judging.{Memory}
use Rattle.fair.specs.Calls as calls
use Rattle.fair.specs.Calls.{State, Judge, Event, Key, event, events, by, span, starts, handed, carried, burst_after, handed_on, tried_on, fill_on, judged_on, Present, key, clock_at, want}
use Rattle.fair.specs.Runs.{sum, highest, lowest}
use Rattle.fair_row.specs.Replay.{Run, key_of}

-- the list begins with what a start at these bounded rates left
pub record Begun (rate ceiling : List ℕ) (first : State) : Type 0 where
  pub was : Shedder
  pub memory : Memory
  pub bounded : all_rates rate ≡ true
  pub started : (starts was memory rate ceiling).answer ≡ Ok tt
  pub left : first ≡ calls.left was memory rate ceiling

-- the milliseconds of the clock from the first call of the run to the last (0 where there is none)
abbrev pub lasts : State → Run → ℕ
lasts first x = span (events first x.list) (x.taken - 1)

-- admitted cost ≤ the largest burst + over the run's gaps the sum of rate * length + handed back + n / 256: `total` is what `replay` returned in each dimension, the others are exact
abbrev pub Relay : State → Run → List ℕ → Type 0
Relay first x total = (rate ceiling : List ℕ) → Begun rate ceiling first → (d : ℕ) → d < dims
    → 256000 * slice_index total d
    ≤ 256000 * highest (by (burst_after d)) x.taken (events first x.list) + 256 * sum (carried d) (x.taken - 1) (events first x.list) + 256000 * sum (by (handed d)) x.taken (events first x.list) + 1000 * x.taken

-- on the watched record: admitted cost ≤ (4 + T) * its highest fill + its hand-backs + n / 256, fills in units of 2 ^ -1074; what was handed back and n are exact
abbrev pub Share : unit.Unit → State → Run → List ℕ → Type 0
Share watched first x total = (rate ceiling : List ℕ) → Begun rate ceiling first → (d : ℕ) → d < dims
    → 256000 * slice_index total d * power 1074
    ≤ 256 * ((4000 + lasts first x) * highest (by (fill_on (key_of watched) d)) x.taken (events first x.list))
    + (256000 * sum (by (handed_on (key_of watched) d)) x.taken (events first x.list) + 1000 * x.taken) * power 1074

-- for record r, in each dimension and every run from a judgement of its present record to the newest call of es: cost tried ≤ (4 + T) * the record's lowest fill - n / 256
abbrev pub Within : Key → List Event → Type 0
Within r es = (d : ℕ) → d < dims → (k : ℕ) → Present r k es
    → (256000 * sum (by (tried_on r d)) (suc k) es + 1000 * suc k) * power 1074 ≤ 256 * ((4000 + span es k) * lowest (by (judged_on r)) (by (fill_on r d)) k es)

-- where the last call of the run is told to be a judgement answered over share, its want was above the level, or its record past the condition
abbrev pub Spared : State → Run → Bool → Type 0
Spared first x over = (rate ceiling : List ℕ) → Begun rate ceiling first → over ≡ true
    → (s : State) (u : unit.Unit) (cost : List ℕ) (t : ℕ) (es : List Event) → events first x.list ≡ event s (Judge u cost t) ∷ es
    → T (want s u cost t ⊴ one) → Within (key s u (clock_at s t)) (events first x.list) → ⊥
