-- Demand 3, in terms of the real calls: every list of calls on one shedder's head and memory, from a start at bounded rates on. Definitions, and the statement.
-- It says in exact terms what document 01 asks of a list of calls (its section on the verdict). All quantities come from the definitions that the contracts cite (`judge`, `cut`, `set_rates` and what
-- they are made of), and nothing out of the program. Crate meaning's page says the same of each call: meaning/proofs/Agrees proves them equal.
use Rattle.std.specs.Prelude.{ℕ, suc, ◌+◌, ◌-◌, ◌*◌, ◌≤◌, ◌<◌, max, ◌≡◌, Bool, true, false, cond, ◌&&◌, List, [], ◌∷◌, T, eqb, ltb, length, get_or, is_some, Float, Result, Ok, Err}
use Rattle.std.specs.Float.Ieee as Ieee
use Rattle.std.specs.Float.Ieee.Exact.{HasValue}
use Rattle.ieee.specs.Doubles.{◌⊴◌, ◌⊲◌, one, nothing}
use Rattle.ieee.specs.Units.{power, units}
use Rattle.verdict.specs.Verdict as verdicts
use Rattle.verdict.specs.declared.Verdict.{Verdict}
use Rattle.verdict.specs.declared.Verdict.TheVariants as verdict
use Rattle.flow.specs.Flow.{dims, at, is_fresh}
use Rattle.flow.specs.declared.Use.{Use}
use Rattle.sender.specs.declared.Unit as unit
use Rattle.sender.specs.declared.Name.{Name}
use Rattle.sender.specs.Sender as sender
use Rattle.store.specs.Store as store
use Rattle.store.specs.Held.{sizes_of}
use Rattle.head.specs.declared.Shedder.{Shedder}
use Rattle.head.specs.declared.Refusal.{Refusal}
use Rattle.store.specs.declared.Cause.{Cause}
use Rattle.store.specs.declared.Cause.TheVariants as cause
use Rattle.flow.specs.declared.Dim.{Dim}
use Rattle.report.specs.Report.{report_asked}
use Rattle.fair.specs.Given as shed
use Rattle.fair.specs.Given.{Memory, memory}
use Rattle.fair.specs.Runs.{sum, highest, lowest, Since, clock, back}
use Rattle.fair.specs.Bounds.{most_depth, least_depth, parts}
use Rattle.fair.specs.Tokens.{burst}

-- ---- calls
-- what may be called of a shedder
pub data Reading : Type 0 where
  -- a report into a buffer of any bytes, and the call beside it
  Report : List ℕ → Reading
  ReportBeside : List ℕ → Reading
  -- the batches cut for a cause, the tables visited, a level, a rate, whether the relay is bounded
  Count : Cause → Reading
  Visited : Reading
  Level : Dim → Reading
  Rate : Dim → Reading
  IsBounded : Reading

pub data Call : Type 0 where
  -- the unit, the cost in each dimension, and the stamp
  Judge : unit.Unit → List ℕ → ℕ → Call
  -- the unit, the cause, and the cost in each dimension
  Cut : unit.Unit → Cause → List ℕ → Call
  -- new rates: the rate and the ceiling in each dimension, and the stamp
  Rates : List ℕ → List ℕ → ℕ → Call
  -- a call that only reads
  Read : Reading → Call

-- head and memory
pub record State : Type 0 where
  pub head : Shedder
  pub memory : Memory

abbrev pub state_of : Shedder → Memory → State
state_of h m = record { head = h; memory = m }

-- ---- refusals by number
-- of a report: the number that its contract and that of the call beside it cite
abbrev pub report_number : State → List ℕ → ℕ
report_number s out =
    report_asked s.head s.memory.rows s.memory.counted (length out)

abbrev pub judges : State → unit.Unit → List ℕ → ℕ → shed.Judged
judges s u cost t = shed.judge s.head s.memory u cost t

abbrev pub cuts : State → unit.Unit → Cause → List ℕ → shed.Cut
cuts s u c cost = shed.cut s.head s.memory.rows s.memory.counted u c cost

abbrev pub changes : State → List ℕ → List ℕ → ℕ → shed.Changed
changes s rate ceiling t = shed.set_rates s.head s.memory.rows s.memory.counted rate ceiling t

-- of any call: 0 where it is not refused
abbrev pub read_number : State → Reading → ℕ
read_number s (Report out) = report_number s out
read_number s (ReportBeside out) = report_number s out
read_number s (Count c) = shed.reading_number (shed.cut_batches s.head s.memory.rows.offsets c)
read_number s Visited = shed.reading_number (shed.visited_tables s.head s.memory.rows.offsets)
read_number s (Level d) = shed.level_number (shed.level_read s.head s.memory.rows.offsets d)
read_number s (Rate d) = shed.rate_number (shed.rate_read s.head s.memory.rows.offsets d)
read_number s IsBounded = shed.bounded_number (shed.is_bounded s.head s.memory.rows.offsets)

abbrev pub number : State → Call → ℕ
number s (Judge u cost t) = shed.judge_number (judges s u cost t).answer
number s (Cut u c cost) = shed.cut_number (cuts s u c cost).answer
number s (Rates rate ceiling t) = shed.rates_number (changes s rate ceiling t).answer
number s (Read q) = read_number s q

abbrev pub refused : State → Call → Bool
refused s c = ltb 0 (number s c)

-- ---- one step: what a call leaves, refused or not; new rates leave the memory as it was, a report or a reading head and memory
abbrev pub step : State → Call → State
step s (Judge u cost t) = state_of (judges s u cost t).head (judges s u cost t).memory
step s (Cut u c cost) = state_of (cuts s u c cost).head (memory (cuts s u c cost).rows s.memory.hist (cuts s u c cost).counted)
step s (Rates rate ceiling t) = state_of (changes s rate ceiling t).head s.memory
step s (Read q) = s

-- ---- the list
-- a call that was not refused by number, with the head and memory that it got
pub record Event : Type 0 where
  pub before : State
  pub call : Call

abbrev pub event : State → Call → Event
event s c = record { before = s; call = c }

abbrev pub after : Event → State
after e = step e.before e.call

module _ (first : State) where
  -- each call gets what the call before left, refused or not; the newest call stands first
  unfoldable pub state : List Call → State
  state [] = first
  state (c ∷ h) = step (state h) c

  -- a refused call stands in the list and is none of these: the calls that were taken, the newest first. A run of n = suc k calls is the newest n of them (all, where there are fewer: the bounds then
  -- hold all the more). What is said holds of every list h, so of the runs further back too: each is the newest of the list that ends with it.
  unfoldable pub events : List Call → List Event
  events [] = []
  events (c ∷ h) = cond (refused (state h) c) (events h) (event (state h) c ∷ events h)

-- what a call amounts to, as a function of an event
abbrev pub by : {A : Type 0} → (State → Call → A) → Event → List Event → A
by f e es = f e.before e.call

-- the clock goes by the stamps of the calls taken: the highest of them, and 0 at first
abbrev pub stamp_of : Call → ℕ
stamp_of (Judge u cost t) = t
stamp_of (Cut u c cost) = 0
stamp_of (Rates rate ceiling t) = t
stamp_of (Read q) = 0

abbrev pub stamp : Event → ℕ
stamp e = stamp_of e.call

-- T of the run of suc k calls, in milliseconds: how far the clock moved behind its first call
abbrev pub span : List Event → ℕ → ℕ
span es k = clock stamp es - clock stamp (back k es)

-- ---- records
-- overflow's record, or a sender's, named by its unit: dropped and added again it is the same
pub data Key : Type 0 where
  shared : Key
  own : unit.Unit → Key

-- the same unit: tag and words
abbrev pub same_name : Name → Name → Bool
same_name v w = eqb w.tag v.tag && store.same w.words v.words

abbrev pub same_key : Key → Key → Bool
same_key shared shared = true
same_key shared (own v) = false
same_key (own u) shared = false
same_key (own u) (own v) = same_name (sender.name_of u) (sender.name_of v)

-- the record that a call uses: found, added, or overflow's
abbrev pub entry : State → unit.Unit → ℕ → shed.Entered
entry s u clock = shed.entry s.memory.rows s.head.tracked s.head.unit_room u clock

abbrev pub key_at : Bool → unit.Unit → Key
key_at true u = own u
key_at false u = shared

abbrev pub key : State → unit.Unit → ℕ → Key
key s u clock = key_at (ltb (entry s u clock).place.at s.head.unit_room) u

-- the clock that a judgement stamped t goes by
abbrev pub clock_at : State → ℕ → ℕ
clock_at s t = max t s.head.flow.at_ms

-- the use that a judgement finds there
abbrev pub used : State → unit.Unit → ℕ → Use
used s u clock = shed.used_at (entry s u clock).rows s.head.overflow (entry s u clock).place.at

-- the fill in each dimension, and how many times the level the sender wants
abbrev pub fills : State → List Float
fills s = shed.fills s.head.level (shed.numbers s.head.flow.rate)

abbrev pub want_of : Use → ℕ → List Float → List Float → List Float → Float
want_of u clock cost fill level =
    verdicts.want (verdicts.weight_of (is_fresh u.fresh) (clock - u.at_ms)) (verdicts.met u clock fill cost).attempted cost level

abbrev pub want : State → unit.Unit → List ℕ → ℕ → Float
want s u cost t = want_of (used s u (clock_at s t)) (clock_at s t) (shed.numbers cost) (fills s) s.head.level

-- ---- what is counted
abbrev pub if_admitted : Result Verdict Refusal → ℕ → ℕ
if_admitted (Ok verdict.Admitted) c = c
if_admitted (Ok verdict.OverShare) c = 0
if_admitted (Ok verdict.RelayRate) c = 0
if_admitted (Err r) c = 0

abbrev pub if_ceiling : Cause → ℕ → ℕ
if_ceiling cause.ReceiverCeiling c = c
if_ceiling cause.OverShare c = 0
if_ceiling cause.RelayRate c = 0

-- the cost of a judgement answered with admission
abbrev pub admitted : ℕ → State → Call → ℕ
admitted d s (Judge u cost t) = if_admitted (judges s u cost t).answer (get_or cost d 0)
admitted d s (Cut u c cost) = 0
admitted d s (Rates rate ceiling t) = 0
admitted d s (Read q) = 0

-- a hand-back: the whole cost of a cut for the receiver's ceiling
abbrev pub handed : ℕ → State → Call → ℕ
handed d s (Judge u cost t) = 0
handed d s (Cut u c cost) = if_ceiling c (get_or cost d 0)
handed d s (Rates rate ceiling t) = 0
handed d s (Read q) = 0

-- ---- what the rates allow
-- the gap before a call counts at the rate that was running before it; a run has no gap before its first call
abbrev pub carried : ℕ → Event → List Event → ℕ
carried d e es = get_or e.before.head.flow.rate d 0 * (clock stamp (e ∷ es) - clock stamp es)

-- the burst of the rate and the ceiling in force after a call
abbrev pub burst_after : ℕ → State → Call → ℕ
burst_after d s c = burst (get_or (step s c).head.flow.rate d 0) (get_or (step s c).head.flow.ceiling d 0)

-- ---- of one record
module _ (r : Key) where
  abbrev pub admitted_on : ℕ → State → Call → ℕ
  admitted_on d s (Judge u cost t) = cond (same_key r (key s u (clock_at s t))) (if_admitted (judges s u cost t).answer (get_or cost d 0)) 0
  admitted_on d s (Cut u c cost) = 0
  admitted_on d s (Rates rate ceiling t) = 0
  admitted_on d s (Read q) = 0

  -- on the record that the cut uses
  abbrev pub handed_on : ℕ → State → Call → ℕ
  handed_on d s (Judge u cost t) = 0
  handed_on d s (Cut u c cost) = if_ceiling c (cond (same_key r (key s u s.head.flow.at_ms)) (get_or cost d 0) 0)
  handed_on d s (Rates rate ceiling t) = 0
  handed_on d s (Read q) = 0

  -- tried on the record: whoever sent it, whatever was answered
  abbrev pub tried_on : ℕ → State → Call → ℕ
  tried_on d s (Judge u cost t) = cond (same_key r (key s u (clock_at s t))) (get_or cost d 0) 0
  tried_on d s (Cut u c cost) = 0
  tried_on d s (Rates rate ceiling t) = 0
  tried_on d s (Read q) = 0

  -- the fill met at a judgement on the record, at its exact value, in units of 2 ^ -1074; a call that is no judgement of it counts 0
  abbrev pub fill_on : ℕ → State → Call → ℕ
  fill_on d s (Judge u cost t) = cond (same_key r (key s u (clock_at s t))) (units (at (fills s) d)) 0
  fill_on d s (Cut u c cost) = 0
  fill_on d s (Rates rate ceiling t) = 0
  fill_on d s (Read q) = 0

  abbrev pub judged_on : State → Call → Bool
  judged_on s (Judge u cost t) = same_key r (key s u (clock_at s t))
  judged_on s (Cut u c cost) = false
  judged_on s (Rates rate ceiling t) = false
  judged_on s (Read q) = false

-- the record is in the store; overflow's always is
abbrev pub present : Key → State → Bool
present shared s = true
present (own u) s = is_some (shed.find s.memory.rows (sender.name_of u))

abbrev pub present_after : Key → List Event → Bool
present_after r [] = false
present_after r (e ∷ es) = present r (after e)

-- the run of suc k calls begins with a judgement of the present record: it is in the store after each call since
abbrev pub Present : Key → ℕ → List Event → Type 0
Present r k es = Since (by (judged_on r)) (present_after r) k es

-- ---- a double that has a value to count: finite, not negative, and its exact value is `units` of it, over 2 ^ 1074 (the library's `HasValue`: no not-a-number, no infinity, the sign bit clear, and this quotient)
pub record Valued (x : Float) : Type 0 where
  pub finite : x ⊲ Ieee.inf false ≡ true
  pub not_negative : nothing ⊴ x ≡ true
  pub exact : HasValue x false (units x) (power 1074)

-- ---- THE DEMAND, of every list of calls h, every run of n = suc k calls, every dimension, from the state `first` that a start left.
-- In whole numbers: T in milliseconds, fills in units of 2 ^ -1074, all times 256000, which is 1000 * parts, and times 2 ^ 1074 where a fill stands; most_depth and least_depth are 4000 (specs/Bounds)
pub record Demand (first : State) : Type 0 where
  -- admitted cost ≤ the largest burst + over the run's gaps the sum of rate * length + handed back + n / 256. Where no rates change, that is burst + rate * T (specs/Changes)
  pub relay : (h : List Call) (d : ℕ) → d < dims → (k : ℕ)
      → 1000 * parts * sum (by (admitted d)) (suc k) (events first h)
      ≤ 1000 * parts * highest (by (burst_after d)) (suc k) (events first h) + parts * sum (carried d) k (events first h) + 1000 * parts * sum (by (handed d)) (suc k) (events first h) + 1000 * suc k
  -- for each record: admitted cost on it ≤ (4 + T) * its highest fill + its hand-backs + n / 256
  pub share : (r : Key) (h : List Call) (d : ℕ) → d < dims → (k : ℕ)
      → 1000 * parts * sum (by (admitted_on r d)) (suc k) (events first h) * power 1074
      ≤ parts * ((most_depth + span (events first h) k) * highest (by (fill_on r d)) (suc k) (events first h)) + (1000 * parts * sum (by (handed_on r d)) (suc k) (events first h) + 1000 * suc k) * power 1074
  -- a batch whose want is up to 1 is not answered OverShare, if in each dimension and every run from a judgement of its present record r to this batch:
  -- cost tried on r ≤ (4 + T) * the lowest fill of r - n / 256
  pub spared : (h : List Call) (u : unit.Unit) (cost : List ℕ) (t : ℕ)
      → (let s = state first h in
      let r = key s u (clock_at s t) in
      let es = events first (Judge u cost t ∷ h) in
      refused s (Judge u cost t) ≡ false
      → T (want s u cost t ⊴ one)
      → ((d : ℕ) → d < dims → (k : ℕ) → Present r k es
      → (1000 * parts * sum (by (tried_on r d)) (suc k) es + 1000 * suc k) * power 1074 ≤ parts * ((least_depth + span es k) * lowest (by (judged_on r)) (by (fill_on r d)) k es))
      → (judges s u cost t).answer ≡ Ok verdict.OverShare
      → ⊥)
  -- whatever calls were made, each fill has an exact value
  pub fill : (h : List Call) (d : ℕ) → d < dims → Valued (at (fills (state first h)) d)

-- ---- AND IT LASTS: no list of calls leaves head or memory unfit, so questions 3 and 4 are never answered no: a judgement is refused by its own cost or stamp alone, a cut by its cost, new rates by
-- themselves (unbounded ones too: the relay is bounded from the start on) or their stamp, a reading never
pub record Lasting (first : State) : Type 0 where
  pub judge : (h : List Call) (u : unit.Unit) (cost : List ℕ) (t : ℕ) → shed.costs_held cost ≡ true → shed.is_stamp t ≡ true → refused (state first h) (Judge u cost t) ≡ false
  pub cut : (h : List Call) (u : unit.Unit) (c : Cause) (cost : List ℕ) → shed.costs_held cost ≡ true → refused (state first h) (Cut u c cost) ≡ false
  pub rates : (h : List Call) (rate ceiling : List ℕ) (t : ℕ) → shed.all_rates rate ≡ true → shed.is_stamp t ≡ true → refused (state first h) (Rates rate ceiling t) ≡ false
  pub head : (h : List Call) → shed.whole_with (state first h).head (state first h).memory.rows.offsets ≡ true
  pub memory : (h : List Call)
      → shed.memory_whole (state first h).head (sizes_of (state first h).memory.rows (state first h).memory.counted) ≡ true

-- what a start leaves: its head, its rows, where no record stands, and the cleared histogram
abbrev pub starts : Shedder → Memory → List ℕ → List ℕ → shed.Beginning
starts was m rate ceiling = shed.start was m.rows m.counted m.hist rate ceiling

abbrev pub left : Shedder → Memory → List ℕ → List ℕ → State
left was m rate ceiling = state_of (starts was m rate ceiling).head (memory (starts was m rate ceiling).rows (starts was m rate ceiling).hist m.counted)

-- from what a start at bounded rates left, whatever head and memory were lent to it; another start is the first state of another list
abbrev pub Claim : Type 0
Claim = (was : Shedder) (m : Memory) (rate ceiling : List ℕ) → shed.all_rates rate ≡ true → (starts was m rate ceiling).answer ≡ Ok tt → Demand (left was m rate ceiling)

abbrev pub Lasts : Type 0
Lasts = (was : Shedder) (m : Memory) (rate ceiling : List ℕ) → shed.all_rates rate ≡ true → (starts was m rate ceiling).answer ≡ Ok tt → Lasting (left was m rate ceiling)
