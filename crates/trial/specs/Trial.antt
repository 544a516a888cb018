-- One line of the trial answered: the shedder, its lent memory and the page of answers before and after. Definitions only.
use Rattle.std.specs.Prelude.{ℕ, Bool, true, false, cond, Option, Some, None, List, [], ◌∷◌, eqb, leb, length, replicate, ⊤, Result, Ok, Err}
use Rattle.ieee.specs.Doubles.{nothing}
use Rattle.flow.specs.Flow.{dims, zeros, added}
use Rattle.store.specs.Store.{«CAUSES»}
use Rattle.text.specs.Page.{Page, write}
use Rattle.head.specs.declared.Shedder.{Shedder}
use Rattle.head.specs.declared.Refusal.{Refusal}
use Rattle.judge.specs.Judging.{Memory, memory}
use Rattle.meaning.specs.State as meaning
use Rattle.meaning.specs.State.{After}
use Rattle.meaning.specs.Page as calls
use Rattle.meaning.specs.Agrees.{of}
use Rattle.trial_script.specs.declared.Amounts.{Amounts}
use Rattle.trial_script.specs.declared.StartLine.{StartLine}
use Rattle.trial_script.specs.declared.JudgeLine.{JudgeLine}
use Rattle.trial_script.specs.declared.CutLine.{CutLine}
use Rattle.trial_script.specs.declared.Line as script
use Rattle.trial_script.specs.declared.Line.TheVariants.{Start, Judge, Cut, Report}
use Rattle.trial_script.specs.Script.{line}
use Rattle.trial_script.specs.Answers.{refused_text, begin_text, answer_text, done_text}
use Rattle.trial.specs.declared.Trial as trial

-- the shedder, whether one was started, the lent memory, and the answers so far
pub record State : Type 0 where
  pub head : Shedder
  pub started : Bool
  pub memory : Memory
  pub page : Page

abbrev pub state : trial.Trial → Memory → Page → State
state t m p = record { head = t.head; started = t.is_started; memory = m; page = p }

-- before any start: a head of zeros, which question 3 refuses
abbrev pub no_head : Shedder
no_head = record {
  flow = record {
    rate = replicate dims 0;
    ceiling = replicate dims 0;
    buckets = replicate dims (record { tokens = nothing; burst = nothing; rate_per_ms = nothing });
    at_ms = 0;
    admitted = zeros;
  };
  overflow = added 0;
  scan = record {
    remaining = 0;
    next = 0;
    at_ms = 0;
    began_ms = 0;
    trim = zeros;
    «open» = zeros;
    read_ms = 0;
    read_admitted = zeros;
  };
  visits = 0;
  level = zeros;
  batches = replicate «CAUSES» 0;
  receptions = replicate «CAUSES» 0;
  tracked = 0;
  counted = 0;
  unit_room = 0;
  counted_room = 0;
}

abbrev pub unstarted : trial.Trial
unstarted = record { head = no_head; is_started = false }

-- a number for each dimension
abbrev pub of_dims : Amounts → List ℕ
of_dims a = a.receptions ∷ a.bytes ∷ []

-- a refusal changes nothing but the page
unfoldable pub refused : State → ℕ → State
refused s n = record { head = s.head; started = s.started; memory = s.memory; page = write s.page (refused_text n) }

-- the shedder's state, of which crate meaning speaks
abbrev pub shedder : State → meaning.State
shedder s = of s.head s.memory

-- what a call left, with the text of its answer
abbrev pub left_by : {A : Type 0} → State → Bool → After A → (A → List ℕ) → State
left_by s started x text = record {
  head = x.state.head;
  started = started;
  memory = memory x.state.rows x.state.hist x.state.counted;
  page = write s.page (text x.answer);
}

-- a refused start leaves the shedder that was there, where there was one
unfoldable pub has_begun : Bool → Result ⊤ Refusal → Bool
has_begun was (Ok u) = true
has_begun was (Err r) = was

unfoldable pub start : State → StartLine → State
start s l =
    let b = calls.start (shedder s) (of_dims l.rate) (of_dims l.ceiling) in
    left_by s (has_begun s.started b.answer) b begin_text

-- question 8: no call before a start was taken
unfoldable pub judge : State → JudgeLine → State
judge s l = cond s.started (left_by s true (calls.judge (shedder s) l.unit (of_dims l.cost) l.stamp) answer_text) (refused s 8)

unfoldable pub cut : State → CutLine → State
cut s l = cond s.started (left_by s true (calls.cut (shedder s) l.unit l.cause (of_dims l.cost)) done_text) (refused s 8)

-- the report's buffer has 4,096 bytes
unfoldable pub buffer : List ℕ
buffer = replicate 4096 0

unfoldable pub asked : State → ℕ
asked s = calls.report_refusal (shedder s) buffer

abbrev pub reported : State → State
reported s = record { head = s.head; started = s.started; memory = s.memory; page = write s.page (calls.report (shedder s) buffer).front }

unfoldable pub report : State → State
report s = cond s.started (cond (eqb (asked s) 0) (reported s) (refused s (asked s))) (refused s 8)

unfoldable pub call : State → Option script.Line → State
call s (Some (Start l)) = start s l
call s (Some (Judge l)) = judge s l
call s (Some (Cut l)) = cut s l
call s (Some Report) = report s
call s None = refused s 8

-- THE TRIAL'S STEP: a line of more than 200 bytes is no line
unfoldable pub answer : State → List ℕ → State
answer s bytes = cond (leb (length bytes) 200) (call s (line bytes)) (refused s 8)
