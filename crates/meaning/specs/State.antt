-- What the page is written in: the state that every call works on, a state with one part changed, questions, and notation. Definitions only.
use Rattle.std.specs.Prelude.{ℕ, Bool, cond, List, [], ◌∷◌, eqb, leb, ltb, get_or, replicate, Float, ⊤, Option, Result}
use Rattle.ieee.specs.Doubles.{◌⊘◌, nothing, one}
use Rattle.flow.specs.Flow.{dims, upto, at, zeros, added}
use Rattle.store.specs.Store.{Rows, rows}
use Rattle.wants.specs.Wants.{Hist, hist}
use Rattle.head.specs.Headed.{headed}
use Rattle.scan_trim.specs.Trimming.{scan_then}
-- the types that the program declares
pub use Rattle.flow.specs.declared.Bucket.{Bucket}
pub use Rattle.flow.specs.declared.Use.{Use}
pub use Rattle.verdict.specs.declared.Outcome.{Outcome}
pub use Rattle.verdict.specs.declared.Rule.{Rule}
pub use Rattle.verdict.specs.declared.Verdict.{Verdict}
pub use Rattle.sender.specs.declared.Unit.{Unit}
pub use Rattle.sender.specs.declared.Name.{Name}
pub use Rattle.head.specs.declared.Flow.{Flow}
pub use Rattle.head.specs.declared.Scan.{Scan}
pub use Rattle.head.specs.declared.Shedder.{Shedder}
pub use Rattle.store.specs.declared.Cause.{Cause}
pub use Rattle.flow.specs.declared.Dim.{Dim}
pub use Rattle.head.specs.declared.Refusal.{Refusal}

-- ---- what the calls answer: a start, a judgement and the rule that decided it, a cut, a report, and the readings
abbrev pub Begin : Type 0
Begin = Result ⊤ Refusal

abbrev pub Answer : Type 0
Answer = Result Verdict Refusal

abbrev pub Ruling : Type 0
Ruling = Option Rule

abbrev pub Done : Type 0
Done = Result ⊤ Refusal

abbrev pub Written : Type 0
Written = Result ℕ Refusal

abbrev pub Reading : Type 0
Reading = Result ℕ Refusal

abbrev pub LevelRead : Type 0
LevelRead = Result Float Refusal

abbrev pub RateRead : Type 0
RateRead = Result (Option ℕ) Refusal

abbrev pub BoundedRead : Type 0
BoundedRead = Result Bool Refusal

-- ---- the head, and the lent memory: the unit records as six lists, the histogram of wants, the counted records
pub record State : Type 0 where
  pub head : Shedder
  pub rows : Rows
  pub hist : Hist
  pub counted : List (List ℕ)

-- of a head and the lent lists
abbrev pub state : Shedder → (tags slots offsets free : List ℕ) (units : List (List ℕ)) (uses : List (List Float)) (counts : List (List ℕ)) (sums : List (List Float)) (counted : List (List ℕ)) → State
state h tags slots offsets free units uses counts sums counted = record { head = h; rows = rows tags slots offsets free units uses; hist = hist counts sums; counted = counted }

-- where the histogram is not lent
abbrev pub state_with : Hist → Shedder → (tags slots offsets free : List ℕ) (units : List (List ℕ)) (uses : List (List Float)) (counted : List (List ℕ)) → State
state_with g h tags slots offsets free units uses counted = record { head = h; rows = rows tags slots offsets free units uses; hist = g; counted = counted }

-- what a call or a step answers, and the state after it
pub record After (A : Type 0) : Type 0 where
  pub answer : A
  pub state : State

abbrev pub after : {A : Type 0} → A → State → After A
after a s = record { answer = a; state = s }

-- with another answer made of it, as a number
abbrev pub told_as : {A B : Type 0} → (A → B) → After A → After B
told_as f x = after (f x.answer) x.state

-- ---- a state with one part changed
abbrev pub with_head : State → Shedder → State
with_head s h = record { head = h; rows = s.rows; hist = s.hist; counted = s.counted }

abbrev pub with_rows : State → Rows → State
with_rows s m = record { head = s.head; rows = m; hist = s.hist; counted = s.counted }

abbrev pub with_hist : State → Hist → State
with_hist s g = record { head = s.head; rows = s.rows; hist = g; counted = s.counted }

abbrev pub with_flow : State → Flow → State
with_flow s f = with_head s (headed s.head f s.head.overflow s.head.tracked)

abbrev pub with_overflow : State → Use → State
with_overflow s u = with_head s (headed s.head s.head.flow u s.head.tracked)

abbrev pub with_tracked : State → ℕ → State
with_tracked s n = with_head s (headed s.head s.head.flow s.head.overflow n)

abbrev pub with_visit : State → Scan → (tracked visits : ℕ) → State
with_visit s scan tracked visits = with_head s (scan_then s.head scan tracked visits s.head.level)

abbrev pub with_level : State → Scan → (level : List Float) → State
with_level s scan level = with_head s (scan_then s.head scan s.head.tracked s.head.visits level)

-- a scan at another table, and one that was read; a flow and a bucket after a batch
abbrev pub scan_at : Scan → (remaining next at began : ℕ) → Scan
scan_at scan remaining next at began = record {
  remaining = remaining;
  next = next;
  at_ms = at;
  began_ms = began;
  trim = scan.trim;
  «open» = scan.«open»;
  read_ms = scan.read_ms;
  read_admitted = scan.read_admitted;
}

abbrev pub scan_read : Scan → («open» trim : List Float) (at : ℕ) (admitted : List Float) → Scan
scan_read scan «open» trim at admitted = record {
  remaining = scan.remaining;
  next = scan.next;
  at_ms = scan.at_ms;
  began_ms = scan.began_ms;
  trim = trim;
  «open» = «open»;
  read_ms = at;
  read_admitted = admitted;
}

abbrev pub flow_at : Flow → List Bucket → (at : ℕ) (admitted : List Float) → Flow
flow_at f buckets at admitted = record { rate = f.rate; ceiling = f.ceiling; buckets = buckets; at_ms = at; admitted = admitted }

abbrev pub with_tokens : Bucket → Float → Bucket
with_tokens b t = record { tokens = t; burst = b.burst; rate_per_ms = b.rate_per_ms }

-- ---- as a start leaves it: no scan, no cut, no record; the trim is 1, the level found infinite
abbrev pub new_head : Flow → (level : List Float) (units counted : ℕ) → Shedder
new_head flow level units counted = record {
  flow = flow;
  overflow = added 0;
  scan = record {
    remaining = 0;
    next = 0;
    at_ms = 0;
    began_ms = 0;
    trim = replicate dims one;
    «open» = replicate dims (one ⊘ nothing);
    read_ms = 0;
    read_admitted = zeros;
  };
  visits = 0;
  level = level;
  batches = replicate 3 0;
  receptions = replicate 3 0;
  tracked = 0;
  counted = 0;
  unit_room = units;
  counted_room = counted;
}

abbrev pub no_buckets : List Bucket
no_buckets = replicate dims (record { tokens = nothing; burst = nothing; rate_per_ms = nothing })

-- ---- questions: number and answer. The first answered no refuses by its number; where there is none, the result
abbrev pub ask : {A : Type 0} → List (ℕ × Bool) → (ℕ → A) → A → A
ask [] refused result = result
ask (q ∷ qs) refused result = cond q.1 (ask qs refused result) (refused q.0)

-- ---- tests on whole numbers
infix 50 ◌<=?◌ ◌<?◌ ◌=?◌
abbrev pub ◌<=?◌ : ℕ → ℕ → Bool
a <=? b = leb a b

abbrev pub ◌<?◌ : ℕ → ℕ → Bool
a <? b = ltb a b

abbrev pub ◌=?◌ : ℕ → ℕ → Bool
a =? b = eqb a b

-- ---- the dimensions: a part of doubles, of whole numbers; a list made part by part, a list with each part anew
infixl 90 ◌!◌ ◌#◌
abbrev pub ◌!◌ : List Float → ℕ → Float
xs ! d = at xs d

abbrev pub ◌#◌ : List ℕ → ℕ → ℕ
xs # d = get_or xs d 0

abbrev pub parts : (ℕ → Float) → List Float
parts f = upto f dims zeros

abbrev pub each : {A : Type 0} → List A → (ℕ → A) → List A
each xs f = upto f dims xs
