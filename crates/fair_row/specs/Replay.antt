-- A list of calls, as the program is given it, and what running it leaves. Definitions only.
use Rattle.std.specs.Prelude.{ℕ, zero, suc, ◌+◌, ◌^◌, ◌%◌, ◌≡◌, Bool, true, false, cond, ◌&&◌, List, [], ◌∷◌, eqb, leb, ltb, length, get_or, slice_index_or, replicate, is_some, Result, Ok, Err}
use Rattle.flow.specs.Flow.{dims, upto}
use Rattle.sender.specs.declared.Unit as unit
use Rattle.sender.specs.Sender as sender
use Rattle.store.specs.Store.{Rows}
use Rattle.parts.specs.Parts.{find}
use Rattle.head.specs.Questions.{whole_with, memory_whole}
use Rattle.store.specs.Held.{sizes_of, lent_rows, read_rows}
use Rattle.wants.specs.Wants.{Hist}
use Rattle.head.specs.declared.Shedder.{Shedder}
use Rattle.verdict.specs.declared.Verdict.{Verdict}
use Rattle.verdict.specs.declared.Verdict.TheVariants as verdict
use Rattle.head.specs.declared.Refusal.{Refusal}
use Rattle.store.specs.declared.Cause.{Cause}
use Rattle.store.specs.declared.Cause.TheVariants as cause
use Rattle.report.specs.Report as reports
use Rattle.judge.specs.Judging as judging
use Rattle.judge.specs.Lending.{lent_memory}
use Rattle.store.specs.declared.lent.Lent.{Lent}
use Rattle.store.specs.declared.lent.LentRead.{LentRead}
use Rattle.wants.specs.declared.Histogram.{Histogram}
use Rattle.head.specs.Bits.{SameButNanBits}
use Rattle.fair.specs.Calls as calls
use Rattle.fair.specs.Calls.{State, Call, Event, Key, Judge, Cut, Rates, Read, Reading, Report, ReportBeside, Count, Visited, Level, Rate, IsBounded, by}
use Rattle.fair.specs.Runs.{sum}
use Rattle.fair_row.specs.declared.Call as given
use Rattle.fair_row.specs.declared.Call.TheVariants as call
use Rattle.fair_row.specs.declared.Reading as asked
use Rattle.fair_row.specs.declared.Reading.TheVariants as reading
use Rattle.fair_row.specs.declared.Turned.{Turned}

-- ---- head and memory, as they are lent to a call
abbrev pub held_lent : Shedder → Lent → Histogram → State
held_lent h l g = calls.state_of h (lent_memory l g)

-- and to one that reads the rows, or writes no histogram
abbrev pub held_rows : Hist → Shedder → Lent → State
held_rows g h l = calls.state_of h (judging.memory (lent_rows l) g l.counted.now)

abbrev pub held_read : Hist → Shedder → LentRead → State
held_read g h l = calls.state_of h (judging.memory (read_rows l) g l.counted.now)

-- ---- the program's calls
-- as those of the theorem, which hold a report's buffer: `page` is that buffer as the call gets it
unfoldable pub reading_of : asked.Reading → List ℕ → Reading
reading_of reading.Report page = Report page
reading_of reading.ReportBeside page = ReportBeside page
reading_of (reading.Count c) page = Count c
reading_of reading.Visited page = Visited
reading_of (reading.Level d) page = Level d
reading_of (reading.Rate d) page = Rate d
reading_of reading.IsBounded page = IsBounded

unfoldable pub call_of : given.Call → List ℕ → Call
call_of (call.Judge u cost t) page = Judge u cost t
call_of (call.Cut u c cost) page = Cut u c cost
call_of (call.Rates rate ceiling t) page = Rates rate ceiling t
call_of (call.Read q) page = Read (reading_of q page)

-- ---- the buffer
-- a report leaves what its definition says, any other call leaves the buffer as it was
abbrev pub report_page : State → List ℕ → List ℕ
report_page s out = (reports.report s.head s.memory.rows s.memory.counted out).out

abbrev pub read_page : State → Reading → List ℕ → List ℕ
read_page s (Report out) page = report_page s out
read_page s (ReportBeside out) page = page
read_page s (Count c) page = page
read_page s Visited page = page
read_page s (Level d) page = page
read_page s (Rate d) page = page
read_page s IsBounded page = page

abbrev pub page_after : State → Call → List ℕ → List ℕ
page_after s (Judge u cost t) page = page
page_after s (Cut u c cost) page = page
page_after s (Rates rate ceiling t) page = page
page_after s (Read q) page = read_page s q page

-- ---- the list
-- the calls so far, the newest first; the buffer after them; and how many of them are calls of the run
pub record Run : Type 0 where
  pub list : List Call
  pub page : List ℕ
  pub taken : ℕ

-- a call is one of the run where its place is, and where it was not refused by number
unfoldable pub counts : Bool → ℕ → Bool
counts inside number = inside && eqb number 0

-- what is read behind the end of a list: no run goes there
abbrev pub behind : given.Call
behind = call.Read reading.IsBounded

-- the run begins at call `from`
module _ (first : State) (from : ℕ) where
  -- call i gets the state that the calls before left, and the buffer as they left it
  unfoldable pub run_after : Run → ℕ → given.Call → Run
  run_after r i c =
      record {
        list = call_of c r.page ∷ r.list;
        page = page_after (calls.state first r.list) (call_of c r.page) r.page;
        taken = cond (counts (leb from i) (calls.number (calls.state first r.list) (call_of c r.page))) (suc r.taken) r.taken;
      }

  -- the first n calls
  unfoldable pub run : List ℕ → List given.Call → ℕ → Run
  run page list zero = record { list = []; page = page; taken = 0 }
  run page list (suc n) = run_after (run page list n) n (slice_index_or list n behind)

-- ---- the totals
unfoldable pub is_admitted : Result Verdict Refusal → Bool
is_admitted (Ok verdict.Admitted) = true
is_admitted (Ok verdict.OverShare) = false
is_admitted (Ok verdict.RelayRate) = false
is_admitted (Err r) = false

unfoldable pub is_over_share : Result Verdict Refusal → Bool
is_over_share (Ok verdict.Admitted) = false
is_over_share (Ok verdict.OverShare) = true
is_over_share (Ok verdict.RelayRate) = false
is_over_share (Err r) = false

-- the cost of a cut for the receiver's ceiling is handed back
unfoldable pub is_hand_back : Cause → Bool
is_hand_back cause.ReceiverCeiling = true
is_hand_back cause.OverShare = false
is_hand_back cause.RelayRate = false

-- the cost, or nothing
unfoldable pub counted_if : Bool → List ℕ → List ℕ
counted_if on cost = cond on cost (replicate dims 0)

-- in each dimension, what one call amounts to
unfoldable pub amounts : (ℕ → State → Call → ℕ) → State → Call → List ℕ
amounts w s c = upto (λ (d : ℕ). w d s c) dims (replicate dims 0)

unfoldable pub sums : List ℕ → List ℕ → List ℕ
sums xs ys = upto (λ (d : ℕ). (get_or xs d 0 + get_or ys d 0) % 2 ^ 64) dims (replicate dims 0)

-- over the run of the newest n of the calls es that were not refused by number: in each dimension what they amount to, modulo 2^64
unfoldable pub totals : (ℕ → State → Call → ℕ) → ℕ → List Event → List ℕ
totals w n es = upto (λ (d : ℕ). sum (by (w d)) n es % 2 ^ 64) dims (replicate dims 0)

-- a judgement answered over share
abbrev pub over_share : State → Call → Bool
over_share s (Judge u cost t) = is_over_share (calls.judges s u cost t).answer
over_share s (Cut u c cost) = false
over_share s (Rates rate ceiling t) = false
over_share s (Read q) = false

-- and whether the last call of the run is one
unfoldable pub ends_over_share : ℕ → List Event → Bool
ends_over_share zero es = false
ends_over_share (suc n) [] = false
ends_over_share (suc n) (e ∷ es) = over_share e.before e.call

-- ---- the watched record
-- a sender's own is named by its unit, overflow's by the unit overflow, which has none of its own
unfoldable pub key_of : unit.Unit → Key
key_of watched = cond (sender.is_overflow watched) calls.shared (calls.own watched)

-- whether a judgement uses the unit's own record: overflow has none; there is room to add it, or it is found. Where question 3 or 4 is answered no the judgement is refused
unfoldable pub own_used : Shedder → Rows → List (List ℕ) → unit.Unit → Bool
own_used h m counted u =
    cond (sender.is_overflow u) false
    (cond (ltb h.tracked h.unit_room) true
    (cond (whole_with h m.offsets && memory_whole h (sizes_of m counted)) (is_some (find m (sender.name_of u))) false))

-- and whether the record that it uses is the watched one
unfoldable pub on_watched : Shedder → Rows → List (List ℕ) → unit.Unit → unit.Unit → Bool
on_watched h m counted watched u = calls.same_key (key_of watched) (calls.key_at (own_used h m counted u) u)

-- ---- one call
-- of a call that amounts to nothing
abbrev pub empty : Shedder → ℕ → Turned
empty h n = record { head = h; number = n; admitted = replicate dims 0; admitted_on = replicate dims 0; handed = replicate dims 0; over_share = false }

-- what the program has after the call c: head and memory t, the number of its refusal, and what it amounts to; of a refused call what it amounts to on the watched record is left open, since nothing counts it
pub record Turns (watched : unit.Unit) (s : State) (c : Call) (r : Turned) (t : State) : Type 0 where
  pub left : SameButNanBits t (calls.step s c)
  pub number : r.number ≡ calls.number s c
  pub admitted : r.admitted ≡ amounts calls.admitted s c
  pub handed : r.handed ≡ amounts calls.handed s c
  pub admitted_on : r.number ≡ 0 → r.admitted_on ≡ amounts (calls.admitted_on (key_of watched)) s c
  pub over_share : r.over_share ≡ over_share s c
