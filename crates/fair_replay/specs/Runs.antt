-- What `replay` leaves and returns. The statements.
use Rattle.std.specs.Prelude.{◌≡◌, ℕ, ◌+◌, ◌%◌, ◌^◌, min, Bool, cond, List, length}
use Rattle.sender.specs.declared.Unit as unit
use Rattle.head.specs.Bits.{SameButNanBits}
use Rattle.fair.specs.Calls as calls
use Rattle.fair.specs.Calls.{State, events}
use Rattle.fair_row.specs.declared.Call as given
use Rattle.fair_row.specs.declared.Turned.{Turned}
use Rattle.fair_row.specs.Replay.{Run, run, counts, sums, totals, ends_over_share, key_of}
use Rattle.fair_replay.specs.declared.Replayed.{Replayed}
use Rattle.fair_replay.specs.Bounds.{Relay, Share, Spared}

-- a call more: one that does not count for the run adds nothing
pub record Adds (inside : Bool) (was : Replayed) (t : Turned) (r : Replayed) : Type 0 where
  pub head : r.head ≡ t.head
  pub admitted : r.admitted ≡ cond (counts inside t.number) (sums was.admitted t.admitted) was.admitted
  pub admitted_on : r.admitted_on ≡ cond (counts inside t.number) (sums was.admitted_on t.admitted_on) was.admitted_on
  pub handed : r.handed ≡ cond (counts inside t.number) (sums was.handed t.handed) was.handed
  pub taken : r.taken ≡ cond (counts inside t.number) ((was.taken + 1) % 2 ^ 64) was.taken
  pub over_share : r.over_share ≡ cond (counts inside t.number) t.over_share was.over_share

-- what the program has after the calls of x, from `first` on: head and memory `last`, the buffer `out`, and the totals of the run, modulo 2^64
pub record Ran (watched : unit.Unit) (first : State) (x : Run) (r : Replayed) (last : State) (out : List ℕ) : Type 0 where
  pub left : SameButNanBits last (calls.state first x.list)
  pub page : out ≡ x.page
  pub admitted : r.admitted ≡ totals calls.admitted x.taken (events first x.list)
  pub admitted_on : r.admitted_on ≡ totals (calls.admitted_on (key_of watched)) x.taken (events first x.list)
  pub handed : r.handed ≡ totals calls.handed x.taken (events first x.list)
  pub taken : r.taken ≡ x.taken % 2 ^ 64
  pub over_share : r.over_share ≡ ends_over_share x.taken (events first x.list)

-- the calls before call `to`, all where there are fewer; the run begins at call `from`
abbrev pub list_run : ℕ → ℕ → State → List ℕ → List given.Call → Run
list_run from to first page list = run first from page list (min to (length list))

-- and demand 3's three claims of the run
pub record Replays (watched : unit.Unit) (from to : ℕ) (first : State) (page : List ℕ) (list : List given.Call) (r : Replayed) (last : State) (out : List ℕ) : Type 0 where
  pub ran : Ran watched first (list_run from to first page list) r last out
  pub relay : Relay first (list_run from to first page list) r.admitted
  pub share : Share watched first (list_run from to first page list) r.admitted_on
  pub spared : Spared first (list_run from to first page list) r.over_share
