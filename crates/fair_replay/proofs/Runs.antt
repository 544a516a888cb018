-- A call more, and the whole list. Assumes nothing.
use Rattle.std.proofs.Common.{◌≡◌, ℕ, suc, ◌+◌, ◌%◌, ◌^◌, ◌<◌, false, cond, leb, List, ◌∷◌, length, get_or, replicate, sym, refl, ap, ◌∙◌, arith, leb-false}
use Rattle.std.proofs.lemmas.Option.{get_or_from_slice_get, slice_get-get_or}
use Rattle.flow.specs.Flow.{dims}
use Rattle.sender.specs.declared.Unit as unit
use Rattle.head.specs.declared.Shedder.{Shedder}
use Rattle.judge.specs.Judging.{Memory}
use Rattle.fair.specs.Calls as calls
use Rattle.fair.specs.Calls.{State, Call, Event, event, events, state_of}
use Rattle.fair_row.specs.declared.Call as given
use Rattle.fair_row.specs.declared.Turned.{Turned}
use Rattle.fair_row.specs.Replay.{Run, Turns, run, call_of, behind, counts, page_after, amounts, sums, totals, ends_over_share, key_of}
use Rattle.fair_row.proofs.Turning.{headed, run_none, list_next, page_next, taken_next, run_next}
use Rattle.fair_row.proofs.Totals.{taken_before, counted_next, totals_none, totals_more, taken_more, over_none, over_more}
use Rattle.fair_replay.specs.declared.Replayed.{Replayed}
use Rattle.fair_replay.specs.Runs.{Adds, Ran, Replays, list_run}
use Rattle.fair_replay.proofs.Bounds.{relay, share, spared}

-- which call of the list it is does not depend on what is read behind its end
pub same_call : (list : List given.Call) (i : ℕ) (d : given.Call) → i < length list → get_or list i d ≡ get_or list i behind
same_call list i d l = get_or_from_slice_get list i (get_or list i behind) d (slice_get-get_or list i behind l)

abbrev nothing_yet : Shedder → Replayed
nothing_yet h = record { head = h; admitted = replicate dims 0; admitted_on = replicate dims 0; handed = replicate dims 0; taken = 0; over_share = false }

pub ran_none : (watched : unit.Unit) (from : ℕ) (first : State) (page : List ℕ) (list : List given.Call) (h : Shedder) → Ran watched first (run first from page list 0) (nothing_yet h) first page
unfolding run ends_over_share
ran_none watched from first page list h =
    record {
      left = run_none first from page list;
      page = refl;
      admitted = totals_none _ _;
      admitted_on = totals_none _ _;
      handed = totals_none _ _;
      taken = refl;
      over_share = refl;
    }

module _ (watched : unit.Unit) (from : ℕ) (first s : State) (m : Memory) (page out out' : List ℕ) (list : List given.Call) (i : ℕ) (r r' : Replayed) (t : Turned)
    (ran : Ran watched first (run first from page list i) r s out) (turns : Turns watched s (call_of (get_or list i behind) out) t (state_of t.head m)) (adds : Adds (leb from i) r t r') where
  abbrev now_run : Run
  now_run = run first from page list i

  abbrev next_run : Run
  next_run = run first from page list (i + 1)

  counted : {A : Type 0} (f : ℕ → List Event → A) (x y x' : A) → ((es ds : List Event) → f 0 es ≡ f 0 ds) → x ≡ f now_run.taken (events first now_run.list)
      → (t.number ≡ 0 → x' ≡ f (suc now_run.taken) (event s (call_of (get_or list i behind) out) ∷ events first now_run.list))
      → y ≡ cond (counts (leb from i) t.number) x' x → y ≡ f next_run.taken (events first next_run.list)
  counted =
      counted_next first s now_run.list next_run.list (call_of (get_or list i behind) out) t.number now_run.taken next_run.taken (leb from i)
      (list_next first from page list i out ran.page) ran.left turns.number
      (λ e. let l = leb-false from i e in taken_before first from page list i (omega arith))
      (taken_next first from page list i out ran.page)

  total : (w : ℕ → State → Call → ℕ) (xs ys more : List ℕ) → xs ≡ totals w now_run.taken (events first now_run.list) → (t.number ≡ 0 → more ≡ amounts w s (call_of (get_or list i behind) out))
      → ys ≡ cond (counts (leb from i) t.number) (sums xs more) xs → ys ≡ totals w next_run.taken (events first next_run.list)
  total w xs ys more ex em ey =
      counted (totals w) xs ys (sums xs more) (λ es ds. sym (totals_none w es) ∙ totals_none w ds) ex
      (λ z. ap (λ (x : List ℕ). sums x more) ex ∙ ap (sums (totals w now_run.taken (events first now_run.list))) (em z) ∙ totals_more w now_run.taken s (call_of (get_or list i behind) out) (events first now_run.list))
      ey

  pub ran_next : out' ≡ page_after s (call_of (get_or list i behind) out) out → Ran watched first (run first from page list (i + 1)) r' (state_of r'.head m) out'
  ran_next e =
      record {
        left = headed r'.head t.head m _ adds.head (run_next first s _ now_run.list _ (call_of (get_or list i behind) out) (list_next first from page list i out ran.page) ran.left turns.left);
        page = page_next first from page list i out ran.page out' s ran.left e;
        admitted = total calls.admitted _ _ _ ran.admitted (λ z. turns.admitted) adds.admitted;
        admitted_on = total (calls.admitted_on (key_of watched)) _ _ _ ran.admitted_on turns.admitted_on adds.admitted_on;
        handed = total calls.handed _ _ _ ran.handed (λ z. turns.handed) adds.handed;
        taken = counted (λ (n : ℕ) (es : List Event). n % 2 ^ 64) _ _ _ (λ es ds. refl) ran.taken (λ z. taken_more now_run.taken _ ran.taken) adds.taken;
        over_share = counted ends_over_share _ _ _ over_none ran.over_share (λ z. turns.over_share ∙ over_more now_run.taken s (call_of (get_or list i behind) out) _) adds.over_share;
      }

-- all of it, at the last call that is run
pub replays : (watched : unit.Unit) (from to : ℕ) (first : State) (page : List ℕ) (list : List given.Call) (r : Replayed) (last : State) (out : List ℕ)
    → Ran watched first (list_run from to first page list) r last out → Replays watched from to first page list r last out
replays watched from to first page list r last out ran =
    record {
      ran = ran;
      relay = relay first (list_run from to first page list) r.admitted ran.admitted;
      share = share watched first (list_run from to first page list) r.admitted_on ran.admitted_on;
      spared = spared first (list_run from to first page list) r.over_share ran.over_share;
    }
