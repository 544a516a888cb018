-- A cut that is not refused: the real state after it is tied to the model's store after the model's cut, or after a call that does nothing. Assumes nothing.
use mathlib.Core.Path.{◌≡◌, refl, sym, ap, ◌∙◌, subst}
use Prim.Native.Nat.{ℕ, ◌^◌, ◌≤◌, ◌<◌}
use native.Mathlib.Nat.{le_refl}
use native.Mathlib.Omega.{arith}
use mathlib.Core.Bool.{Bool, true, false, cond}
use mathlib.Core.List.{List}
use lib.Dec.{eqb, ltb}
use lib.ListN.{get_or}
use lib.Ieee.{Float}
use borrow.Author.Tests.{eqb-true, ltb-false}
use Rattle.ieee.specs.Doubles.{whole}
use Rattle.flow.specs.Flow as flow
use Rattle.flow.specs.Flow.{dims, at, bucket_at}
use Rattle.flow.specs.declared.Bucket.{Bucket}
use Rattle.flow.specs.declared.Use.{Use}
use Rattle.sender.specs.declared.Unit as unit
use Rattle.sender.specs.Sender as sender
use Rattle.parts.specs.Parts.{Rows}
use Rattle.store.specs.Held.{sizes_of}
use Rattle.store.specs.declared.lent.Sizes.{Sizes}
use Rattle.head.proofs.Tests.{zero_yes}
use Rattle.head.specs.declared.Shedder.{Shedder}
use Rattle.store.specs.declared.Cause.{Cause}
use Rattle.store.specs.declared.Cause.TheVariants as cause
use Rattle.head.specs.Answers.{refusal_of, refused}
use Rattle.head.proofs.Numbers.{number_some}
use Rattle.fair.specs.Given as goal
use Rattle.fair.specs.Given.{Memory}
use Rattle.fair.specs.Tokens.{Pot, pot_of, holding}
use Rattle.fair.specs.Store as model
use Rattle.fair.specs.Demand as demand
use Rattle.fair.specs.Demand.{present, does, priced}
use Rattle.fair.specs.Calls as calls
use Rattle.fair.proofs.View.{Name, same, shares, name_of}
use Rattle.fair.proofs.Entry as entry
use Rattle.fair.proofs.Entry.{Placed}
use Rattle.fair.proofs.Tied.{Tied}
use Rattle.fair.proofs.Outcome as outcome
use Rattle.fair.proofs.Outcome.{costs, numbers_priced}
use Rattle.fair.proofs.Judging as judging
use Rattle.fair.proofs.Judging.{found_at, new_place, not_unbounded, small_costs}

-- the head and the rows that a cut is counted over: with the cost handed back, or as they were
abbrev pub cut_on : Shedder → Rows → unit.Unit → Cause → List ℕ → goal.KeptBy
cut_on h m u c cost = cond (goal.hands_back h.flow.rate c) (goal.handed_back (goal.kept_by h m) u (goal.numbers cost)) (goal.kept_by h m)

module _ (room : ℕ) (rate ceiling : List ℕ) where
  abbrev S : Type 0
  S = entry.S room

  abbrev K : Type 0
  K = entry.K room

  abbrev C : Type 0
  C = model.Call Name same shares room

  abbrev resolve : S → unit.Unit → K
  resolve st u = judging.resolve room rate ceiling st u

  abbrev seen : K → S → demand.State
  seen k st = judging.seen room rate ceiling k st

  abbrev after : ℕ → K → demand.State → S → S
  after place k t st = judging.after room rate ceiling place k t st

  -- a ReceiverCeiling cut is the model's cut, any other does nothing to a record
  abbrev pub cut_call : Rows → Cause → unit.Unit → List ℕ → C
  cut_call m cause.ReceiverCeiling u cost = model.Cut (name_of u) (costs cost) (new_place m u)
  cut_call m cause.OverShare u cost = model.Other
  cut_call m cause.RelayRate u cost = model.Other

  module _ (h : Shedder) (m : Rows) (st : S) (b : Tied room rate ceiling h m st h.flow.at_ms) (u : unit.Unit) (cost : List ℕ) where
    abbrev clk : ℕ
    clk = h.flow.at_ms

    abbrev e : goal.Entered
    e = goal.entry m h.tracked h.unit_room u clk

    abbrev k : K
    k = resolve st u

    p : Placed room m h.tracked h.overflow (new_place m u) k st.pot u clk e
    p = judging.placed room rate ceiling h m st clk b u clk

    handed_is : (cst : List Float) → cst ≡ priced (costs cost) → present (flow.handed_back (found_at h e) cst) ≡ (does (seen k st) clk (demand.Cut (costs cost))).used
    handed_is cst q =
        ap (λ (c : List Float). present (flow.handed_back (found_at h e) c)) q
        ∙ ap (λ (x : Use). present (flow.handed_back x (priced (costs cost)))) (judging.found-is room rate ceiling h m st clk b u clk e p)

    handed_tied_at : (cst : List Float) → cst ≡ priced (costs cost)
        → Tied room rate ceiling (goal.handed_at h cst e).head (goal.handed_at h cst e).rows (after (new_place m u) k (does (seen k st) clk (demand.Cut (costs cost))) st) clk
    unfolding goal.flowed_back
    handed_tied_at cst q =
        judging.headed_tied room rate ceiling h m st clk b u clk e p (goal.flowed_back h.flow cst) (flow.handed_back (found_at h e) cst) (does (seen k st) clk (demand.Cut (costs cost)))
        (outcome.handed_whole (found_at h e) cst p.whole)
        (handed_is cst q)
        b.rate_is
        b.ceiling_is
        (le_refl clk)
        (outcome.returned_long h.flow.buckets cst b.long)
        (λ d small. ap (λ (x : Bucket). pot_of x (get_or rate d 0) (get_or ceiling d 0))
        (ap (λ (c : List Float). bucket_at (flow.returned_all h.flow.buckets c) d) q ∙ outcome.returned_at h.flow.buckets (costs cost) b.long d small)
        ∙ ap (λ (p : Pot). holding p (flow.returned p.bucket (whole (costs cost d)))) (b.pot_is d small))

    handed_tied : Tied room rate ceiling (goal.handed_back (goal.kept_by h m) u (goal.numbers cost)).head (goal.handed_back (goal.kept_by h m) u (goal.numbers cost)).rows (model.step Name same shares room st clk (model.Cut (name_of u) (costs cost) (new_place m u))) clk
    unfolding goal.handed_back
    handed_tied = handed_tied_at (goal.numbers cost) (numbers_priced cost)

    on_tied : goal.is_unbounded h.flow.rate ≡ false → (c : Cause)
        → Tied room rate ceiling (cut_on h m u c cost).head (cut_on h m u c cost).rows (model.step Name same shares room st clk (cut_call m c u cost)) clk
    unfolding goal.hands_back goal.index_of
    on_tied f cause.ReceiverCeiling = rw f handed_tied
    on_tied f cause.OverShare = rw f b
    on_tied f cause.RelayRate = rw f b

-- ---- a cut that is not refused
abbrev cut_no : Shedder → Rows → List (List ℕ) → ℕ → goal.Cut
cut_no h m k n = goal.cut_ends (refused n) h m k

chosen : (h : Shedder) (m : Rows) (k : List (List ℕ)) (n : ℕ) (to : goal.KeptBy → goal.Cut) (x y : goal.KeptBy) (a b : Bool) → eqb n 0 ≡ a
    → ltb 0 (goal.cut_number (cond a (cond b (to x) (to y)) (cut_no h m k n)).answer) ≡ false
    → (a ≡ true) × (cond a (cond b (to x) (to y)) (cut_no h m k n) ≡ to (cond b x y))
unfolding goal.answer_number
chosen h m k n to x y true true q f = (refl, refl)
chosen h m k n to x y true false q f = (refl, refl)
chosen h m k n to x y false b q f = absurd (omega (arith, ltb-false 0 _ f, number_some (refusal_of n)))

pub record Taken (h : Shedder) (m : Rows) (k : List (List ℕ)) (u : unit.Unit) (c : Cause) (cost : List ℕ) : Type 0 where
  pub asked : goal.cut_asked h (sizes_of m k) m.offsets cost ≡ 0
  pub is : goal.cut h m k u c cost ≡ goal.cut_after k u c cost (cut_on h m u c cost)

pub taken : (h : Shedder) (m : Rows) (k : List (List ℕ)) (u : unit.Unit) (c : Cause) (cost : List ℕ) → ltb 0 (goal.cut_number (goal.cut h m k u c cost).answer) ≡ false → Taken h m k u c cost
unfolding goal.cut
taken h m k u c cost f =
    let n = goal.cut_asked h (sizes_of m k) m.offsets cost in
    let r = chosen h m k n (goal.cut_after k u c cost) (goal.handed_back (goal.kept_by h m) u (goal.numbers cost)) (goal.kept_by h m) (eqb n 0) (goal.hands_back h.flow.rate c) refl f in
    record { asked = eqb-true n 0 r.0; is = r.1 }

pub cut_costs : (h : Shedder) (s : Sizes) (os cost : List ℕ) → goal.cut_asked h s os cost ≡ 0 → goal.costs_held cost ≡ true
unfolding goal.cut_asked
cut_costs h s os cost e =
    let a = zero_yes (goal.whole_with h os) _ 2 e in
    let b = zero_yes (goal.memory_whole h s) _ 3 a.1 in
    (zero_yes (goal.costs_held cost) _ 4 b.1).0

-- THE CUT
module _ (room : ℕ) (rate ceiling : List ℕ) (rates : goal.all_rates rate ≡ true) (h : Shedder) (m : Memory) (st : entry.S room) (b : Tied room rate ceiling h m.rows st h.flow.at_ms) (u : unit.Unit) (c : Cause) (cost : List ℕ)
    (f : calls.refused (calls.state_of h m) (calls.Cut u c cost) ≡ false) where
  pub took : Taken h m.rows m.counted u c cost
  took = taken h m.rows m.counted u c cost f

  pub cut_tied : Tied room rate ceiling (goal.cut h m.rows m.counted u c cost).head (goal.cut h m.rows m.counted u c cost).rows (model.step Name same shares room st h.flow.at_ms (cut_call room rate ceiling m.rows c u cost)) h.flow.at_ms
  unfolding goal.noted
  cut_tied =
      let s = cut_on h m.rows u c cost in
      subst (λ (j : goal.Cut). Tied room rate ceiling j.head j.rows (model.step Name same shares room st h.flow.at_ms (cut_call room rate ceiling m.rows c u cost)) h.flow.at_ms) (sym took.is)
      (judging.tallied_tied room rate ceiling s.head m.counted (sender.name_of u) (goal.index_of c) (get_or cost 0 0) s.rows _ h.flow.at_ms
      (on_tied room rate ceiling h m.rows st b u cost (ap goal.is_unbounded b.rate_is ∙ not_unbounded rate rates) c))

  pub cut_small : (d : ℕ) → d < dims → get_or cost d 0 ≤ 2 ^ 40
  cut_small = small_costs cost (cut_costs h (sizes_of m.rows m.counted) m.rows.offsets cost took.asked)

  -- the record that it uses is the model's
  pub cut_key : judging.resolve room rate ceiling st u ≡ entry.lift room (calls.key (calls.state_of h m) u h.flow.at_ms)
  cut_key =
      (judging.placed room rate ceiling h m.rows st h.flow.at_ms b u h.flow.at_ms).key
      ∙ ap (λ (r : ℕ). entry.lift room (calls.key_at (ltb (goal.entry m.rows h.tracked h.unit_room u h.flow.at_ms).place.at r) u)) (sym b.room_is)
