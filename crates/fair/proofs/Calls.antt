-- DEMAND 3, of every list of calls: each call that is not refused is the model's call, so the model's demand is the real one. Assumes nothing.
use mathlib.Core.Path.{◌≡◌, refl, sym, ap, ◌∙◌, subst}
use Prim.Native.Nat.{ℕ, suc, ◌+◌, ◌-◌, ◌*◌, ◌≤◌, ◌<◌, max}
use native.Mathlib.Omega.{arith}
use mathlib.Core.Bool.{Bool, true, false, cond, true≢false}
use mathlib.Core.List.{List, [], ◌∷◌}
use lib.Dec.{T, eqb, ltb}
use lib.ListN.{length, get_or}
use lib.Ieee as Ieee
use lib.Ieee.{Float}
use Rattle.ieee.specs.Doubles.{one}
use Rattle.ieee.specs.Units.{power, units}
use Rattle.flow.specs.Flow.{dims, at}
use Rattle.verdict.specs.declared.Verdict.{Verdict}
use Rattle.verdict.specs.declared.Verdict.TheVariants as verdict
use Rattle.sender.specs.declared.Unit as unit
use Rattle.sender.specs.Sender as sender
use Rattle.std.specs.Prelude.{Option, Some, None, is_some}
use Rattle.parts.specs.Parts.{Rows}
use Rattle.store_entry.proofs.Own.{table_below}
use Rattle.store.specs.Held.{sizes_of}
use Rattle.head.specs.declared.Shedder.{Shedder}
use Rattle.std.proofs.Common.{Result, Ok}
use Rattle.head.specs.declared.Refusal.{Refusal}
use Rattle.head.specs.Answers.{refused as refused_by}
use Rattle.store.specs.declared.Cause.{Cause}
use Rattle.store.specs.declared.Cause.TheVariants as cause
use Rattle.fair.specs.Given as goal
use Rattle.fair.specs.Given.{Memory, memory}
use Rattle.fair.specs.Runs.{sum, highest, oldest, lowest, clock, back, Each}
use Rattle.fair.specs.Bounds.{most_depth, least_depth, parts}
use Rattle.fair.specs.Tokens.{Pot}
use Rattle.fair.specs.Demand as demand
use Rattle.fair.specs.Demand.{verdict_here, is_admitted}
use Rattle.fair.specs.Store as model
use Rattle.fair.specs.Calls as calls
use Rattle.fair.specs.Calls.{State, Call, Judge, Cut, Rates, Read, Event, Key, shared, own, Claim}
use Rattle.fair.specs.Changes.{rate_of, ceiling_of, rate_after, ceiling_after}
use Rattle.fair.proofs.Runs.{oldest_highest, shown, Along, sum_along, highest_along, oldest_along, clock_along, back_along, each_along, lowest_along, since_along, back_shown}
use Rattle.fair.proofs.Store.{store_claim}
use Rattle.fair.proofs.View.{Name, same, shares, named, name_of, same_is, same_self, R}
use Rattle.fair.proofs.Find as finding
use Rattle.fair.proofs.Entry as entry
use Rattle.fair.proofs.Tied.{Tied}
use Rattle.fair.proofs.Judging as judging
use Rattle.fair.proofs.Judging.{bounded_rates}
use Rattle.fair.proofs.Cutting as cutting
use Rattle.fair.proofs.Changing as changing
use Rattle.fair.proofs.Outcome.{numbers_priced}
use Rattle.fair.proofs.Level.{valued}
use Rattle.fair.proofs.Begun.{by_dim, fill_lawful, left_tied}
use Rattle.fair.proofs.Stepped.{judge_step}

-- ---- a refused call leaves head and memory
pub verdict_taken : (v : Verdict) → ltb 0 (goal.judge_number (goal.answer_of v)) ≡ false
unfolding goal.answer_of goal.answer_number
verdict_taken v = refl

judge_kept : (h : Shedder) (m : Memory) (u : unit.Unit) (cost : List ℕ) (t : ℕ) → calls.refused (calls.state_of h m) (Judge u cost t) ≡ true → calls.state_of (goal.judge h m u cost t).head (goal.judge h m u cost t).memory ≡ calls.state_of h m
unfolding goal.judge
judge_kept h m u cost t f =
    go (goal.judge_asked h (sizes_of m.rows m.counted) m.rows.offsets cost t)
    (eqb (goal.judge_asked h (sizes_of m.rows m.counted) m.rows.offsets cost t) 0)
    (goal.is_unbounded h.flow.rate) f
  where
    taken : ltb 0 (goal.judge_number (goal.bounded h m u cost t).answer) ≡ false
    taken = unfold goal.bounded in (verdict_taken (goal.judged h m.rows u (goal.numbers cost) (max t h.flow.at_ms)).verdict)

    go : (n : ℕ) (a b : Bool)
        → ltb 0 (goal.judge_number (cond a (cond b (goal.judge_ends (Ok verdict.Admitted) h m) (goal.bounded h m u cost t)) (goal.judge_ends (refused_by n) h m)).answer) ≡ true
        → calls.state_of (cond a (cond b (goal.judge_ends (Ok verdict.Admitted) h m) (goal.bounded h m u cost t)) (goal.judge_ends (refused_by n) h m)).head
        (cond a (cond b (goal.judge_ends (Ok verdict.Admitted) h m) (goal.bounded h m u cost t)) (goal.judge_ends (refused_by n) h m)).memory
        ≡ calls.state_of h m
    go n true true f = refl
    go n true false f = absurd (true≢false (sym f ∙ taken))
    go n false b f = refl

abbrev cut_left : Memory → goal.Cut → State
cut_left m j = calls.state_of j.head (memory j.rows m.hist j.counted)

abbrev cut_no : Shedder → Memory → ℕ → goal.Cut
cut_no h m n = goal.cut_ends (refused_by n) h m.rows m.counted

cut_chosen : (h : Shedder) (m : Memory) (x y : goal.Cut) → ltb 0 (goal.cut_number x.answer) ≡ false → ltb 0 (goal.cut_number y.answer) ≡ false → (n : ℕ) (a b : Bool)
    → ltb 0 (goal.cut_number (cond a (cond b x y) (cut_no h m n)).answer) ≡ true → cut_left m (cond a (cond b x y) (cut_no h m n)) ≡ calls.state_of h m
cut_chosen h m x y e g n true true f = absurd (true≢false (sym f ∙ e))
cut_chosen h m x y e g n true false f = absurd (true≢false (sym f ∙ g))
cut_chosen h m x y e g n false b f = refl

cut-kept : (h : Shedder) (m : Memory) (u : unit.Unit) (c : Cause) (cost : List ℕ) → calls.refused (calls.state_of h m) (Cut u c cost) ≡ true → cut_left m (goal.cut h m.rows m.counted u c cost) ≡ calls.state_of h m
unfolding goal.cut goal.noted goal.answer_number
cut-kept h m u c cost f =
    cut_chosen h m (goal.cut_after m.counted u c cost (goal.handed_back (goal.kept_by h m.rows) u (goal.numbers cost))) (goal.cut_after m.counted u c cost (goal.kept_by h m.rows)) refl refl
    (goal.cut_asked h (sizes_of m.rows m.counted) m.rows.offsets cost)
    (eqb (goal.cut_asked h (sizes_of m.rows m.counted) m.rows.offsets cost) 0) (goal.hands_back h.flow.rate c) f

-- ---- answers and verdicts
if-same : (v : Verdict) (x : ℕ) → calls.if_admitted (goal.answer_of v) x ≡ cond (is_admitted v) x 0
unfolding goal.answer_of
if-same verdict.Admitted x = refl
if-same verdict.OverShare x = refl
if-same verdict.RelayRate x = refl

over_of : (v : Verdict) → goal.answer_of v ≡ Ok verdict.OverShare → v ≡ verdict.OverShare
unfolding goal.answer_of
over_of verdict.Admitted e = absurd (let z : ◌≡◌ {A = ℕ} 0 1 = cc in omega arith)
over_of verdict.OverShare e = refl
over_of verdict.RelayRate e = absurd (let z : ◌≡◌ {A = ℕ} 0 1 = cc in omega arith)

-- a bound with a larger burst
lifted : (a g y n : ℕ) {b m : ℕ} → a ≤ 1000 * parts * b + g + y + n → b ≤ m → a ≤ 1000 * parts * m + g + y + n
lifted a g y n f h = omega arith

module _ (room : ℕ) (rate ceiling : List ℕ) (rates : goal.all_rates rate ≡ true) where
  abbrev pub C : Type 0
  C = model.Call Name same shares room

  abbrev pub S : Type 0
  S = entry.S room

  abbrev K : Type 0
  K = entry.K room

  abbrev lift : Key → K
  lift r = entry.lift room r

  -- a call as the model's: want, reserve, fade, fill and the rows that the scan drops are computed from the state that it got
  abbrev pub see : State → Call → C
  see s (Judge u cost t) = judging.judge_call room rate ceiling s.head s.memory u cost t
  see s (Cut u c cost) = cutting.cut_call room rate ceiling s.memory.rows c u cost
  see s (Rates x y t) = model.Rates t (by_dim x) (by_dim y)
  see s (Read q) = model.Other

  abbrev pub seen : Event → List Event → C
  seen e es = see e.before e.call

  abbrev pub stamp : C → ℕ
  stamp c = model.stamp Name same shares room c

  abbrev pub store_of : List C → S
  store_of ms = model.store Name same shares room (by_dim rate) (by_dim ceiling) ms

  -- at the rates x and the ceiling y, which are in force
  pub record Tie (s : State) (ms : List C) (x y : List ℕ) : Type 0 where
    pub bounded : goal.all_rates x ≡ true
    pub tied : Tied room x y s.head s.memory.rows (store_of ms) (clock stamp ms)

  -- ---- stamps
  cut_stamp : (m : Rows) (c : Cause) (u : unit.Unit) (cost : List ℕ) → stamp (cutting.cut_call room rate ceiling m c u cost) ≡ 0
  cut_stamp m cause.ReceiverCeiling u cost = refl
  cut_stamp m cause.OverShare u cost = refl
  cut_stamp m cause.RelayRate u cost = refl

  stamp_same : (s : State) (c : Call) → calls.stamp_of c ≡ stamp (see s c)
  stamp_same s (Judge u cost t) = refl
  stamp_same s (Cut u c cost) = sym (cut_stamp s.memory.rows c u cost)
  stamp_same s (Rates x y t) = refl
  stamp_same s (Read q) = refl

  -- ---- one step
  module _ (s : State) (ms : List C) {x y : List ℕ} (b : Tie s ms x y) where
    abbrev tied_at : ℕ → Type 0
    tied_at k = Tied room x y s.head s.memory.rows (store_of ms) k

    -- at the real clock
    pub at_clock : tied_at s.head.flow.at_ms
    at_clock = subst tied_at (sym b.tied.clock_is) b.tied

    idle : tied_at (max 0 (clock stamp ms))
    idle = subst tied_at (let e : clock stamp ms ≡ max 0 (clock stamp ms) = omega arith in e) b.tied

    pub step_tied : (c : Call) → calls.refused s c ≡ false → Tie (calls.step s c) (see s c ∷ ms) (rate_after c x) (ceiling_after c y)
    unfolding model.store clock
    step_tied (Judge u cost t) f = record { bounded = b.bounded; tied = judge_step room x y b.bounded s (store_of ms) (clock stamp ms) b.tied u cost t f }
    step_tied (Cut u c cost) f =
        let j = goal.cut s.head s.memory.rows s.memory.counted u c cost in
        let r = subst (λ (k : ℕ). Tied room x y j.head j.rows (model.step Name same shares room (store_of ms) (clock stamp ms) (cutting.cut_call room rate ceiling s.memory.rows c u cost)) k)
        (let e : clock stamp ms ≡ max (stamp (cutting.cut_call room rate ceiling s.memory.rows c u cost)) (clock stamp ms) = omega (arith, cut_stamp s.memory.rows c u cost) in e)
        (subst (λ (k : ℕ). Tied room x y j.head j.rows (model.step Name same shares room (store_of ms) k (cutting.cut_call room rate ceiling s.memory.rows c u cost)) k) b.tied.clock_is
        (cutting.cut_tied room x y b.bounded s.head s.memory (store_of ms) at_clock u c cost f)) in
        record { bounded = b.bounded; tied = r }
    step_tied (Rates r z t) f = record {
      bounded = (changing.asked room x y s.head s.memory (store_of ms) at_clock r z t f).rates;
      tied = subst (λ (k : ℕ). Tied room r z (calls.changes s r z t).head s.memory.rows (model.step Name same shares room (store_of ms) k (model.Rates t (by_dim r) (by_dim z))) (max t k)) b.tied.clock_is
          (changing.rates_tied room x y s.head s.memory (store_of ms) at_clock r z t f);
    }
    step_tied (Read q) f = record { bounded = b.bounded; tied = idle }

    -- ---- what is counted is what the model counts
    abbrev judged_verdict : unit.Unit → List ℕ → ℕ → ℕ → Verdict
    judged_verdict u cost t k =
        verdict_here (model.seen Name same shares room (model.resolve Name same shares room (store_of ms) (name_of u)) (store_of ms)) k
        (judging.batch_at s.head u cost t (goal.entry s.memory.rows s.head.tracked s.head.unit_room u (max t s.head.flow.at_ms))) (judging.fills s.head)

    answer_same : (u : unit.Unit) (cost : List ℕ) (t : ℕ) → calls.refused s (Judge u cost t) ≡ false → (calls.judges s u cost t).answer ≡ goal.answer_of (judged_verdict u cost t (clock stamp ms))
    answer_same u cost t f = judging.judge_answer room x y b.bounded s.head s.memory (store_of ms) at_clock u cost t f ∙ ap (λ (k : ℕ). goal.answer_of (judged_verdict u cost t k)) b.tied.clock_is

    admitted_same : (d : ℕ) (c : Call) → calls.refused s c ≡ false → calls.admitted d s c ≡ model.admitted Name same shares room (by_dim rate) (by_dim ceiling) d (see s c) ms
    admitted_same d (Judge u cost t) f = ap (λ (a : Result Verdict Refusal). calls.if_admitted a (get_or cost d 0)) (answer_same u cost t f) ∙ if-same (judged_verdict u cost t (clock stamp ms)) (get_or cost d 0)
    admitted_same d (Cut u cause.ReceiverCeiling cost) f = refl
    admitted_same d (Cut u cause.OverShare cost) f = refl
    admitted_same d (Cut u cause.RelayRate cost) f = refl
    admitted_same d (Rates r z t) f = refl
    admitted_same d (Read q) f = refl

    handed_same : (d : ℕ) (c : Call) → calls.handed d s c ≡ model.handed Name same shares room d (see s c) ms
    handed_same d (Judge u cost t) = refl
    handed_same d (Cut u cause.ReceiverCeiling cost) = refl
    handed_same d (Cut u cause.OverShare cost) = refl
    handed_same d (Cut u cause.RelayRate cost) = refl
    handed_same d (Rates r z t) = refl
    handed_same d (Read q) = refl

    -- the rate and the ceiling that the definitions read are the model's
    rate_same : (d : ℕ) → d < dims → get_or s.head.flow.rate d 0 ≡ ((store_of ms).pot d).rate
    rate_same d small = ap (λ (z : List ℕ). get_or z d 0) b.tied.rate_is ∙ ap (λ (p : Pot). p.rate) (b.tied.pot_is d small)

    ceiling_same : (d : ℕ) → d < dims → get_or s.head.flow.ceiling d 0 ≡ ((store_of ms).pot d).ceiling
    ceiling_same d small = ap (λ (z : List ℕ). get_or z d 0) b.tied.ceiling_is ∙ ap (λ (p : Pot). p.ceiling) (b.tied.pot_is d small)

    lawful_same : (c : Call) → calls.refused s c ≡ false → model.Lawful Name same shares room (see s c)
    lawful_same (Judge u cost t) f =
        (judging.judge_stamp room x y b.bounded s.head s.memory (store_of ms) at_clock u cost t f, judging.judge_small room x y b.bounded s.head s.memory (store_of ms) at_clock u cost t f, fill_lawful s.head x b.tied.rate_is b.bounded b.tied.level_is)
    lawful_same (Cut u cause.ReceiverCeiling cost) f = cutting.cut_small room x y b.bounded s.head s.memory (store_of ms) at_clock u cause.ReceiverCeiling cost f
    lawful_same (Cut u cause.OverShare cost) f = tt
    lawful_same (Cut u cause.RelayRate cost) f = tt
    lawful_same (Rates r z t) f = let a = changing.asked room x y s.head s.memory (store_of ms) at_clock r z t f in (a.stamp, bounded_rates r a.rates)
    lawful_same (Read q) f = tt

  -- ---- of one record
  key_same : (r k : Key) → calls.same_key r k ≡ model.same_key Name same shares room (lift r) (lift k)
  key_same shared shared = refl
  key_same shared (own v) = refl
  key_same (own u) shared = refl
  key_same (own u) (own v) = refl

  abbrev key_of : unit.Unit → List C → K
  key_of u ms = model.key Name same shares room (by_dim rate) (by_dim ceiling) (name_of u) ms

  module _ (r : Key) (s : State) (ms : List C) {x y : List ℕ} (b : Tie s ms x y) where
    judge_on : (u : unit.Unit) (cost : List ℕ) (t : ℕ) → calls.refused s (Judge u cost t) ≡ false → calls.same_key r (calls.key s u (calls.clock_at s t)) ≡ model.same_key Name same shares room (lift r) (key_of u ms)
    judge_on u cost t f =
        key_same r (calls.key s u (calls.clock_at s t))
        ∙ ap (λ (k : K). model.same_key Name same shares room (lift r) k) (sym (judging.judge_key room x y b.bounded s.head s.memory (store_of ms) (at_clock s ms b) u cost t f))

    cut_on : (u : unit.Unit) (c : Cause) (cost : List ℕ) → calls.refused s (Cut u c cost) ≡ false → calls.same_key r (calls.key s u s.head.flow.at_ms) ≡ model.same_key Name same shares room (lift r) (key_of u ms)
    cut_on u c cost f =
        key_same r (calls.key s u s.head.flow.at_ms)
        ∙ ap (λ (k : K). model.same_key Name same shares room (lift r) k) (sym (cutting.cut_key room x y b.bounded s.head s.memory (store_of ms) (at_clock s ms b) u c cost f))

    admitted_on_same : (d : ℕ) (c : Call) → calls.refused s c ≡ false → calls.admitted_on r d s c ≡ model.admitted_on Name same shares room (by_dim rate) (by_dim ceiling) (lift r) d (see s c) ms
    admitted_on_same d (Judge u cost t) f =
        ap (λ (x : Bool). cond x (calls.if_admitted (calls.judges s u cost t).answer (get_or cost d 0)) 0) (judge_on u cost t f)
        ∙ ap (λ (x : ℕ). cond (model.same_key Name same shares room (lift r) (key_of u ms)) x 0) (admitted_same s ms b d (Judge u cost t) f)
    admitted_on_same d (Cut u cause.ReceiverCeiling cost) f = refl
    admitted_on_same d (Cut u cause.OverShare cost) f = refl
    admitted_on_same d (Cut u cause.RelayRate cost) f = refl
    admitted_on_same d (Rates v z t) f = refl
    admitted_on_same d (Read q) f = refl

    handed_on_same : (d : ℕ) (c : Call) → calls.refused s c ≡ false → calls.handed_on r d s c ≡ model.handed_on Name same shares room (by_dim rate) (by_dim ceiling) (lift r) d (see s c) ms
    handed_on_same d (Judge u cost t) f = refl
    handed_on_same d (Cut u cause.ReceiverCeiling cost) f = ap (λ (x : Bool). cond x (get_or cost d 0) 0) (cut_on u cause.ReceiverCeiling cost f)
    handed_on_same d (Cut u cause.OverShare cost) f = refl
    handed_on_same d (Cut u cause.RelayRate cost) f = refl
    handed_on_same d (Rates v z t) f = refl
    handed_on_same d (Read q) f = refl

    tried_on_same : (d : ℕ) (c : Call) → calls.refused s c ≡ false → calls.tried_on r d s c ≡ model.tried_on Name same shares room (by_dim rate) (by_dim ceiling) (lift r) d (see s c) ms
    tried_on_same d (Judge u cost t) f = ap (λ (x : Bool). cond x (get_or cost d 0) 0) (judge_on u cost t f)
    tried_on_same d (Cut u cause.ReceiverCeiling cost) f = refl
    tried_on_same d (Cut u cause.OverShare cost) f = refl
    tried_on_same d (Cut u cause.RelayRate cost) f = refl
    tried_on_same d (Rates v z t) f = refl
    tried_on_same d (Read q) f = refl

    fill_on_same : (d : ℕ) (c : Call) → calls.refused s c ≡ false → calls.fill_on r d s c ≡ model.fill_on Name same shares room (by_dim rate) (by_dim ceiling) (lift r) d (see s c) ms
    fill_on_same d (Judge u cost t) f = ap (λ (x : Bool). cond x (units (at (calls.fills s) d)) 0) (judge_on u cost t f)
    fill_on_same d (Cut u cause.ReceiverCeiling cost) f = refl
    fill_on_same d (Cut u cause.OverShare cost) f = refl
    fill_on_same d (Cut u cause.RelayRate cost) f = refl
    fill_on_same d (Rates v z t) f = refl
    fill_on_same d (Read q) f = refl

    judged_on_same : (c : Call) → calls.refused s c ≡ false → calls.judged_on r s c ≡ model.judged_on Name same shares room (by_dim rate) (by_dim ceiling) (lift r) (see s c) ms
    judged_on_same (Judge u cost t) f = judge_on u cost t f
    judged_on_same (Cut u cause.ReceiverCeiling cost) f = refl
    judged_on_same (Cut u cause.OverShare cost) f = refl
    judged_on_same (Cut u cause.RelayRate cost) f = refl
    judged_on_same (Rates v z t) f = refl
    judged_on_same (Read q) f = refl

  -- the record is in the store
  present_same : (r : Key) (s : State) (ms : List C) {x y : List ℕ} → Tie s ms x y → calls.present r s ≡ demand.there (model.look Name same shares room (lift r) (store_of ms))
  present_same shared s ms b = refl
  present_same (own u) s ms b =
      let m = s.memory.rows in
      let w = sender.name_of u in
      there_is m (goal.find m w) ∙ ap demand.there (sym (finding.sought room m s.head.tracked b.tied.held.well w (table_below u)))
      ∙ ap (λ (rs : List (R room)). demand.there (model.find Name same shares room (named w) rs)) b.tied.rows_is
    where
      there_is : (m : Rows) (o : Option ℕ) → is_some o ≡ demand.there (finding.kept_at m o)
      there_is m None = refl
      there_is m (Some i) = refl

  -- ---- a refused call leaves the state
  pub refused_kept : (s : State) (c : Call) → calls.refused s c ≡ true → calls.step s c ≡ s
  refused_kept s (Judge u cost t) f = judge_kept s.head s.memory u cost t f
  refused_kept s (Cut u c cost) f = cut-kept s.head s.memory u c cost f
  refused_kept s (Rates r z t) f = ap (λ (h : Shedder). calls.state_of h s.memory) (changing.rates_kept s.head s.memory r z t f)
  refused_kept s (Read q) f = refl

  -- ---- along the list
  pub record Fit (e : Event) (es : List Event) : Type 0 where
    pub tie : Tie e.before (shown seen es) (rate_of rate es) (ceiling_of ceiling es)
    pub ok : calls.refused e.before e.call ≡ false
    -- the clock goes by the same stamps
    pub clock_is : clock calls.stamp es ≡ clock stamp (shown seen es)

  pub record Whole (s : State) (es : List Event) : Type 0 where
    pub tie : Tie s (shown seen es) (rate_of rate es) (ceiling_of ceiling es)
    pub along : Along seen Fit es
    pub clock_is : clock calls.stamp es ≡ clock stamp (shown seen es)

  module _ (first : State) (b : Tied room rate ceiling first.head first.memory.rows (store_of []) 0) where
    pub whole : (h : List Call) → Whole (calls.state first h) (calls.events first h)
    unfolding calls.state calls.events shown Along clock rate_of ceiling_of
    whole [] = record { tie = record { bounded = rates; tied = b }; along = tt; clock_is = refl }
    whole (c ∷ h) = go (whole h) (calls.refused (calls.state first h) c) refl
      where
        go : Whole (calls.state first h) (calls.events first h) → (x : Bool) → calls.refused (calls.state first h) c ≡ x
            → Whole (calls.step (calls.state first h) c) (cond x (calls.events first h) (calls.event (calls.state first h) c ∷ calls.events first h))
        go w true f = subst (λ (s : State). Whole s (calls.events first h)) (sym (refused_kept (calls.state first h) c f)) w
        go w false f = record {
          tie = step_tied (calls.state first h) (shown seen (calls.events first h)) w.tie c f;
          along = (record { tie = w.tie; ok = f; clock_is = w.clock_is }, w.along);
          clock_is = let s = stamp_same (calls.state first h) c in let t = w.clock_is in omega arith;
        }

    -- ---- runs
    abbrev es : List Call → List Event
    es h = calls.events first h

    clock_same : (x : List Event) → Along seen Fit x → clock calls.stamp x ≡ clock stamp (shown seen x)
    clock_same x a = clock_along seen Fit calls.stamp stamp (λ e r p. stamp_same e.before e.call) x a

    back_same : (k : ℕ) (x : List Event) → Along seen Fit x → clock calls.stamp (back k x) ≡ clock stamp (back k (shown seen x))
    back_same k x a = clock_same (back k x) (back_along seen Fit k x a) ∙ ap (λ (ms : List C). clock stamp ms) (back_shown seen k x)

    lawful_all : (x : List Event) → Along seen Fit x → Each (model.Lawful Name same shares room) (shown seen x)
    lawful_all x a = each_along seen Fit (model.Lawful Name same shares room) (λ e r p. lawful_same e.before (shown seen r) p.tie e.call p.ok) x a

    abbrev the_claim : model.Demand Name same shares room (by_dim rate) (by_dim ceiling)
    the_claim = store_claim Name same same_is same_self shares room (by_dim rate) (by_dim ceiling) (bounded_rates rate rates)

    -- the gap before a call, and the burst after it
    next_clock : (e : Event) (x : List Event) → Fit e x → clock calls.stamp (e ∷ x) ≡ clock stamp (seen e x ∷ shown seen x)
    unfolding clock
    next_clock e x p = let s = stamp_same e.before e.call in let t = p.clock_is in omega arith

    carried_same : (d : ℕ) → d < dims → (e : Event) (x : List Event) → Fit e x → calls.carried d e x ≡ model.carried Name same shares room (by_dim rate) (by_dim ceiling) d (seen e x) (shown seen x)
    carried_same d small e x p =
        ap (λ (r : ℕ). r * (clock calls.stamp (e ∷ x) - clock calls.stamp x)) (rate_same e.before (shown seen x) p.tie d small) ∙ rw (next_clock e x p, p.clock_is)

    burst_same : (d : ℕ) → d < dims → (e : Event) (x : List Event) → Fit e x → calls.burst_after d e.before e.call ≡ model.burst_after Name same shares room (by_dim rate) (by_dim ceiling) d (seen e x) (shown seen x)
    burst_same d small e x p =
        let s = calls.after e in
        let ms = seen e x ∷ shown seen x in
        let t = step_tied e.before (shown seen x) p.tie e.call p.ok in
        rw (rate_same s ms t d small, ceiling_same s ms t d small)

    pub from_first : (h : List Call) (d : ℕ) → d < dims → (k : ℕ)
        → 1000 * parts * sum (calls.by (calls.admitted d)) (suc k) (es h)
        ≤ 1000 * parts * oldest (calls.by (calls.burst_after d)) k (es h) + parts * sum (calls.carried d) k (es h) + 1000 * parts * sum (calls.by (calls.handed d)) (suc k) (es h) + 1000 * suc k
    from_first h d small k =
        let a = (whole h).along in
        rw (
          sum_along seen Fit (calls.by (calls.admitted d)) (model.admitted Name same shares room (by_dim rate) (by_dim ceiling) d) (λ e r p. admitted_same e.before (shown seen r) p.tie d e.call p.ok) (suc k) (es h) a,
          oldest_along seen Fit (calls.by (calls.burst_after d)) (model.burst_after Name same shares room (by_dim rate) (by_dim ceiling) d) (burst_same d small) k (es h) a,
          sum_along seen Fit (calls.carried d) (model.carried Name same shares room (by_dim rate) (by_dim ceiling) d) (carried_same d small) k (es h) a,
          sum_along seen Fit (calls.by (calls.handed d)) (model.handed Name same shares room d) (λ e r p. handed_same e.before (shown seen r) p.tie d e.call) (suc k) (es h) a,
        )
        (the_claim.relay (shown seen (es h)) (lawful_all (es h) a) d small k)

    share : (r : Key) (h : List Call) (d : ℕ) → d < dims → (k : ℕ)
        → 1000 * parts * sum (calls.by (calls.admitted_on r d)) (suc k) (es h) * power 1074
        ≤ parts * ((most_depth + calls.span (es h) k) * highest (calls.by (calls.fill_on r d)) (suc k) (es h)) + (1000 * parts * sum (calls.by (calls.handed_on r d)) (suc k) (es h) + 1000 * suc k) * power 1074
    share r h d small k =
        let a = (whole h).along in
        rw (
          sum_along seen Fit (calls.by (calls.admitted_on r d)) (model.admitted_on Name same shares room (by_dim rate) (by_dim ceiling) (lift r) d) (λ e x p. admitted_on_same r e.before (shown seen x) p.tie d e.call p.ok) (suc k) (es h) a,
          sum_along seen Fit (calls.by (calls.handed_on r d)) (model.handed_on Name same shares room (by_dim rate) (by_dim ceiling) (lift r) d) (λ e x p. handed_on_same r e.before (shown seen x) p.tie d e.call p.ok) (suc k) (es h) a,
          highest_along seen Fit (calls.by (calls.fill_on r d)) (model.fill_on Name same shares room (by_dim rate) (by_dim ceiling) (lift r) d) (λ e x p. fill_on_same r e.before (shown seen x) p.tie d e.call p.ok) (suc k) (es h) a,
          back_same k (es h) a,
          clock_same (es h) a,
        )
        (the_claim.share (lift r) (shown seen (es h)) (lawful_all (es h) a) d small k)

    -- ---- no over share: what holds of the real runs holds of the model's
    unfoldable Modest : Key → ℕ → List Event → Type 0
    Modest r d x = (k : ℕ) → calls.Present r k x
        → (1000 * parts * sum (calls.by (calls.tried_on r d)) (suc k) x + 1000 * suc k) * power 1074 ≤ parts * ((least_depth + calls.span x k) * lowest (calls.by (calls.judged_on r)) (calls.by (calls.fill_on r d)) k x)

    unfoldable ModelModest : K → ℕ → List C → Type 0
    ModelModest r d x = (k : ℕ) → model.Present Name same shares room (by_dim rate) (by_dim ceiling) r k x
        → (1000 * parts * sum (model.tried_on Name same shares room (by_dim rate) (by_dim ceiling) r d) (suc k) x + 1000 * suc k) * power 1074
        ≤ parts * ((least_depth + model.span Name same shares room x k) * lowest (model.judged_on Name same shares room (by_dim rate) (by_dim ceiling) r) (model.fill_on Name same shares room (by_dim rate) (by_dim ceiling) r d) k x)

    there-same : (r : Key) (e : Event) (x : List Event) → Fit e x → calls.present_after r (e ∷ x) ≡ demand.there (model.look Name same shares room (lift r) (store_of (seen e x ∷ shown seen x)))
    there-same r e x p = present_same r (calls.after e) (seen e x ∷ shown seen x) (step_tied e.before (shown seen x) p.tie e.call p.ok)

    modest_same : (r : Key) (d : ℕ) (x : List Event) → Along seen Fit x → Modest r d x → ModelModest (lift r) d (shown seen x)
    unfolding Modest ModelModest
    modest_same r d x a f k p =
        rw (
          ← sum_along seen Fit (calls.by (calls.tried_on r d)) (model.tried_on Name same shares room (by_dim rate) (by_dim ceiling) (lift r) d) (λ e x p. tried_on_same r e.before (shown seen x) p.tie d e.call p.ok) (suc k) x a,
          ← lowest_along seen Fit (calls.by (calls.judged_on r)) (model.judged_on Name same shares room (by_dim rate) (by_dim ceiling) (lift r)) (calls.by (calls.fill_on r d)) (model.fill_on Name same shares room (by_dim rate) (by_dim ceiling) (lift r) d)
              (λ e x p. judged_on_same r e.before (shown seen x) p.tie e.call p.ok) (λ e x p. fill_on_same r e.before (shown seen x) p.tie d e.call p.ok) k x a,
          ← back_same k x a,
          ← clock_same x a,
        )
        (f k (since_along seen Fit (calls.by (calls.judged_on r)) (model.judged_on Name same shares room (by_dim rate) (by_dim ceiling) (lift r)) (calls.present_after r) (λ (ms : List C). demand.there (model.look Name same shares room (lift r) (store_of ms)))
        (λ e x p. judged_on_same r e.before (shown seen x) p.tie e.call p.ok) (there-same r) k x a p))

    module _ (h : List Call) (u : unit.Unit) (cost : List ℕ) (t : ℕ) (f : calls.refused (calls.state first h) (Judge u cost t) ≡ false) where
      abbrev s : State
      s = calls.state first h

      abbrev j : Call
      j = Judge u cost t

      abbrev ms : List C
      ms = shown seen (es h)

      abbrev r : Key
      r = calls.key s u (calls.clock_at s t)

      newest : calls.event s j ∷ es h ≡ es (j ∷ h)
      unfolding calls.events
      newest = sym (ap (λ (x : Bool). cond x (calls.events first h) (calls.event s j ∷ calls.events first h)) f)

      fits : Along seen Fit (calls.event s j ∷ es h)
      unfolding Along
      fits = (record { tie = (whole h).tie; ok = f; clock_is = (whole h).clock_is }, (whole h).along)

      shown_next : shown seen (calls.event s j ∷ es h) ≡ see s j ∷ ms
      unfolding shown
      shown_next = refl

      key-is : key_of u ms ≡ lift r
      key-is = judging.judge_key room (rate_of rate (es h)) (ceiling_of ceiling (es h)) (whole h).tie.bounded s.head s.memory (store_of ms) (at_clock s ms (whole h).tie) u cost t f

      modest : ((d : ℕ) → d < dims → Modest r d (es (j ∷ h))) → (d : ℕ) → d < dims → ModelModest (key_of u ms) d (see s j ∷ ms)
      modest m d small =
          subst (λ (k : K). ModelModest k d (see s j ∷ ms)) (sym key-is)
          (subst (ModelModest (lift r) d) shown_next (modest_same r d (calls.event s j ∷ es h) fits (subst (Modest r d) (sym newest) (m d small))))

      spared : T (Ieee.le (calls.want s u cost t) one) → ((d : ℕ) → d < dims → Modest r d (es (j ∷ h))) → (calls.judges s u cost t).answer ≡ Ok verdict.OverShare → ⊥
      unfolding ModelModest
      spared w m a =
          the_claim.spared (name_of u) (judging.batch_at s.head u cost t (calls.entry s u (calls.clock_at s t))) (judging.fills s.head) _ _ ms (lawful_all (es h) (whole h).along) (lawful_same s ms (whole h).tie j f)
          (subst (λ (c : List Float). T (Ieee.le (calls.want_of (calls.used s u (calls.clock_at s t)) (calls.clock_at s t) c (calls.fills s) s.head.level) one)) (numbers_priced cost) w)
          (modest m)
          (over_of (judged_verdict s ms (whole h).tie u cost t (clock stamp ms)) (sym (answer_same s ms (whole h).tie u cost t f) ∙ a))

    fill : (h : List Call) (d : ℕ) → d < dims → calls.Valued (at (calls.fills (calls.state first h)) d)
    fill h d small = let t = (whole h).tie in valued _ (fill_lawful (calls.state first h).head (rate_of rate (es h)) t.tied.rate_is t.bounded t.tied.level_is d small).0

    pub demanded : calls.Demand first
    unfolding Modest
    demanded = record {
      relay = λ h d small k.
          lifted (1000 * parts * sum (calls.by (calls.admitted d)) (suc k) (es h)) (parts * sum (calls.carried d) k (es h)) (1000 * parts * sum (calls.by (calls.handed d)) (suc k) (es h)) (1000 * suc k)
          (from_first h d small k) (oldest_highest (calls.by (calls.burst_after d)) k (es h));
      share = share;
      spared = λ h u cost t f w m a. spared h u cost t f w m a;
      fill = fill;
    }

-- THE THEOREM
pub demand_three : Claim
demand_three was m rate ceiling rates e = demanded (length m.rows.units) rate ceiling rates (calls.left was m rate ceiling) (left_tied was m rate ceiling e rates)
