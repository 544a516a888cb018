-- Demand 3 over a store, from the demand over one record: each history is seen as that record sees it. Assumes nothing.
use mathlib.Core.Path.{◌≡◌, refl, sym, ap, ◌∙◌, subst}
use Prim.Native.Nat.{ℕ, suc, ◌+◌, ◌-◌, ◌*◌, ◌^◌, ◌≤◌, ◌<◌, max}
use native.Mathlib.Omega.{arith}
use mathlib.Core.Bool.{Bool, true, false, cond, true≢false}
use mathlib.Core.List.{List, [], ◌∷◌}
use lib.Dec.{T}
use lib.Ieee as Ieee
use lib.Ieee.{Float}
use Rattle.ieee.specs.Doubles.{one}
use Rattle.ieee.specs.Units.{power, units}
use Rattle.flow.specs.declared.Use.{Use}
use Rattle.verdict.specs.declared.Verdict.{Verdict}
use Rattle.verdict.specs.declared.Verdict.TheVariants.{OverShare}
use Rattle.flow.specs.Flow as flow
use Rattle.flow.specs.Flow.{dims, at}
use Rattle.fair.specs.Runs.{sum, highest, oldest, lowest, clock, back, Each}
use Rattle.fair.specs.Bounds.{most_depth, least_depth, parts}
use Rattle.fair.specs.Tokens.{burst}
use Rattle.fair.specs.Demand as demand
use Rattle.fair.specs.Demand.{Batch, Deed, Here, There, CutThere, Rates, Idle, Kept, absent, present, State, does, verdict_here, verdict_there, credit_holds, is_admitted, settled, credited, priced, state}
use Rattle.fair.specs.Store as shed
use Rattle.fair.specs.Store.{Row, Key, shared, own, Store, Call, Judge, Cut, Other, Claim}
use Rattle.fair.proofs.Runs.{shown, sum_shown, highest_shown, oldest_shown, lowest_shown, since_shown, clock_shown, back_shown, each_shown}
use Rattle.fair.proofs.Rows.{Distinct, distinct_put, distinct_swept, goes, get-same, get_other, get_swept, stays, goes_old, young, same_of}
use Rattle.fair.proofs.Demand.{demand_three}

settled_at : (ok : Bool) (u : Use) (c : ℕ → ℕ) → (settled ok u c).at_ms ≡ u.at_ms
settled_at true u c = refl
settled_at false u c = refl

module _ (Name : Type 0) (same : Name → Name → Bool) (is : (u v : Name) → T (same u v) → u ≡ v) (self : (u : Name) → T (same u u)) (shares : Name → Bool) (room : ℕ) where
  abbrev R : Type 0
  R = Row Name same shares room

  abbrev K : Type 0
  K = Key Name same shares room

  abbrev S : Type 0
  S = Store Name same shares room

  abbrev C : Type 0
  C = Call Name same shares room

  abbrev look : K → S → Kept
  look r s = shed.look Name same shares room r s

  abbrev seen : K → S → State
  seen r s = shed.seen Name same shares room r s

  abbrev same_key : K → K → Bool
  same_key r k = shed.same_key Name same shares room r k

  abbrev stamp : C → ℕ
  stamp c = shed.stamp Name same shares room c

  abbrev resolve : S → Name → K
  resolve s u = shed.resolve Name same shares room s u

  abbrev Apart : List R → Type 0
  Apart rs = Distinct Name same shares room is self rs

  abbrev leaves : K → (ℕ → R → Bool) → List R → Bool
  leaves shared p rs = false
  leaves (own v) p rs = goes Name same shares room is self v p rs

  abbrev stale : (ℕ → R → Bool) → ℕ → ℕ → R → Bool
  stale scanned now = shed.stale Name same shares room scanned now

  key_of : (r k : K) → same_key r k ≡ true → r ≡ k
  key_of shared shared e = refl
  key_of shared (own v) e = absurd (true≢false (sym e))
  key_of (own u) shared e = absurd (true≢false (sym e))
  key_of (own u) (own v) e = ap own (same_of Name same shares room is self u v e)

  -- ---- what a judgement on the record k does to the record r
  abbrev judged : K → S → ℕ → Batch → List Float → State
  judged k s clk b fill = does (seen k s) clk (Here b fill)

  -- the record that is judged is there as it was left
  own_look : (k : K) (s : S) (clk : ℕ) (b : Batch) (fill : List Float) (scanned : ℕ → R → Bool) (place : ℕ) → Apart s.rows
      → look k (shed.swept Name same shares room (stale scanned (max b.stamp clk)) (shed.after Name same shares room place k (judged k s clk b fill) s)) ≡ (judged k s clk b fill).used
  own_look shared s clk b fill scanned place z = refl
  own_look (own v) s clk b fill scanned place z =
      let now = max b.stamp clk in
      let ok = is_admitted (verdict_here (seen (own v) s) clk b fill) in
      let w = flow.tried (flow.fade_to (credited (seen (own v) s) clk b fill) now) (priced b.cost) in
      let x = settled ok w b.cost in
      get_swept Name same shares room is self v (stale scanned now) (shed.put Name same shares room place v x s.rows) (distinct_put Name same shares room is self place v x s.rows z)
      ∙ rw (stays Name same shares room is self place v (stale scanned now) x s.rows (young Name same shares room is self scanned now x (omega (arith, settled_at ok w b.cost))), get-same Name same shares room is self place v x s.rows)

  -- another is as it was, or is dropped
  other_look : (r k : K) (s : S) (clk : ℕ) (b : Batch) (fill : List Float) (scanned : ℕ → R → Bool) (place : ℕ) → Apart s.rows → same_key r k ≡ false
      → look r (shed.swept Name same shares room (stale scanned (max b.stamp clk)) (shed.after Name same shares room place k (judged k s clk b fill) s))
      ≡ demand.dropped (leaves r (stale scanned (max b.stamp clk)) (shed.rows_with Name same shares room place k (judged k s clk b fill).used s.rows)) (look r s) (max b.stamp clk)
  other_look shared shared s clk b fill scanned place z e = absurd (true≢false e)
  other_look shared (own v) s clk b fill scanned place z e = refl
  other_look (own u) shared s clk b fill scanned place z e =
      let now = max b.stamp clk in
      get_swept Name same shares room is self u (stale scanned now) s.rows z ∙ sym (goes_old Name same shares room is self u scanned now s.rows)
  other_look (own u) (own v) s clk b fill scanned place z e =
      let now = max b.stamp clk in
      let ok = is_admitted (verdict_here (seen (own v) s) clk b fill) in
      let x = settled ok (flow.tried (flow.fade_to (credited (seen (own v) s) clk b fill) now) (priced b.cost)) b.cost in
      let rs = shed.put Name same shares room place v x s.rows in
      get_swept Name same shares room is self u (stale scanned now) rs (distinct_put Name same shares room is self place v x s.rows z) ∙ sym (goes_old Name same shares room is self u scanned now rs)
      ∙ ap (λ (y : Kept). demand.dropped (goes Name same shares room is self u (stale scanned now) rs) y now) (get_other Name same shares room is self place v u x s.rows e)

  -- ---- a call as the record r sees it
  abbrev judge_deed : Bool → K → K → S → ℕ → Batch → List Float → (ℕ → R → Bool) → ℕ → Deed
  judge_deed m r k s clk b fill scanned place = cond m (Here b fill)
      (There b (credit_holds (seen k s) clk b fill) (leaves r (stale scanned (max b.stamp clk)) (shed.rows_with Name same shares room place k (judged k s clk b fill).used s.rows)))

  abbrev deed : K → S → ℕ → C → Deed
  deed r s clk (Judge u b fill scanned place) = judge_deed (same_key r (resolve s u)) r (resolve s u) s clk b fill scanned place
  deed r s clk (Cut u c place) = cond (same_key r (resolve s u)) (demand.Cut c) (CutThere c)
  deed r s clk (shed.Rates t x z) = Rates t x z
  deed r s clk Other = Idle

  judge_follow : (m : Bool) (r k : K) (s : S) (clk : ℕ) (b : Batch) (fill : List Float) (scanned : ℕ → R → Bool) (place : ℕ) → Apart s.rows → same_key r k ≡ m
      → seen r (shed.swept Name same shares room (stale scanned (max b.stamp clk)) (shed.after Name same shares room place k (judged k s clk b fill) s)) ≡ does (seen r s) clk (judge_deed m r k s clk b fill scanned place)
  judge_follow true r k s clk b fill scanned place z e =
      subst (λ (q : K). seen q (shed.swept Name same shares room (stale scanned (max b.stamp clk)) (shed.after Name same shares room place k (judged k s clk b fill) s)) ≡ does (seen q s) clk (Here b fill)) (sym (key_of r k e))
      (ap (λ (y : Kept). record { pot = (judged k s clk b fill).pot; used = y }) (own_look k s clk b fill scanned place z))
  judge_follow false r k s clk b fill scanned place z e = ap (λ (y : Kept). record { pot = (judged k s clk b fill).pot; used = y }) (other_look r k s clk b fill scanned place z e)

  cut_look : (k : K) (s : S) (clk : ℕ) (c : ℕ → ℕ) (place : ℕ) → look k (shed.after Name same shares room place k (does (seen k s) clk (demand.Cut c)) s) ≡ (does (seen k s) clk (demand.Cut c)).used
  cut_look shared s clk c place = refl
  cut_look (own v) s clk c place = get-same Name same shares room is self place v (flow.handed_back (demand.found (look (own v) s) clk) (priced c)) s.rows

  cut_other : (r k : K) (s : S) (clk : ℕ) (c : ℕ → ℕ) (place : ℕ) → same_key r k ≡ false → look r (shed.after Name same shares room place k (does (seen k s) clk (demand.Cut c)) s) ≡ look r s
  cut_other shared shared s clk c place e = absurd (true≢false e)
  cut_other shared (own v) s clk c place e = refl
  cut_other (own u) shared s clk c place e = refl
  cut_other (own u) (own v) s clk c place e = get_other Name same shares room is self place v u (flow.handed_back (demand.found (look (own v) s) clk) (priced c)) s.rows e

  cut_follow : (m : Bool) (r k : K) (s : S) (clk : ℕ) (c : ℕ → ℕ) (place : ℕ) → same_key r k ≡ m
      → seen r (shed.after Name same shares room place k (does (seen k s) clk (demand.Cut c)) s) ≡ does (seen r s) clk (cond m (demand.Cut c) (CutThere c))
  cut_follow true r k s clk c place e =
      subst (λ (q : K). seen q (shed.after Name same shares room place k (does (seen k s) clk (demand.Cut c)) s) ≡ does (seen q s) clk (demand.Cut c)) (sym (key_of r k e))
      (ap (λ (y : Kept). record { pot = (does (seen k s) clk (demand.Cut c)).pot; used = y }) (cut_look k s clk c place))
  cut_follow false r k s clk c place e = ap (λ (y : Kept). record { pot = (does (seen k s) clk (demand.Cut c)).pot; used = y }) (cut_other r k s clk c place e)

  follow : (r : K) (s : S) (clk : ℕ) (c : C) → Apart s.rows → seen r (shed.step Name same shares room s clk c) ≡ does (seen r s) clk (deed r s clk c)
  follow r s clk (Judge u b fill scanned place) z = judge_follow (same_key r (resolve s u)) r (resolve s u) s clk b fill scanned place z refl
  follow r s clk (Cut u c place) z = cut_follow (same_key r (resolve s u)) r (resolve s u) s clk c place refl
  follow shared s clk (shed.Rates t x y) z = refl
  follow (own v) s clk (shed.Rates t x y) z = refl
  follow r s clk Other z = refl

  -- ---- no name twice
  with_apart : (k : K) (place : ℕ) (x : Kept) (rs : List R) → Apart rs → Apart (shed.rows_with Name same shares room place k x rs)
  with_apart shared place x rs z = z
  with_apart (own u) place absent rs z = z
  with_apart (own u) place (present x) rs z = distinct_put Name same shares room is self place u x rs z

  step_apart : (s : S) (clk : ℕ) (c : C) → Apart s.rows → Apart (shed.step Name same shares room s clk c).rows
  step_apart s clk (Judge u b fill scanned place) z =
      distinct_swept Name same shares room is self (stale scanned (max b.stamp clk)) (shed.rows_with Name same shares room place (resolve s u) (judged (resolve s u) s clk b fill).used s.rows)
      (with_apart (resolve s u) place (judged (resolve s u) s clk b fill).used s.rows z)
  step_apart s clk (Cut u c place) z = with_apart (resolve s u) place (does (seen (resolve s u) s) clk (demand.Cut c)).used s.rows z
  step_apart s clk (shed.Rates t x y) z = z
  step_apart s clk Other z = z

  -- ---- every history
  abbrev is_shared : K → Bool
  is_shared shared = true
  is_shared (own u) = false

  module _ (rate ceiling : ℕ → ℕ) where
    abbrev store : List C → S
    store h = shed.store Name same shares room rate ceiling h

    apart : (h : List C) → Apart (store h).rows
    unfolding shed.store Distinct
    apart [] = tt
    apart (c ∷ h) = step_apart (store h) (clock stamp h) c (apart h)

    module _ (r : K) where
      see : C → List C → Deed
      see c h = deed r (store h) (clock stamp h) c

      abbrev over : List Deed → State
      over h = state rate ceiling (is_shared r) h

      stamp_pick : (m : Bool) (x y : Deed) (t : ℕ) → demand.stamp x ≡ t → demand.stamp y ≡ t → t ≡ demand.stamp (cond m x y)
      stamp_pick true x y t e f = sym e
      stamp_pick false x y t e f = sym f

      stamp_same : (c : C) (h : List C) → stamp c ≡ demand.stamp (see c h)
      unfolding see
      stamp_same (Judge u b fill scanned place) h = go (same_key r (resolve (store h) u))
        where
          go : (m : Bool) → b.stamp ≡ demand.stamp (judge_deed m r (resolve (store h) u) (store h) (clock stamp h) b fill scanned place)
          go true = refl
          go false = refl
      stamp_same (Cut u c place) h = stamp_pick (same_key r (resolve (store h) u)) (demand.Cut c) (CutThere c) 0 refl refl
      stamp_same (shed.Rates t x z) h = refl
      stamp_same Other h = refl

      clock_same : (h : List C) → clock stamp h ≡ clock demand.stamp (shown see h)
      clock_same h = clock_shown see stamp demand.stamp stamp_same h

      start-same : (r : K) → seen r (store []) ≡ state rate ceiling (is_shared r) []
      unfolding shed.store state
      start-same shared = refl
      start-same (own u) = refl

      -- THE STORE'S LEMMA: what r sees of the store is what its own history makes
      seen_same : (h : List C) → seen r (store h) ≡ over (shown see h)
      unfolding shed.store state shown see
      seen_same [] = start-same r
      seen_same (c ∷ h) = follow r (store h) (clock stamp h) c (apart h)
          ∙ ap (λ (x : State). does x (clock stamp h) (deed r (store h) (clock stamp h) c)) (seen_same h)
          ∙ ap (λ (k : ℕ). does (over (shown see h)) k (deed r (store h) (clock stamp h) c)) (clock_same h)

      -- ---- the sums
      verdict_same : (h : List C) (k : K) (b : Batch) (fill : List Float) → r ≡ k → verdict_here (seen k (store h)) (clock stamp h) b fill ≡ verdict_here (over (shown see h)) (clock demand.stamp (shown see h)) b fill
      verdict_same h k b fill e =
          ap (λ (q : K). verdict_here (seen q (store h)) (clock stamp h) b fill) (sym e) ∙ ap (λ (x : State). verdict_here x (clock stamp h) b fill) (seen_same h)
          ∙ ap (λ (t : ℕ). verdict_here (over (shown see h)) t b fill) (clock_same h)

      verdict_other : (h : List C) (k : K) (b : Batch) (fill : List Float)
          → verdict_here (seen k (store h)) (clock stamp h) b fill ≡ verdict_there (over (shown see h)) (clock demand.stamp (shown see h)) b (credit_holds (seen k (store h)) (clock stamp h) b fill)
      verdict_other h k b fill =
          let c = credit_holds (seen k (store h)) (clock stamp h) b fill in
          ap (λ (x : State). verdict_there x (clock stamp h) b c) (seen_same h) ∙ ap (λ (t : ℕ). verdict_there (over (shown see h)) t b c) (clock_same h)

      module _ (d : ℕ) where
        admitted_same : (c : C) (h : List C) → shed.admitted Name same shares room rate ceiling d c h ≡ demand.admitted rate ceiling (is_shared r) d (see c h) (shown see h)
        unfolding see
        admitted_same (Judge u b fill scanned place) h = go (same_key r (resolve (store h) u)) refl
          where
            go : (m : Bool) → same_key r (resolve (store h) u) ≡ m
                → cond (is_admitted (verdict_here (seen (resolve (store h) u) (store h)) (clock stamp h) b fill)) (b.cost d) 0
                ≡ demand.admitted rate ceiling (is_shared r) d (judge_deed m r (resolve (store h) u) (store h) (clock stamp h) b fill scanned place) (shown see h)
            go true e = ap (λ (v : Verdict). cond (is_admitted v) (b.cost d) 0) (verdict_same h (resolve (store h) u) b fill (key_of r (resolve (store h) u) e))
            go false e = ap (λ (v : Verdict). cond (is_admitted v) (b.cost d) 0) (verdict_other h (resolve (store h) u) b fill)
        admitted_same (Cut u c place) h = go (same_key r (resolve (store h) u))
          where
            go : (m : Bool) → 0 ≡ demand.admitted rate ceiling (is_shared r) d (cond m (demand.Cut c) (CutThere c)) (shown see h)
            go true = refl
            go false = refl
        admitted_same (shed.Rates t x z) h = refl
        admitted_same Other h = refl

        handed_same : (c : C) (h : List C) → shed.handed Name same shares room d c h ≡ demand.handed d (see c h) (shown see h)
        unfolding see
        handed_same (Judge u b fill scanned place) h = go (same_key r (resolve (store h) u))
          where
            go : (m : Bool) → 0 ≡ demand.handed d (judge_deed m r (resolve (store h) u) (store h) (clock stamp h) b fill scanned place) (shown see h)
            go true = refl
            go false = refl
        handed_same (Cut u c place) h = go (same_key r (resolve (store h) u))
          where
            go : (m : Bool) → c d ≡ demand.handed d (cond m (demand.Cut c) (CutThere c)) (shown see h)
            go true = refl
            go false = refl
        handed_same (shed.Rates t x z) h = refl
        handed_same Other h = refl

        next_clock : (c : C) (h : List C) → clock stamp (c ∷ h) ≡ clock demand.stamp (see c h ∷ shown see h)
        unfolding shown
        next_clock c h = clock_same (c ∷ h)

        carried_same : (c : C) (h : List C) → shed.carried Name same shares room rate ceiling d c h ≡ demand.carried rate ceiling (is_shared r) d (see c h) (shown see h)
        carried_same c h = ap (λ (x : State). (x.pot d).rate * (clock stamp (c ∷ h) - clock stamp h)) (seen_same h) ∙ rw (← clock_same h, ← next_clock c h)

        burst_same : (c : C) (h : List C) → shed.burst_after Name same shares room rate ceiling d c h ≡ demand.burst_after rate ceiling (is_shared r) d (see c h) (shown see h)
        unfolding shown
        burst_same c h = ap (λ (x : State). burst (x.pot d).rate (x.pot d).ceiling) (seen_same (c ∷ h))

        admitted_on_same : (c : C) (h : List C) → shed.admitted_on Name same shares room rate ceiling r d c h ≡ demand.admitted_here rate ceiling (is_shared r) d (see c h) (shown see h)
        unfolding see
        admitted_on_same (Judge u b fill scanned place) h = go (same_key r (resolve (store h) u)) refl
          where
            go : (m : Bool) → same_key r (resolve (store h) u) ≡ m
                → cond m (cond (is_admitted (verdict_here (seen (resolve (store h) u) (store h)) (clock stamp h) b fill)) (b.cost d) 0) 0
                ≡ demand.admitted_here rate ceiling (is_shared r) d (judge_deed m r (resolve (store h) u) (store h) (clock stamp h) b fill scanned place) (shown see h)
            go true e = ap (λ (v : Verdict). cond (is_admitted v) (b.cost d) 0) (verdict_same h (resolve (store h) u) b fill (key_of r (resolve (store h) u) e))
            go false e = refl
        admitted_on_same (Cut u c place) h = go (same_key r (resolve (store h) u))
          where
            go : (m : Bool) → 0 ≡ demand.admitted_here rate ceiling (is_shared r) d (cond m (demand.Cut c) (CutThere c)) (shown see h)
            go true = refl
            go false = refl
        admitted_on_same (shed.Rates t x z) h = refl
        admitted_on_same Other h = refl

        -- what needs no state: over the deed that m picks
        handed_on_same : (c : C) (h : List C) → shed.handed_on Name same shares room rate ceiling r d c h ≡ demand.handed_here d (see c h) (shown see h)
        unfolding see
        handed_on_same (Judge u b fill scanned place) h = go (same_key r (resolve (store h) u))
          where
            go : (m : Bool) → 0 ≡ demand.handed_here d (judge_deed m r (resolve (store h) u) (store h) (clock stamp h) b fill scanned place) (shown see h)
            go true = refl
            go false = refl
        handed_on_same (Cut u c place) h = go (same_key r (resolve (store h) u))
          where
            go : (m : Bool) → cond m (c d) 0 ≡ demand.handed_here d (cond m (demand.Cut c) (CutThere c)) (shown see h)
            go true = refl
            go false = refl
        handed_on_same (shed.Rates t x z) h = refl
        handed_on_same Other h = refl

        tried_on_same : (c : C) (h : List C) → shed.tried_on Name same shares room rate ceiling r d c h ≡ demand.tried_here d (see c h) (shown see h)
        unfolding see
        tried_on_same (Judge u b fill scanned place) h = go (same_key r (resolve (store h) u))
          where
            go : (m : Bool) → cond m (b.cost d) 0 ≡ demand.tried_here d (judge_deed m r (resolve (store h) u) (store h) (clock stamp h) b fill scanned place) (shown see h)
            go true = refl
            go false = refl
        tried_on_same (Cut u c place) h = go (same_key r (resolve (store h) u))
          where
            go : (m : Bool) → 0 ≡ demand.tried_here d (cond m (demand.Cut c) (CutThere c)) (shown see h)
            go true = refl
            go false = refl
        tried_on_same (shed.Rates t x z) h = refl
        tried_on_same Other h = refl

        fill_on_same : (c : C) (h : List C) → shed.fill_on Name same shares room rate ceiling r d c h ≡ demand.fill_here d (see c h) (shown see h)
        unfolding see
        fill_on_same (Judge u b fill scanned place) h = go (same_key r (resolve (store h) u))
          where
            go : (m : Bool) → cond m (units (at fill d)) 0 ≡ demand.fill_here d (judge_deed m r (resolve (store h) u) (store h) (clock stamp h) b fill scanned place) (shown see h)
            go true = refl
            go false = refl
        fill_on_same (Cut u c place) h = go (same_key r (resolve (store h) u))
          where
            go : (m : Bool) → 0 ≡ demand.fill_here d (cond m (demand.Cut c) (CutThere c)) (shown see h)
            go true = refl
            go false = refl
        fill_on_same (shed.Rates t x z) h = refl
        fill_on_same Other h = refl

      judged_on_same : (c : C) (h : List C) → shed.judged_on Name same shares room rate ceiling r c h ≡ demand.here (see c h) (shown see h)
      unfolding see
      judged_on_same (Judge u b fill scanned place) h = go (same_key r (resolve (store h) u))
        where
          go : (m : Bool) → m ≡ demand.here (judge_deed m r (resolve (store h) u) (store h) (clock stamp h) b fill scanned place) (shown see h)
          go true = refl
          go false = refl
      judged_on_same (Cut u c place) h = go (same_key r (resolve (store h) u))
        where
          go : (m : Bool) → false ≡ demand.here (cond m (demand.Cut c) (CutThere c)) (shown see h)
          go true = refl
          go false = refl
      judged_on_same (shed.Rates t x z) h = refl
      judged_on_same Other h = refl

      lawful_same : (c : C) (h : List C) → shed.Lawful Name same shares room c → demand.Lawful (see c h)
      unfolding see
      lawful_same (Judge u b fill scanned place) h l = go (same_key r (resolve (store h) u))
        where
          go : (m : Bool) → demand.Lawful (judge_deed m r (resolve (store h) u) (store h) (clock stamp h) b fill scanned place)
          go true = l
          go false = (l.0, l.1)
      lawful_same (Cut u c place) h l = go (same_key r (resolve (store h) u))
        where
          go : (m : Bool) → demand.Lawful (cond m (demand.Cut c) (CutThere c))
          go true = l
          go false = l
      lawful_same (shed.Rates t x z) h l = l
      lawful_same Other h l = tt

      back_same : (k : ℕ) (h : List C) → clock stamp (back k h) ≡ clock demand.stamp (back k (shown see h))
      back_same k h = clock_same (back k h) ∙ ap (clock demand.stamp) (back_shown see k h)

      lawful_all : (h : List C) → Each (shed.Lawful Name same shares room) h → Each demand.Lawful (shown see h)
      lawful_all h l = each_shown see (shed.Lawful Name same shares room) demand.Lawful lawful_same h l

      there-same : (h : List C) → demand.there (look r (store h)) ≡ demand.there (over (shown see h)).used
      there-same h = ap (λ (x : State). demand.there x.used) (seen_same h)

      self_key : (r : K) → same_key r r ≡ true
      self_key shared = refl
      self_key (own u) = true_of (same u u) (self u)
        where
          true_of : (b : Bool) → T b → b ≡ true
          true_of true t = refl
          true_of false t = absurd t

      -- a batch on this record
      batch_same : (u : Name) (b : Batch) (fill : List Float) (scanned : ℕ → R → Bool) (place : ℕ) (h : List C) → resolve (store h) u ≡ r
          → shown see (Judge u b fill scanned place ∷ h) ≡ Here b fill ∷ shown see h
      unfolding shown see
      batch_same u b fill scanned place h e = ap (λ (x : Deed). x ∷ shown see h) (go (same_key r (resolve (store h) u)) (ap (same_key r) e ∙ self_key r))
        where
          go : (m : Bool) → m ≡ true → judge_deed m r (resolve (store h) u) (store h) (clock stamp h) b fill scanned place ≡ Here b fill
          go true q = refl
          go false q = absurd (true≢false (sym q))

      -- what the hypothesis on modest runs says of the record's own history
      Modest : ℕ → List Deed → Type 0
      Modest d g = (k : ℕ) → demand.Present rate ceiling (is_shared r) k g
          → (1000 * parts * sum (demand.tried_here d) (suc k) g + 1000 * suc k) * power 1074 ≤ parts * ((least_depth + (clock demand.stamp g - clock demand.stamp (back k g))) * lowest demand.here (demand.fill_here d) k g)

      modest_same : (d : ℕ) (h : List C)
          → ((k : ℕ) → shed.Present Name same shares room rate ceiling r k h
          → (1000 * parts * sum (shed.tried_on Name same shares room rate ceiling r d) (suc k) h + 1000 * suc k) * power 1074
          ≤ parts * ((least_depth + shed.span Name same shares room h k) * lowest (shed.judged_on Name same shares room rate ceiling r) (shed.fill_on Name same shares room rate ceiling r d) k h))
          → Modest d (shown see h)
      unfolding Modest
      modest_same d h f k p =
          rw (
            ← sum_shown see (shed.tried_on Name same shares room rate ceiling r d) (demand.tried_here d) (tried_on_same d) (suc k) h,
            ← lowest_shown see (shed.judged_on Name same shares room rate ceiling r) demand.here (shed.fill_on Name same shares room rate ceiling r d) (demand.fill_here d) judged_on_same (fill_on_same d) k h,
            ← back_same k h,
            ← clock_same h,
          )
          (f k (since_shown see (shed.judged_on Name same shares room rate ceiling r) demand.here (λ (h : List C). demand.there (look r (store h))) (λ (g : List Deed). demand.there (over g).used) judged_on_same there-same k h p))

    -- ---- the demand
    module _ (rates : (d : ℕ) → d < dims → (1 ≤ rate d) × (rate d ≤ 2 ^ 40)) where
      pub relay : (h : List C) → Each (shed.Lawful Name same shares room) h → (d : ℕ) → d < dims → (k : ℕ)
          → 1000 * parts * sum (shed.admitted Name same shares room rate ceiling d) (suc k) h
          ≤ 1000 * parts * oldest (shed.burst_after Name same shares room rate ceiling d) k h + parts * sum (shed.carried Name same shares room rate ceiling d) k h + 1000 * parts * sum (shed.handed Name same shares room d) (suc k) h + 1000 * suc k
      relay h l d small k =
          rw (
            sum_shown (see shared) (shed.admitted Name same shares room rate ceiling d) (demand.admitted rate ceiling true d) (admitted_same shared d) (suc k) h,
            oldest_shown (see shared) (shed.burst_after Name same shares room rate ceiling d) (demand.burst_after rate ceiling true d) (burst_same shared d) k h,
            sum_shown (see shared) (shed.carried Name same shares room rate ceiling d) (demand.carried rate ceiling true d) (carried_same shared d) k h,
            sum_shown (see shared) (shed.handed Name same shares room d) (demand.handed d) (handed_same shared d) (suc k) h,
          )
          ((demand_three rate ceiling rates true).relay (shown (see shared) h) (lawful_all shared h l) d small k)

      pub share : (r : K) (h : List C) → Each (shed.Lawful Name same shares room) h → (d : ℕ) → d < dims → (k : ℕ)
          → 1000 * parts * sum (shed.admitted_on Name same shares room rate ceiling r d) (suc k) h * power 1074
          ≤ parts * ((most_depth + shed.span Name same shares room h k) * highest (shed.fill_on Name same shares room rate ceiling r d) (suc k) h) + (1000 * parts * sum (shed.handed_on Name same shares room rate ceiling r d) (suc k) h + 1000 * suc k) * power 1074
      share r h l d small k =
          rw (
            sum_shown (see r) (shed.admitted_on Name same shares room rate ceiling r d) (demand.admitted_here rate ceiling (is_shared r) d) (admitted_on_same r d) (suc k) h,
            sum_shown (see r) (shed.handed_on Name same shares room rate ceiling r d) (demand.handed_here d) (handed_on_same r d) (suc k) h,
            highest_shown (see r) (shed.fill_on Name same shares room rate ceiling r d) (demand.fill_here d) (fill_on_same r d) (suc k) h,
            back_same r k h,
            clock_same r h,
          )
          ((demand_three rate ceiling rates (is_shared r)).share (shown (see r) h) (lawful_all r h l) d small k)

      pub spared : (u : Name) (b : Batch) (fill : List Float) (scanned : ℕ → R → Bool) (place : ℕ) (h : List C) → Each (shed.Lawful Name same shares room) h → shed.Lawful Name same shares room (Judge u b fill scanned place) → T (Ieee.le b.want one)
          → ((d : ℕ) → d < dims → (k : ℕ) → shed.Present Name same shares room rate ceiling (resolve (store h) u) k (Judge u b fill scanned place ∷ h)
          → (1000 * parts * sum (shed.tried_on Name same shares room rate ceiling (resolve (store h) u) d) (suc k) (Judge u b fill scanned place ∷ h) + 1000 * suc k) * power 1074
          ≤ parts * ((least_depth + shed.span Name same shares room (Judge u b fill scanned place ∷ h) k) * lowest (shed.judged_on Name same shares room rate ceiling (resolve (store h) u)) (shed.fill_on Name same shares room rate ceiling (resolve (store h) u) d) k (Judge u b fill scanned place ∷ h)))
          → verdict_here (seen (resolve (store h) u) (store h)) (clock stamp h) b fill ≡ OverShare → ⊥
      unfolding Modest
      spared u b fill scanned place h l law want modest e =
          let r = resolve (store h) u in
          (demand_three rate ceiling rates (is_shared r)).spared (shown (see r) h) (lawful_all r h l) b fill law want
          (λ d small. subst (Modest r d) (batch_same r u b fill scanned place h refl) (modest_same r d (Judge u b fill scanned place ∷ h) (modest d small)))
          (sym (verdict_same r h r b fill refl) ∙ e)

pub store_claim : Claim
store_claim Name same is self shares room rate ceiling rates = record {
  relay = λ h l d small k. relay Name same is self shares room rate ceiling rates h l d small k;
  share = λ r h l d small k. share Name same is self shares room rate ceiling rates r h l d small k;
  spared = λ u b fill scanned place h l law want modest e. spared Name same is self shares room rate ceiling rates u b fill scanned place h l law want modest e;
}
