-- Demand 3 over all dimensions, from the claims on one bucket and on one record in one dimension: each history is seen as one of theirs. Assumes nothing.
use mathlib.Core.Path.{◌≡◌, refl, sym, ap, ◌∙◌, subst}
use Prim.Native.Nat.{ℕ, suc, ◌+◌, ◌-◌, ◌*◌, ◌^◌, ◌≤◌, ◌<◌, max}
use mathlib.Core.Bool.{Bool, true, false, ◌&&◌, cond, true≢false}
use mathlib.Core.List.{List, [], ◌∷◌}
use lib.Dec.{T, ltb, lit<}
use lib.ListN.{length, replicate, length-replicate, get_or-replicate}
use lib.Ieee as Ieee
use lib.Ieee.{Float, nan}
use Rattle.ieee.specs.Doubles.{one, nothing, whole}
use Rattle.ieee.specs.Units.{power}
use Rattle.flow.specs.declared.Use.{Use}
use Rattle.verdict.specs.declared.Verdict.{Verdict}
use Rattle.verdict.specs.declared.Verdict.TheVariants.{Admitted, OverShare, RelayRate}
use Rattle.flow.specs.Flow as flow
use Rattle.verdict.specs.Verdict as verdicts
use Rattle.flow.specs.Flow.{dims, at}
use Rattle.flow.proofs.Parts.{upto_length, each_at, all-at, all_of}
use Rattle.fair.specs.Runs.{sum, highest, oldest, lowest, clock, back, Each}
use Rattle.fair.specs.Bounds.{stale_after, most_depth, least_depth, parts}
use Rattle.fair.specs.Tokens as tokens
use Rattle.fair.specs.Tokens.{Pot}
use Rattle.fair.specs.Credit as credit
use Rattle.fair.specs.Demand as demand
use Rattle.fair.specs.Demand.{Batch, Deed, Here, There, Cut, CutThere, Rates, Idle, stamp, Lawful, Kept, absent, present, State, priced, filled, credited, tokens_hold, credit_holds, verdict_here, verdict_there, is_admitted, settled, origin, state, span, Claim}
use Rattle.fair.proofs.Runs.{shown, sum_shown, highest_shown, oldest_shown, lowest_shown, since_shown, clock_shown, back_shown, each_shown}
use Rattle.fair.proofs.Tokens.{tokens_claim}
use Rattle.fair.proofs.Credit.{credit_claim}
use Rattle.fair.proofs.Spared.{spared}

-- ---- the decision: admission wants credit and tokens, and within the level only want of credit is over share
admission : (w c t r : Bool) → is_admitted (cond w (cond c (cond t Admitted RelayRate) OverShare) (cond c (cond t (cond r Admitted OverShare) OverShare) OverShare)) ≡ true → (c ≡ true) × (t ≡ true)
admission true true true r e = (refl, refl)
admission true true false r e = absurd (true≢false (sym e))
admission true false t r e = absurd (true≢false (sym e))
admission false true true true e = (refl, refl)
admission false true true false e = absurd (true≢false (sym e))
admission false true false r e = absurd (true≢false (sym e))
admission false false t r e = absurd (true≢false (sym e))

admits_both : (w : Float) (c t r : Bool) → is_admitted (verdicts.decided w c t r) ≡ true → (c ≡ true) × (t ≡ true)
admits_both w c t r e = admission (Ieee.le w one) c t r e

true_of : (b : Bool) → T b → b ≡ true
true_of true t = refl
true_of false t = absurd t

is_over : Verdict → Bool
is_over Admitted = false
is_over OverShare = true
is_over RelayRate = false

not_over : (w t r : Bool) → T w → cond w (cond true (cond t Admitted RelayRate) OverShare) (cond true (cond t (cond r Admitted OverShare) OverShare) OverShare) ≡ OverShare → ⊥
unfolding is_over
not_over true true r l e = true≢false (sym (ap is_over e))
not_over true false r l e = true≢false (sym (ap is_over e))
not_over false t r l e = l

within_level : (w : Float) (c t r : Bool) → c ≡ true → T (Ieee.le w one) → verdicts.decided w c t r ≡ OverShare → ⊥
within_level w c t r q l e = not_over (Ieee.le w one) t r l (subst (λ (c : Bool). verdicts.decided w c t r ≡ OverShare) q e)

-- a test that a passed one implies changes nothing
and_same : (a b : Bool) → (a ≡ true → b ≡ true) → a && b ≡ a
and_same true b f = f refl
and_same false b f = refl

module _ (rate ceiling : ℕ → ℕ) (overflow : Bool) (d : ℕ) (small : d < dims) where
  -- ---- the bucket
  see_tokens : Deed → List Deed → tokens.Call
  see_tokens (Here b fill) h = tokens.Judge b.stamp (b.cost d) (is_admitted (verdict_here (state rate ceiling overflow h) (clock stamp h) b fill))
  see_tokens (There b c drops) h = tokens.Judge b.stamp (b.cost d) (is_admitted (verdict_there (state rate ceiling overflow h) (clock stamp h) b c))
  see_tokens (Cut c) h = tokens.Cut (c d)
  see_tokens (CutThere c) h = tokens.Cut (c d)
  see_tokens (Rates t x z) h = tokens.Rates t (x d) (z d)
  see_tokens Idle h = tokens.Other

  tokens_stamp : (c : Deed) (h : List Deed) → stamp c ≡ tokens.stamp (see_tokens c h)
  unfolding see_tokens
  tokens_stamp (Here b fill) h = refl
  tokens_stamp (There b c drops) h = refl
  tokens_stamp (Cut c) h = refl
  tokens_stamp (CutThere c) h = refl
  tokens_stamp (Rates t x z) h = refl
  tokens_stamp Idle h = refl

  tokens_lawful : (c : Deed) (h : List Deed) → Lawful c → tokens.Lawful (see_tokens c h)
  unfolding see_tokens
  tokens_lawful (Here b fill) h l = (l.0, l.1 d small)
  tokens_lawful (There b c drops) h l = (l.0, l.1 d small)
  tokens_lawful (Cut c) h l = l d small
  tokens_lawful (CutThere c) h l = l d small
  tokens_lawful (Rates t x z) h l = (l.0, (l.1 d small).0, (l.1 d small).1)
  tokens_lawful Idle h l = tt

  tokens_clock : (h : List Deed) → clock stamp h ≡ clock tokens.stamp (shown see_tokens h)
  tokens_clock h = clock_shown see_tokens stamp tokens.stamp tokens_stamp h

  -- a judgement of the pot p', which is p, where what is admitted is covered
  judge_same : (p p' : Pot) (k k' t c : ℕ) (ok : Bool) → p' ≡ p → k ≡ k' → (ok ≡ true → Ieee.le (whole c) (tokens.ready p.bucket k t).tokens ≡ true)
      → (tokens.admits (tokens.ready p'.bucket k' t) c ok ≡ ok)
      × (tokens.holding p' (tokens.paid (tokens.admits (tokens.ready p'.bucket k' t) c ok) (tokens.ready p'.bucket k' t) c) ≡ tokens.holding p (tokens.paid ok (tokens.ready p.bucket k t) c))
  judge_same p p' k k' t c ok e q f =
      let a : tokens.admits (tokens.ready p'.bucket k' t) c ok ≡ ok = rw (e, ← q) (and_same ok (Ieee.le (whole c) (tokens.ready p.bucket k t).tokens) f) in
      (a, rw a (rw (e, ← q)))

  tokens_hold_at : (s : State) (k : ℕ) (b : Batch) → tokens_hold s k b ≡ true → Ieee.le (whole (b.cost d)) (filled s k b d).tokens ≡ true
  tokens_hold_at s k b e = all-at (λ (d : ℕ). Ieee.le (whole (b.cost d)) (filled s k b d).tokens) dims d small e

  pot_same : (h : List Deed) → tokens.pot (rate d) (ceiling d) (shown see_tokens h) ≡ (state rate ceiling overflow h).pot d
  unfolding tokens.pot shown see_tokens state
  pot_same [] = refl
  pot_same (Here b fill ∷ h) =
      let s = state rate ceiling overflow h in
      let ok = is_admitted (verdict_here s (clock stamp h) b fill) in
      (judge_same (s.pot d) (tokens.pot (rate d) (ceiling d) (shown see_tokens h)) (clock stamp h) (clock tokens.stamp (shown see_tokens h)) b.stamp (b.cost d) ok (pot_same h) (tokens_clock h)
      (λ e. tokens_hold_at s (clock stamp h) b (admits_both b.want (credit_holds s (clock stamp h) b fill) (tokens_hold s (clock stamp h) b) b.reserve e).1)).1
  pot_same (There b c drops ∷ h) =
      let s = state rate ceiling overflow h in
      let ok = is_admitted (verdict_there s (clock stamp h) b c) in
      (judge_same (s.pot d) (tokens.pot (rate d) (ceiling d) (shown see_tokens h)) (clock stamp h) (clock tokens.stamp (shown see_tokens h)) b.stamp (b.cost d) ok (pot_same h) (tokens_clock h)
      (λ e. tokens_hold_at s (clock stamp h) b (admits_both b.want c (tokens_hold s (clock stamp h) b) b.reserve e).1)).1
  pot_same (Cut c ∷ h) = rw (pot_same h)
  pot_same (CutThere c ∷ h) = rw (pot_same h)
  pot_same (Rates t x z ∷ h) = rw (pot_same h, ← tokens_clock h)
  pot_same (Idle ∷ h) = pot_same h

  admitted_same : (c : Deed) (h : List Deed) → demand.admitted rate ceiling overflow d c h ≡ tokens.admitted (rate d) (ceiling d) (see_tokens c h) (shown see_tokens h)
  unfolding see_tokens
  admitted_same (Here b fill) h =
      let s = state rate ceiling overflow h in
      let ok = is_admitted (verdict_here s (clock stamp h) b fill) in
      ap (λ (x : Bool). cond x (b.cost d) 0) (sym (judge_same (s.pot d) (tokens.pot (rate d) (ceiling d) (shown see_tokens h)) (clock stamp h) (clock tokens.stamp (shown see_tokens h)) b.stamp (b.cost d) ok (pot_same h) (tokens_clock h)
      (λ e. tokens_hold_at s (clock stamp h) b (admits_both b.want (credit_holds s (clock stamp h) b fill) (tokens_hold s (clock stamp h) b) b.reserve e).1)).0)
  admitted_same (There b c drops) h =
      let s = state rate ceiling overflow h in
      let ok = is_admitted (verdict_there s (clock stamp h) b c) in
      ap (λ (x : Bool). cond x (b.cost d) 0) (sym (judge_same (s.pot d) (tokens.pot (rate d) (ceiling d) (shown see_tokens h)) (clock stamp h) (clock tokens.stamp (shown see_tokens h)) b.stamp (b.cost d) ok (pot_same h) (tokens_clock h)
      (λ e. tokens_hold_at s (clock stamp h) b (admits_both b.want c (tokens_hold s (clock stamp h) b) b.reserve e).1)).0)
  admitted_same (Cut c) h = refl
  admitted_same (CutThere c) h = refl
  admitted_same (Rates t x z) h = refl
  admitted_same Idle h = refl

  handed_same : (c : Deed) (h : List Deed) → demand.handed d c h ≡ tokens.handed (see_tokens c h) (shown see_tokens h)
  unfolding see_tokens
  handed_same (Here b fill) h = refl
  handed_same (There b c drops) h = refl
  handed_same (Cut c) h = refl
  handed_same (CutThere c) h = refl
  handed_same (Rates t x z) h = refl
  handed_same Idle h = refl

  next_clock : (c : Deed) (h : List Deed) → clock stamp (c ∷ h) ≡ clock tokens.stamp (see_tokens c h ∷ shown see_tokens h)
  unfolding shown
  next_clock c h = tokens_clock (c ∷ h)

  carried_same : (c : Deed) (h : List Deed) → demand.carried rate ceiling overflow d c h ≡ tokens.carried (rate d) (ceiling d) (see_tokens c h) (shown see_tokens h)
  carried_same c h = rw (← pot_same h, ← tokens_clock h, ← next_clock c h)

  burst_same : (c : Deed) (h : List Deed) → demand.burst_after rate ceiling overflow d c h ≡ tokens.burst_after (rate d) (ceiling d) (see_tokens c h) (shown see_tokens h)
  unfolding shown
  burst_same c h = ap (λ (p : Pot). tokens.burst p.rate p.ceiling) (sym (pot_same (c ∷ h)))

  pub relay : (1 ≤ rate d) × (rate d ≤ 2 ^ 40) → (h : List Deed) → Each Lawful h → (k : ℕ)
      → 1000 * parts * sum (demand.admitted rate ceiling overflow d) (suc k) h
      ≤ 1000 * parts * oldest (demand.burst_after rate ceiling overflow d) k h + parts * sum (demand.carried rate ceiling overflow d) k h + 1000 * parts * sum (demand.handed d) (suc k) h + 1000 * suc k
  relay r h l k =
      rw (
        sum_shown see_tokens (demand.admitted rate ceiling overflow d) (tokens.admitted (rate d) (ceiling d)) admitted_same (suc k) h,
        oldest_shown see_tokens (demand.burst_after rate ceiling overflow d) (tokens.burst_after (rate d) (ceiling d)) burst_same k h,
        sum_shown see_tokens (demand.carried rate ceiling overflow d) (tokens.carried (rate d) (ceiling d)) carried_same k h,
        sum_shown see_tokens (demand.handed d) tokens.handed handed_same (suc k) h,
      )
      (tokens_claim (rate d) (ceiling d) r.0 r.1 (shown see_tokens h) (each_shown see_tokens Lawful tokens.Lawful tokens_lawful h l) k).bound

  -- ---- the record
  see_credit : Deed → List Deed → credit.Call
  see_credit (Here b fill) h = credit.Judge b.stamp (at fill d) (b.cost d) (is_admitted (verdict_here (state rate ceiling overflow h) (clock stamp h) b fill))
  see_credit (There b c drops) h = credit.Other b.stamp drops
  see_credit (Cut c) h = credit.Cut (c d)
  see_credit (CutThere c) h = credit.Other 0 false
  see_credit (Rates t x z) h = credit.Other t false
  see_credit Idle h = credit.Other 0 false

  credit_stamp : (c : Deed) (h : List Deed) → stamp c ≡ credit.stamp (see_credit c h)
  unfolding see_credit
  credit_stamp (Here b fill) h = refl
  credit_stamp (There b c drops) h = refl
  credit_stamp (Cut c) h = refl
  credit_stamp (CutThere c) h = refl
  credit_stamp (Rates t x z) h = refl
  credit_stamp Idle h = refl

  credit_lawful : (c : Deed) (h : List Deed) → Lawful c → credit.Lawful (see_credit c h)
  unfolding see_credit
  credit_lawful (Here b fill) h l = (l.0, (l.2 d small).0, (l.2 d small).1, l.1 d small)
  credit_lawful (There b c drops) h l = l.0
  credit_lawful (Cut c) h l = l d small
  credit_lawful (CutThere c) h l = lit< tt
  credit_lawful (Rates t x z) h l = l.0
  credit_lawful Idle h l = lit< tt

  credit_clock : (h : List Deed) → clock stamp h ≡ clock credit.stamp (shown see_credit h)
  credit_clock h = clock_shown see_credit stamp credit.stamp credit_stamp h

  -- one dimension of a use
  abbrev held : Use → credit.Held
  held u = record { credit = at u.credit d; at = u.at_ms; fresh = flow.is_fresh u.fresh }

  abbrev view : Kept → credit.Place
  view absent = credit.gone
  view (present u) = credit.kept (held u)

  -- a use has a part for each dimension
  abbrev Shaped : Kept → Type 0
  Shaped absent = Unit {0}
  Shaped (present u) = length u.credit ≡ dims

  found_shaped : (k : Kept) (now : ℕ) → Shaped k → length (demand.found k now).credit ≡ dims
  found_shaped absent now s = length-replicate dims nothing
  found_shaped (present u) now s = s

  settled_shaped : (ok : Bool) (u : Use) (c : ℕ → ℕ) → length u.credit ≡ dims → length (settled ok u c).credit ≡ dims
  settled_shaped true u c s = upto_length (λ (i : ℕ). Ieee.sub Ieee.binary64 (at u.credit i) (at (priced c) i)) dims u.credit ∙ s
  settled_shaped false u c s = s

  dropped_shaped : (drops : Bool) (k : Kept) (now : ℕ) → Shaped k → Shaped (demand.dropped drops k now)
  dropped_shaped true absent now s = tt
  dropped_shaped true (present u) now s = go (ltb (u.at_ms + stale_after) now)
    where
      go : (b : Bool) → Shaped (demand.aged b u)
      go true = tt
      go false = s
  dropped_shaped false k now s = s

  shaped : (h : List Deed) → Shaped (state rate ceiling overflow h).used
  unfolding state
  shaped [] = start overflow
    where
      start : (o : Bool) → Shaped (origin o)
      start true = length-replicate dims nothing
      start false = tt
  shaped (Here b fill ∷ h) =
      let s = state rate ceiling overflow h in
      let now = max b.stamp (clock stamp h) in
      let u = demand.found s.used now in
      settled_shaped (is_admitted (verdict_here s (clock stamp h) b fill)) (flow.tried (flow.fade_to (credited s (clock stamp h) b fill) now) (priced b.cost)) b.cost
      (upto_length (λ (i : ℕ). flow.credit_of (flow.is_fresh u.fresh) (at u.credit i) (at fill i) (now - u.at_ms)) dims u.credit ∙ found_shaped s.used now (shaped h))
  shaped (There b c drops ∷ h) = dropped_shaped drops (state rate ceiling overflow h).used (max b.stamp (clock stamp h)) (shaped h)
  shaped (Cut c ∷ h) =
      let u = demand.found (state rate ceiling overflow h).used (clock stamp h) in
      upto_length (λ (i : ℕ). Ieee.add Ieee.binary64 (at u.credit i) (at (priced c) i)) dims u.credit ∙ found_shaped (state rate ceiling overflow h).used (clock stamp h) (shaped h)
  shaped (CutThere c ∷ h) = shaped h
  shaped (Rates t x z ∷ h) = shaped h
  shaped (Idle ∷ h) = shaped h

  -- ---- the parts, one by one
  found_same : (k : Kept) (now : ℕ) → credit.found (view k) now ≡ held (demand.found k now)
  found_same absent now = ap (λ (x : Float). record { credit = x; at = now; fresh = true }) (sym (get_or-replicate dims d nothing nan small))
  found_same (present u) now = refl

  priced_at : (c : ℕ → ℕ) → at (priced c) d ≡ whole (c d)
  priced_at c = each_at (λ (i : ℕ). whole (c i)) (replicate dims nothing) d small (length-replicate dims nothing)

  met_same : (u : Use) (now : ℕ) (fill : List Float) → length u.credit ≡ dims → at (flow.credited u now fill).credit d ≡ credit.met (held u) now (at fill d)
  met_same u now fill s = each_at (λ (i : ℕ). flow.credit_of (flow.is_fresh u.fresh) (at u.credit i) (at fill i) (now - u.at_ms)) u.credit d small s

  paid_same : (ok : Bool) (u : Use) (c : ℕ → ℕ) → length u.credit ≡ dims → at (settled ok u c).credit d ≡ credit.paid ok (at u.credit d) (c d)
  paid_same true u c s =
      each_at (λ (i : ℕ). Ieee.sub Ieee.binary64 (at u.credit i) (at (priced c) i)) u.credit d small s ∙ ap (λ (x : Float). Ieee.sub Ieee.binary64 (at u.credit d) x) (priced_at c)
  paid_same false u c s = refl

  credit_same : (u : Use) (now : ℕ) (fill : List Float) (c : ℕ → ℕ) (ok : Bool) → length u.credit ≡ dims → (ok ≡ true → Ieee.le (whole (c d)) (credit.met (held u) now (at fill d)) ≡ true)
      → credit.paid (credit.admits (credit.met (held u) now (at fill d)) (c d) ok) (credit.met (held u) now (at fill d)) (c d) ≡ at (settled ok (flow.tried (flow.fade_to (flow.credited u now fill) now) (priced c)) c).credit d
  credit_same u now fill c ok s f =
      let m = credit.met (held u) now (at fill d) in
      let w = flow.tried (flow.fade_to (flow.credited u now fill) now) (priced c) in
      ap (λ (a : Bool). credit.paid a m (c d)) (and_same ok (Ieee.le (whole (c d)) m) f)
      ∙ sym (paid_same ok w c (upto_length (λ (i : ℕ). flow.credit_of (flow.is_fresh u.fresh) (at u.credit i) (at fill i) (now - u.at_ms)) dims u.credit ∙ s) ∙ ap (λ (x : Float). credit.paid ok x (c d)) (met_same u now fill s))

  judged_same : (u : Use) (now : ℕ) (fill : List Float) (c : ℕ → ℕ) (ok : Bool) → length u.credit ≡ dims → (ok ≡ true → Ieee.le (whole (c d)) (credit.met (held u) now (at fill d)) ≡ true)
      → credit.judged (held u) now (at fill d) (c d) ok ≡ held (settled ok (flow.tried (flow.fade_to (flow.credited u now fill) now) (priced c)) c)
  judged_same u now fill c true s f = ap (λ (x : Float). record { credit = x; at = max u.at_ms now; fresh = false }) (credit_same u now fill c true s f)
  judged_same u now fill c false s f = ap (λ (x : Float). record { credit = x; at = max u.at_ms now; fresh = false }) (credit_same u now fill c false s f)

  returned_same : (u : Use) (c : ℕ → ℕ) → length u.credit ≡ dims → credit.returned (held u) (c d) ≡ held (flow.handed_back u (priced c))
  returned_same u c s = ap (λ (x : Float). record { credit = x; at = u.at_ms; fresh = flow.is_fresh u.fresh })
      (sym (each_at (λ (i : ℕ). Ieee.add Ieee.binary64 (at u.credit i) (at (priced c) i)) u.credit d small s ∙ ap (λ (x : Float). Ieee.add Ieee.binary64 (at u.credit d) x) (priced_at c)))

  dropped_same : (drops : Bool) (k : Kept) (now : ℕ) → credit.dropped drops (view k) now ≡ view (demand.dropped drops k now)
  dropped_same true absent now = refl
  dropped_same true (present u) now = go (ltb (u.at_ms + stale_after) now)
    where
      go : (b : Bool) → credit.aged b (held u) ≡ view (demand.aged b u)
      go true = refl
      go false = refl
  dropped_same false absent now = refl
  dropped_same false (present u) now = refl

  origin_same : (o : Bool) → credit.origin_of o ≡ view (origin o)
  origin_same true = ap (λ (x : Float). credit.kept (record { credit = x; at = 0; fresh = true })) (sym (get_or-replicate dims d nothing nan small))
  origin_same false = refl

  -- what an admission says of the credit
  credit_holds_at : (s : State) (k : ℕ) (b : Batch) (fill : List Float) → Shaped s.used → credit_holds s k b fill ≡ true
      → Ieee.le (whole (b.cost d)) (credit.met (held (demand.found s.used (max b.stamp k))) (max b.stamp k) (at fill d)) ≡ true
  credit_holds_at s k b fill z e =
      rw (← priced_at b.cost, ← met_same (demand.found s.used (max b.stamp k)) (max b.stamp k) fill (found_shaped s.used (max b.stamp k) z))
      (all-at (λ (i : ℕ). Ieee.le (at (priced b.cost) i) (at (credited s k b fill).credit i)) dims d small e)

  -- ---- the record of every history
  place_same : (h : List Deed) → credit.place overflow (shown see_credit h) ≡ view (state rate ceiling overflow h).used
  unfolding credit.place shown see_credit state
  place_same [] = origin_same overflow
  place_same (Here b fill ∷ h) =
      let s = state rate ceiling overflow h in
      let now = max b.stamp (clock stamp h) in
      let ok = is_admitted (verdict_here s (clock stamp h) b fill) in
      rw (← credit_clock h, place_same h, found_same s.used now)
      (ap credit.kept (judged_same (demand.found s.used now) now fill b.cost ok (found_shaped s.used now (shaped h))
      (λ e. credit_holds_at s (clock stamp h) b fill (shaped h) (admits_both b.want (credit_holds s (clock stamp h) b fill) (tokens_hold s (clock stamp h) b) b.reserve e).0)))
  place_same (There b c drops ∷ h) = rw (← credit_clock h, place_same h) (dropped_same drops (state rate ceiling overflow h).used (max b.stamp (clock stamp h)))
  place_same (Cut c ∷ h) =
      let s = state rate ceiling overflow h in
      rw (← credit_clock h, place_same h, found_same s.used (clock stamp h)) (ap credit.kept (returned_same (demand.found s.used (clock stamp h)) c (found_shaped s.used (clock stamp h) (shaped h))))
  place_same (CutThere c ∷ h) = place_same h
  place_same (Rates t x z ∷ h) = place_same h
  place_same (Idle ∷ h) = place_same h

  standing_same : (h : List Deed) (b : Batch) (fill : List Float)
      → credit.standing overflow (shown see_credit h) b.stamp (at fill d) ≡ credit.met (held (demand.found (state rate ceiling overflow h).used (max b.stamp (clock stamp h)))) (max b.stamp (clock stamp h)) (at fill d)
  standing_same h b fill = rw (← credit_clock h, place_same h, found_same (state rate ceiling overflow h).used (max b.stamp (clock stamp h)))

  -- ---- the sums
  admitted_here_same : (c : Deed) (h : List Deed) → demand.admitted_here rate ceiling overflow d c h ≡ credit.admitted overflow (see_credit c h) (shown see_credit h)
  unfolding see_credit
  admitted_here_same (Here b fill) h =
      let s = state rate ceiling overflow h in
      let ok = is_admitted (verdict_here s (clock stamp h) b fill) in
      rw (standing_same h b fill)
      (ap (λ (x : Bool). cond x (b.cost d) 0) (sym (and_same ok (Ieee.le (whole (b.cost d)) (credit.met (held (demand.found s.used (max b.stamp (clock stamp h)))) (max b.stamp (clock stamp h)) (at fill d)))
      (λ e. credit_holds_at s (clock stamp h) b fill (shaped h) (admits_both b.want (credit_holds s (clock stamp h) b fill) (tokens_hold s (clock stamp h) b) b.reserve e).0))))
  admitted_here_same (There b c drops) h = refl
  admitted_here_same (Cut c) h = refl
  admitted_here_same (CutThere c) h = refl
  admitted_here_same (Rates t x z) h = refl
  admitted_here_same Idle h = refl

  handed_here_same : (c : Deed) (h : List Deed) → demand.handed_here d c h ≡ credit.handed (see_credit c h) (shown see_credit h)
  unfolding see_credit
  handed_here_same (Here b fill) h = refl
  handed_here_same (There b c drops) h = refl
  handed_here_same (Cut c) h = refl
  handed_here_same (CutThere c) h = refl
  handed_here_same (Rates t x z) h = refl
  handed_here_same Idle h = refl

  tried_here_same : (c : Deed) (h : List Deed) → demand.tried_here d c h ≡ credit.tried (see_credit c h) (shown see_credit h)
  unfolding see_credit
  tried_here_same (Here b fill) h = refl
  tried_here_same (There b c drops) h = refl
  tried_here_same (Cut c) h = refl
  tried_here_same (CutThere c) h = refl
  tried_here_same (Rates t x z) h = refl
  tried_here_same Idle h = refl

  fill_here_same : (c : Deed) (h : List Deed) → demand.fill_here d c h ≡ credit.fill (see_credit c h) (shown see_credit h)
  unfolding see_credit
  fill_here_same (Here b fill) h = refl
  fill_here_same (There b c drops) h = refl
  fill_here_same (Cut c) h = refl
  fill_here_same (CutThere c) h = refl
  fill_here_same (Rates t x z) h = refl
  fill_here_same Idle h = refl

  here_same : (c : Deed) (h : List Deed) → demand.here c h ≡ credit.judges (see_credit c h) (shown see_credit h)
  unfolding see_credit
  here_same (Here b fill) h = refl
  here_same (There b c drops) h = refl
  here_same (Cut c) h = refl
  here_same (CutThere c) h = refl
  here_same (Rates t x z) h = refl
  here_same Idle h = refl

  credit_back : (k : ℕ) (h : List Deed) → clock stamp (back k h) ≡ clock credit.stamp (back k (shown see_credit h))
  credit_back k h = credit_clock (back k h) ∙ ap (clock credit.stamp) (back_shown see_credit k h)

  there_view : (k : Kept) → demand.there k ≡ credit.there (view k)
  there_view absent = refl
  there_view (present u) = refl

  there-same : (h : List Deed) → demand.there (state rate ceiling overflow h).used ≡ credit.there (credit.place overflow (shown see_credit h))
  there-same h = there_view (state rate ceiling overflow h).used ∙ ap (λ (x : credit.Place). credit.there x) (sym (place_same h))

  pub share : (h : List Deed) → Each Lawful h → (k : ℕ)
      → 1000 * parts * sum (demand.admitted_here rate ceiling overflow d) (suc k) h * power 1074
      ≤ parts * ((most_depth + span h k) * highest (demand.fill_here d) (suc k) h) + (1000 * parts * sum (demand.handed_here d) (suc k) h + 1000 * suc k) * power 1074
  share h l k =
      rw (
        sum_shown see_credit (demand.admitted_here rate ceiling overflow d) (credit.admitted overflow) admitted_here_same (suc k) h,
        sum_shown see_credit (demand.handed_here d) credit.handed handed_here_same (suc k) h,
        highest_shown see_credit (demand.fill_here d) credit.fill fill_here_same (suc k) h,
        credit_back k h,
        credit_clock h,
      )
      (credit_claim overflow (shown see_credit h) (each_shown see_credit Lawful credit.Lawful credit_lawful h l) k).bound

  pub credit_suffices : (h : List Deed) → Each Lawful h → (b : Batch) (fill : List Float) → Lawful (Here b fill)
      → ((k : ℕ) → demand.Present rate ceiling overflow k (Here b fill ∷ h)
      → (1000 * parts * sum (demand.tried_here d) (suc k) (Here b fill ∷ h) + 1000 * suc k) * power 1074 ≤ parts * ((least_depth + span (Here b fill ∷ h) k) * lowest demand.here (demand.fill_here d) k (Here b fill ∷ h)))
      → Ieee.le (at (priced b.cost) d) (at (credited (state rate ceiling overflow h) (clock stamp h) b fill).credit d) ≡ true
  unfolding shown see_credit
  credit_suffices h l b fill law modest =
      let s = state rate ceiling overflow h in
      let now = max b.stamp (clock stamp h) in
      let ok = is_admitted (verdict_here s (clock stamp h) b fill) in
      rw (priced_at b.cost, met_same (demand.found s.used now) now fill (found_shaped s.used now (shaped h)), ← standing_same h b fill)
      (true_of (Ieee.le (whole (b.cost d)) (credit.standing overflow (shown see_credit h) b.stamp (at fill d)))
      (spared overflow (shown see_credit h) (each_shown see_credit Lawful credit.Lawful credit_lawful h l) b.stamp (at fill d) (b.cost d) ok (law.0, (law.2 d small).0, (law.2 d small).1, law.1 d small) modest_too))
    where
      batch : Deed
      batch = Here b fill

      modest_too : (k : ℕ) → credit.Present overflow k (shown see_credit (batch ∷ h)) → credit.Modest (shown see_credit (batch ∷ h)) k
      modest_too k p = record {
        bound = rw (
          ← sum_shown see_credit (demand.tried_here d) credit.tried tried_here_same (suc k) (batch ∷ h),
          ← lowest_shown see_credit demand.here credit.judges (demand.fill_here d) credit.fill here_same fill_here_same k (batch ∷ h),
          ← credit_back k (batch ∷ h),
          ← credit_clock (batch ∷ h),
        )
            (modest k (since_shown see_credit demand.here credit.judges (λ (h : List Deed). demand.there (state rate ceiling overflow h).used) (λ (h : List credit.Call). credit.there (credit.place overflow h)) here_same there-same k (batch ∷ h) p));
      }

-- ---- the demand
pub demand_three : Claim
demand_three rate ceiling rates overflow = record {
  relay = λ h l d small k. relay rate ceiling overflow d small (rates d small) h l k;
  share = λ h l d small k. share rate ceiling overflow d small h l k;
  spared = λ h l b fill law want modest e.
      let s = state rate ceiling overflow h in
      within_level b.want (credit_holds s (clock stamp h) b fill) (tokens_hold s (clock stamp h) b) b.reserve
      (all_of (λ (i : ℕ). Ieee.le (at (priced b.cost) i) (at (credited s (clock stamp h) b fill).credit i)) dims (λ d small. credit_suffices rate ceiling overflow d small h l b fill law (modest d small)))
      want e;
}
