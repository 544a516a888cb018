-- Where rates change, and where they do not: the rates in force are those that the calls gave, and a run without a change is bounded at one rate. Assumes nothing.
use mathlib.Core.Path.{◌≡◌, refl, sym, ap, ◌∙◌}
use Prim.Native.Nat.{ℕ, zero, suc, ◌+◌, ◌-◌, ◌*◌, ◌≤◌, ◌<◌}
use native.Mathlib.Nat.{le_of_eq}
use native.Mathlib.Omega.{arith}
use mathlib.Core.Bool.{true}
use mathlib.Core.List.{List, [], ◌∷◌}
use lib.ListN.{length, get_or}
use Rattle.flow.specs.Flow.{dims}
use Rattle.fair.specs.Given as goal
use Rattle.fair.specs.Runs.{sum, oldest, clock, back, Each}
use Rattle.fair.specs.Tokens.{burst}
use Rattle.fair.specs.Calls as calls
use Rattle.fair.specs.Calls.{State, Call, Judge, Cut, Rates, Read, Event}
use Rattle.fair.specs.Changes.{rate_of, ceiling_of, rate_after, ceiling_after, changed, Kept, Steady, Rated, Claim}
use Rattle.fair.proofs.Runs.{Along, back-le, forward}
use Rattle.fair.proofs.Tied.{Tied}
use Rattle.fair.proofs.Begun.{left_tied}
use Rattle.fair.proofs.Calls as real
use Rattle.fair.proofs.Calls.{Fit}

-- ---- a call that is no change leaves the rates in force
same_rate : (s : State) (c : Call) (x : List ℕ) → changed s c ≡ 0 → rate_after c x ≡ x
same_rate s (Judge u cost t) x e = refl
same_rate s (Cut u c cost) x e = refl
same_rate s (Rates r z t) x e = absurd (omega arith)
same_rate s (Read q) x e = refl

same_ceiling : (s : State) (c : Call) (x : List ℕ) → changed s c ≡ 0 → ceiling_after c x ≡ x
same_ceiling s (Judge u cost t) x e = refl
same_ceiling s (Cut u c cost) x e = refl
same_ceiling s (Rates r z t) x e = absurd (omega arith)
same_ceiling s (Read q) x e = refl

still_rate : (start : List ℕ) (n : ℕ) (es : List Event) → sum (calls.by changed) n es ≡ 0 → rate_of start es ≡ rate_of start (back n es)
unfolding sum back rate_of
still_rate start zero es e = refl
still_rate start (suc n) [] e = refl
still_rate start (suc n) (c ∷ es) e =
    let f : changed c.before c.call ≡ 0 = omega arith in
    same_rate c.before c.call (rate_of start es) f ∙ still_rate start n es (omega arith)

still_ceiling : (start : List ℕ) (n : ℕ) (es : List Event) → sum (calls.by changed) n es ≡ 0 → ceiling_of start es ≡ ceiling_of start (back n es)
unfolding sum back ceiling_of
still_ceiling start zero es e = refl
still_ceiling start (suc n) [] e = refl
still_ceiling start (suc n) (c ∷ es) e =
    let f : changed c.before c.call ≡ 0 = omega arith in
    same_ceiling c.before c.call (ceiling_of start es) f ∙ still_ceiling start n es (omega arith)

none_changed : (n : ℕ) (es : List Event) → Each Kept es → sum (calls.by changed) n es ≡ 0
unfolding sum Each
none_changed zero es e = refl
none_changed (suc n) [] e = refl
none_changed (suc n) (c ∷ es) e = omega (arith, e.0, none_changed n es e.1)

start_rate : (start : List ℕ) (es : List Event) → Each Kept es → rate_of start es ≡ start
unfolding Each rate_of
start_rate start [] e = refl
start_rate start (c ∷ es) e = same_rate c.before c.call (rate_of start es) e.0 ∙ start_rate start es e.1

start_ceiling : (start : List ℕ) (es : List Event) → Each Kept es → ceiling_of start es ≡ start
unfolding Each ceiling_of
start_ceiling start [] e = refl
start_ceiling start (c ∷ es) e = same_ceiling c.before c.call (ceiling_of start es) e.0 ∙ start_ceiling start es e.1

-- ---- the numbers: gaps at one rate
no_gap : (r a : ℕ) → 0 ≡ r * (a - a)
no_gap r a = let z : a - a ≡ 0 = omega arith in omega (arith, ap (λ (g : ℕ). r * g) z)

one_gap : (r a b z s : ℕ) → z ≤ b → b ≤ a → s ≡ r * (b - z) → r * (a - b) + s ≡ r * (a - z)
one_gap r a b z s p q e =
    let g : a - z ≡ (a - b) + (b - z) = omega arith in
    joined (a - b) (b - z) (ap (λ (g : ℕ). r * g) g) refl e
  where
    joined : (c d : ℕ) → r * (a - z) ≡ r * (c + d) → r * (a - b) ≡ r * c → s ≡ r * d → r * (a - b) + s ≡ r * (a - z)
    joined c d f g h = omega arith

module _ (room : ℕ) (rate ceiling : List ℕ) (rates : goal.all_rates rate ≡ true) (first : State) (b : Tied room rate ceiling first.head first.memory.rows (real.store_of room rate ceiling rates []) 0) where
  abbrev es : List Call → List Event
  es h = calls.events first h

  abbrev Fits : List Event → Type 0
  Fits x = Along (real.seen room rate ceiling rates) (Fit room rate ceiling rates) x

  fits : (h : List Call) → Fits (es h)
  fits h = (real.whole room rate ceiling rates first b h).along

  rate_is : (h : List Call) → (calls.state first h).head.flow.rate ≡ rate_of rate (es h)
  rate_is h = (real.whole room rate ceiling rates first b h).tie.tied.rate_is

  ceiling_is : (h : List Call) → (calls.state first h).head.flow.ceiling ≡ ceiling_of ceiling (es h)
  ceiling_is h = (real.whole room rate ceiling rates first b h).tie.tied.ceiling_is

  -- ---- a run without a change
  gaps_flat : (d k : ℕ) (x : List Event) → Fits x → sum (calls.by changed) (suc k) x ≡ 0 → sum (calls.carried d) k x ≡ get_or (rate_of rate (back (suc k) x)) d 0 * calls.span x k
  unfolding sum back Along
  gaps_flat d zero [] a e = no_gap (get_or (rate_of rate []) d 0) (clock calls.stamp [])
  gaps_flat d zero (c ∷ x) a e = no_gap (get_or (rate_of rate x) d 0) (clock calls.stamp (c ∷ x))
  gaps_flat d (suc k) [] a e = no_gap (get_or (rate_of rate []) d 0) (clock calls.stamp [])
  gaps_flat d (suc k) (c ∷ x) a e =
      let f : sum (calls.by changed) (suc k) x ≡ 0 = omega arith in
      let i = gaps_flat d k x a.1 f in
      let q : get_or c.before.head.flow.rate d 0 ≡ get_or (rate_of rate (back (suc k) x)) d 0 = ap (λ (y : List ℕ). get_or y d 0) (a.0.tie.tied.rate_is ∙ still_rate rate (suc k) x f) in
      rw q (one_gap (get_or (rate_of rate (back (suc k) x)) d 0) (clock calls.stamp (c ∷ x)) (clock calls.stamp x) (clock calls.stamp (back k x)) (sum (calls.carried d) k x) (back-le calls.stamp k x) (forward calls.stamp c x) i)

  -- the burst after the first call
  burst_at : ℕ → List Event → ℕ
  burst_at d x = burst (get_or (rate_of rate x) d 0) (get_or (ceiling_of ceiling x) d 0)

  burst_then : (d : ℕ) (c : Event) (x : List Event) → Fit room rate ceiling rates c x → changed c.before c.call ≡ 0 → calls.burst_after d c.before c.call ≡ burst_at d x
  unfolding burst_at
  burst_then d c x p e =
      let t = (real.step_tied room rate ceiling rates c.before _ p.tie c.call p.ok).tied in
      rw (t.rate_is, t.ceiling_is, same_rate c.before c.call (rate_of rate x) e, same_ceiling c.before c.call (ceiling_of ceiling x) e)

  burst_flat : (d k : ℕ) (x : List Event) → Fits x → sum (calls.by changed) (suc k) x ≡ 0 → oldest (calls.by (calls.burst_after d)) k x ≤ burst_at d (back (suc k) x)
  unfolding sum back oldest Along
  burst_flat d k [] a e = omega arith
  burst_flat d zero (c ∷ x) a e = le_of_eq (burst_then d c x a.0 (omega arith))
  burst_flat d (suc k) (c ∷ []) a e = le_of_eq (burst_then d c [] a.0 (omega arith))
  burst_flat d (suc k) (c ∷ c' ∷ x) a e = burst_flat d k (c' ∷ x) a.1 (omega arith)

  steady_run : (h : List Call) (d : ℕ) → d < dims → (k : ℕ) → sum (calls.by changed) (suc k) (es h) ≡ 0 → Steady (es h) d (rate_of rate (back (suc k) (es h))) (ceiling_of ceiling (back (suc k) (es h))) k
  unfolding burst_at
  steady_run h d small k e = omega (arith, real.from_first room rate ceiling rates first b h d small k, gaps_flat d k (es h) (fits h) e, burst_flat d k (es h) (fits h) e)

  pub rated : Rated rate ceiling first
  rated = record {
    rate_is = rate_is;
    ceiling_is = ceiling_is;
    from_first = real.from_first room rate ceiling rates first b;
    steady_run = steady_run;
    steady = λ h e d small k.
        let f = none_changed (suc k) (es h) e in
        let r = sym (still_rate rate (suc k) (es h) f) ∙ start_rate rate (es h) e in
        let z = sym (still_ceiling ceiling (suc k) (es h) f) ∙ start_ceiling ceiling (es h) e in
        rw (r, z) at (steady_run h d small k f);
  }

-- THE THEOREM
pub rated_so : Claim
rated_so was m rate ceiling rates e = rated (length m.rows.units) rate ceiling rates (calls.left was m rate ceiling) (left_tied was m rate ceiling e rates)
