-- The demand where rates change, and where they do not: besides what specs/Calls says. Definitions, and the statement.
use Rattle.std.specs.Prelude.{ℕ, suc, ◌+◌, ◌*◌, ◌≤◌, ◌<◌, ◌≡◌, true, List, [], ◌∷◌, get_or, Ok}
use Rattle.flow.specs.Flow.{dims}
use Rattle.head.specs.declared.Shedder.{Shedder}
use Rattle.fair.specs.Given as shed
use Rattle.fair.specs.Given.{Memory}
use Rattle.fair.specs.Runs.{sum, oldest, back, Each}
use Rattle.fair.specs.Bounds.{parts}
use Rattle.fair.specs.Tokens.{burst}
use Rattle.fair.specs.Calls.{State, Call, Judge, Cut, Rates, Read, Event, events, state, by, admitted, handed, carried, burst_after, span, starts, left}

-- ---- the rates in force, from the calls alone: those of the last change that was taken, the start's before any
abbrev pub rate_after : Call → List ℕ → List ℕ
rate_after (Judge u cost t) rate = rate
rate_after (Cut u c cost) rate = rate
rate_after (Rates to ceiling t) rate = to
rate_after (Read q) rate = rate

abbrev pub ceiling_after : Call → List ℕ → List ℕ
ceiling_after (Judge u cost t) ceiling = ceiling
ceiling_after (Cut u c cost) ceiling = ceiling
ceiling_after (Rates rate to t) ceiling = to
ceiling_after (Read q) ceiling = ceiling

unfoldable pub rate_of : List ℕ → List Event → List ℕ
rate_of start [] = start
rate_of start (e ∷ es) = rate_after e.call (rate_of start es)

unfoldable pub ceiling_of : List ℕ → List Event → List ℕ
ceiling_of start [] = start
ceiling_of start (e ∷ es) = ceiling_after e.call (ceiling_of start es)

-- counts the changes
abbrev pub changed : State → Call → ℕ
changed s (Judge u cost t) = 0
changed s (Cut u c cost) = 0
changed s (Rates rate ceiling t) = 1
changed s (Read q) = 0

-- no change
abbrev pub Kept : Event → Type 0
Kept e = changed e.before e.call ≡ 0

-- admitted cost of the run of suc k calls ≤ burst + rate * T + handed back + n / 256, at one rate and ceiling
abbrev pub Steady : List Event → ℕ → List ℕ → List ℕ → ℕ → Type 0
Steady es d rate ceiling k =
    1000 * parts * sum (by (admitted d)) (suc k) es
    ≤ 1000 * parts * burst (get_or rate d 0) (get_or ceiling d 0) + parts * (get_or rate d 0 * span es k) + 1000 * parts * sum (by (handed d)) (suc k) es + 1000 * suc k

pub record Rated (rate ceiling : List ℕ) (first : State) : Type 0 where
  -- the rates that the definitions read are those that the calls gave
  pub rate_is : (h : List Call) → (state first h).head.flow.rate ≡ rate_of rate (events first h)
  pub ceiling_is : (h : List Call) → (state first h).head.flow.ceiling ≡ ceiling_of ceiling (events first h)
  -- of the bursts, that after the run's first call suffices
  pub from_first : (h : List Call) (d : ℕ) → d < dims → (k : ℕ)
      → 1000 * parts * sum (by (admitted d)) (suc k) (events first h)
      ≤ 1000 * parts * oldest (by (burst_after d)) k (events first h) + parts * sum (carried d) k (events first h) + 1000 * parts * sum (by (handed d)) (suc k) (events first h) + 1000 * suc k
  -- a run with no change in it, at the rates in force before it
  pub steady_run : (h : List Call) (d : ℕ) → d < dims → (k : ℕ) → sum (by changed) (suc k) (events first h) ≡ 0
      → Steady (events first h) d (rate_of rate (back (suc k) (events first h))) (ceiling_of ceiling (back (suc k) (events first h))) k
  -- with no change in the whole list every run, at the start's rates
  pub steady : (h : List Call) → Each Kept (events first h) → (d : ℕ) → d < dims → (k : ℕ) → Steady (events first h) d rate ceiling k

-- from what a start at bounded rates left
abbrev pub Claim : Type 0
Claim = (was : Shedder) (m : Memory) (rate ceiling : List ℕ) → shed.all_rates rate ≡ true → (starts was m rate ceiling).answer ≡ Ok tt → Rated rate ceiling (left was m rate ceiling)
