-- Demand 3, over all dimensions: the buckets, one record (a sender's, or overflow's) and the decision. Definitions, and the statement.
-- WHAT THE STORE MUST SUPPLY to carry this to the real shedder, for each record R: for each call that is not refused, its deed as R sees it, such that
--   1. `view R` of the state after the call is `does` of `view R` of the state before it, at the clock and the deed (R's use where R is in the store, absent where not; the buckets);
--   2. the call's answer is `verdict` of its batch, with its want, its reserve test and, for a batch of another record, its credit test, as demand 2's definition gives them;
--   3. the deed is `Lawful`: questions 1, 5, 6 and 10, and that a fill, min (level, rate), is a finite double from 0 to 2 ^ 40 (the level is never a NaN, and at least 1);
--   4. a scan drops R only where its stamp is more than 8000 before the clock (the scan's stamp is at most the clock), and never in a call that judges R.
use Rattle.std.specs.Prelude.{ℕ, suc, ◌+◌, ◌-◌, ◌*◌, ◌^◌, ◌≤◌, ◌<◌, max, ◌≡◌, Bool, true, false, cond, List, [], ◌∷◌, T, ltb, replicate, Float}
use Rattle.ieee.specs.Doubles.{◌⊴◌, one, nothing, whole}
use Rattle.ieee.specs.Units.{power, units, Amount}
use Rattle.flow.specs.declared.Bucket.{Bucket}
use Rattle.flow.specs.declared.Use.{Use}
use Rattle.verdict.specs.declared.Verdict.{Verdict}
use Rattle.verdict.specs.declared.Verdict.TheVariants.{OverShare}
use Rattle.flow.specs.Flow as flow
use Rattle.verdict.specs.Verdict as verdicts
use Rattle.flow.specs.Flow.{dims, at, each, all}
use Rattle.fair.specs.Runs.{sum, highest, oldest, lowest, Since, clock, back, Each}
use Rattle.fair.specs.Bounds.{stale_after, most_depth, least_depth, parts}
use Rattle.fair.specs.Tokens.{Pot, pot_of, holding, ready, burst, paid}

-- ---- calls
-- a judged batch: its stamp, its cost in each dimension, how many times the level its sender wants, and whether the reserve's test passes
pub record Batch : Type 0 where
  pub stamp : ℕ
  pub cost : ℕ → ℕ
  pub want : Float
  pub reserve : Bool

-- what a call does, as one record sees it
pub data Deed : Type 0 where
  -- judged on this record, which meets a fill in each dimension
  Here : Batch → List Float → Deed
  -- judged on another record, whose credit suffices or not; whether this record is dropped, if it is old enough
  There : Batch → Bool → Bool → Deed
  -- a ReceiverCeiling cut, on this record or on another
  Cut : (ℕ → ℕ) → Deed
  CutThere : (ℕ → ℕ) → Deed
  -- new rates: the stamp, and the rate and the ceiling in each dimension
  Rates : ℕ → (ℕ → ℕ) → (ℕ → ℕ) → Deed
  -- any other call: another cut, a report, a reading
  Idle : Deed

abbrev pub stamp : Deed → ℕ
stamp (Here b fill) = b.stamp
stamp (There b credit drops) = b.stamp
stamp (Cut c) = 0
stamp (CutThere c) = 0
stamp (Rates t rate ceiling) = t
stamp Idle = 0

abbrev pub Small : (ℕ → ℕ) → Type 0
Small c = (d : ℕ) → d < dims → c d ≤ 2 ^ 40

abbrev pub Lawful : Deed → Type 0
Lawful (Here b fill) = (b.stamp < 2 ^ 53) × Small b.cost × ((d : ℕ) → d < dims → Amount (at fill d) × (units (at fill d) ≤ power 1114))
Lawful (There b credit drops) = (b.stamp < 2 ^ 53) × Small b.cost
Lawful (Cut c) = Small c
Lawful (CutThere c) = Small c
Lawful (Rates t rate ceiling) = (t < 2 ^ 53) × ((d : ℕ) → d < dims → (1 ≤ rate d) × (rate d ≤ 2 ^ 40))
Lawful Idle = Unit {0}

-- ---- states
pub data Kept : Type 0 where
  absent : Kept
  present : Use → Kept

pub record State : Type 0 where
  pub pot : ℕ → Pot
  pub used : Kept

abbrev pub found : Kept → ℕ → Use
found absent clock = flow.added clock
found (present u) clock = u

abbrev pub priced : (ℕ → ℕ) → List Float
priced c = each (λ (d : ℕ). whole (c d)) (replicate dims nothing)

-- at a judgement: the buckets refilled, and the record's credit filled
abbrev pub filled : State → ℕ → Batch → ℕ → Bucket
filled s clock b d = ready (s.pot d).bucket clock b.stamp

abbrev pub credited : State → ℕ → Batch → List Float → Use
credited s clock b fill = flow.credited (found s.used (max b.stamp clock)) (max b.stamp clock) fill

abbrev pub tokens_hold : State → ℕ → Batch → Bool
tokens_hold s clock b = all (λ (d : ℕ). whole (b.cost d) ⊴ (filled s clock b d).tokens) dims

abbrev pub credit_holds : State → ℕ → Batch → List Float → Bool
credit_holds s clock b fill = verdicts.covers (credited s clock b fill).credit (priced b.cost)

abbrev pub verdict_here : State → ℕ → Batch → List Float → Verdict
verdict_here s clock b fill = verdicts.decided b.want (credit_holds s clock b fill) (tokens_hold s clock b) b.reserve

abbrev pub verdict_there : State → ℕ → Batch → Bool → Verdict
verdict_there s clock b credit = verdicts.decided b.want credit (tokens_hold s clock b) b.reserve

abbrev pub is_admitted : Verdict → Bool
is_admitted v = verdicts.is_admitted v

abbrev pub settled : Bool → Use → (ℕ → ℕ) → Use
settled true u c = flow.charged u (priced c)
settled false u c = u

abbrev pub aged : Bool → Use → Kept
aged true u = absent
aged false u = present u

abbrev pub dropped : Bool → Kept → ℕ → Kept
dropped true absent clock = absent
dropped true (present u) clock = aged (ltb (u.at_ms + stale_after) clock) u
dropped false k clock = k

-- at new rates: refilled at the rate before, and turned
abbrev pub turned : (ℕ → Pot) → ℕ → ℕ → (ℕ → ℕ) → (ℕ → ℕ) → ℕ → Pot
turned pot clock t rate ceiling d = pot_of (flow.turned (ready (pot d).bucket clock t) (rate d) (ceiling d)) (rate d) (ceiling d)

abbrev pub does : State → ℕ → Deed → State
does s clock (Here b fill) = record {
  pot = λ (d : ℕ). holding (s.pot d) (paid (is_admitted (verdict_here s clock b fill)) (filled s clock b d) (b.cost d));
  used = present (settled (is_admitted (verdict_here s clock b fill)) (flow.tried (flow.fade_to (credited s clock b fill) (max b.stamp clock)) (priced b.cost)) b.cost);
}
does s clock (There b credit drops) = record {
  pot = λ (d : ℕ). holding (s.pot d) (paid (is_admitted (verdict_there s clock b credit)) (filled s clock b d) (b.cost d));
  used = dropped drops s.used (max b.stamp clock);
}
does s clock (Cut c) = record {
  pot = λ (d : ℕ). holding (s.pot d) (flow.returned (s.pot d).bucket (whole (c d)));
  used = present (flow.handed_back (found s.used clock) (priced c));
}
does s clock (CutThere c) = record { pot = λ (d : ℕ). holding (s.pot d) (flow.returned (s.pot d).bucket (whole (c d))); used = s.used }
does s clock (Rates t rate ceiling) = record { pot = λ (d : ℕ). turned s.pot clock t rate ceiling d; used = s.used }
does s clock Idle = s

abbrev pub origin : Bool → Kept
origin true = present (flow.added 0)
origin false = absent

-- ---- the demand
-- what is handed back in all, on this record, and what is tried on it
abbrev pub handed : ℕ → Deed → List Deed → ℕ
handed d (Here b fill) h = 0
handed d (There b credit drops) h = 0
handed d (Cut c) h = c d
handed d (CutThere c) h = c d
handed d (Rates t rate ceiling) h = 0
handed d Idle h = 0

abbrev pub handed_here : ℕ → Deed → List Deed → ℕ
handed_here d (Here b fill) h = 0
handed_here d (There b credit drops) h = 0
handed_here d (Cut c) h = c d
handed_here d (CutThere c) h = 0
handed_here d (Rates t rate ceiling) h = 0
handed_here d Idle h = 0

abbrev pub tried_here : ℕ → Deed → List Deed → ℕ
tried_here d (Here b fill) h = b.cost d
tried_here d (There b credit drops) h = 0
tried_here d (Cut c) h = 0
tried_here d (CutThere c) h = 0
tried_here d (Rates t rate ceiling) h = 0
tried_here d Idle h = 0

abbrev pub fill_here : ℕ → Deed → List Deed → ℕ
fill_here d (Here b fill) h = units (at fill d)
fill_here d (There b credit drops) h = 0
fill_here d (Cut c) h = 0
fill_here d (CutThere c) h = 0
fill_here d (Rates t rate ceiling) h = 0
fill_here d Idle h = 0

abbrev pub here : Deed → List Deed → Bool
here (Here b fill) h = true
here (There b credit drops) h = false
here (Cut c) h = false
here (CutThere c) h = false
here (Rates t rate ceiling) h = false
here Idle h = false

abbrev pub there : Kept → Bool
there absent = false
there (present u) = true

-- T in milliseconds, of the run of suc k calls
abbrev pub span : List Deed → ℕ → ℕ
span h k = clock stamp h - clock stamp (back k h)

module _ (rate ceiling : ℕ → ℕ) (overflow : Bool) where
  unfoldable pub state : List Deed → State
  state [] = record { pot = λ (d : ℕ). pot_of (flow.opened (rate d) (ceiling d)) (rate d) (ceiling d); used = origin overflow }
  state (c ∷ h) = does (state h) (clock stamp h) c

  -- what is admitted in all, and on this record
  abbrev pub admitted : ℕ → Deed → List Deed → ℕ
  admitted d (Here b fill) h = cond (is_admitted (verdict_here (state h) (clock stamp h) b fill)) (b.cost d) 0
  admitted d (There b credit drops) h = cond (is_admitted (verdict_there (state h) (clock stamp h) b credit)) (b.cost d) 0
  admitted d (Cut c) h = 0
  admitted d (CutThere c) h = 0
  admitted d (Rates t x z) h = 0
  admitted d Idle h = 0

  abbrev pub admitted_here : ℕ → Deed → List Deed → ℕ
  admitted_here d (Here b fill) h = cond (is_admitted (verdict_here (state h) (clock stamp h) b fill)) (b.cost d) 0
  admitted_here d (There b credit drops) h = 0
  admitted_here d (Cut c) h = 0
  admitted_here d (CutThere c) h = 0
  admitted_here d (Rates t x z) h = 0
  admitted_here d Idle h = 0

  -- the gap before a call counts at the rate before it
  abbrev pub carried : ℕ → Deed → List Deed → ℕ
  carried d c h = ((state h).pot d).rate * (clock stamp (c ∷ h) - clock stamp h)

  -- the burst in force after a call
  abbrev pub burst_after : ℕ → Deed → List Deed → ℕ
  burst_after d c h = burst ((state (c ∷ h)).pot d).rate ((state (c ∷ h)).pot d).ceiling

  -- the run of suc k calls begins with a judgement of the present record
  abbrev pub Present : ℕ → List Deed → Type 0
  Present k h = Since here (λ (h : List Deed). there (state h).used) k h

  -- THE DEMAND, with T in milliseconds and fills in units of 2 ^ -1074, for every history and every run of n = suc k calls in it
  pub record Demand : Type 0 where
    -- admitted ≤ the burst after the first call + the sum of rate * gap + handed back + n / 256, times 256000
    pub relay : (h : List Deed) → Each Lawful h → (d : ℕ) → d < dims → (k : ℕ)
        → 1000 * parts * sum (admitted d) (suc k) h ≤ 1000 * parts * oldest (burst_after d) k h + parts * sum (carried d) k h + 1000 * parts * sum (handed d) (suc k) h + 1000 * suc k
    -- admitted on the record ≤ (4 + T) * its highest fill + its hand-backs + n / 256, times 256000 * 2 ^ 1074
    pub share : (h : List Deed) → Each Lawful h → (d : ℕ) → d < dims → (k : ℕ)
        → 1000 * parts * sum (admitted_here d) (suc k) h * power 1074 ≤ parts * ((most_depth + span h k) * highest (fill_here d) (suc k) h) + (1000 * parts * sum (handed_here d) (suc k) h + 1000 * suc k) * power 1074
    -- a sender whose want is within the level is not called over share, if in each dimension and every run from a judgement of the present record to this batch: tried ≤ (4 + T) * lowest fill - n / 256
    pub spared : (h : List Deed) → Each Lawful h → (b : Batch) (fill : List Float) → Lawful (Here b fill) → T (b.want ⊴ one)
        → ((d : ℕ) → d < dims → (k : ℕ) → Present k (Here b fill ∷ h)
        → (1000 * parts * sum (tried_here d) (suc k) (Here b fill ∷ h) + 1000 * suc k) * power 1074 ≤ parts * ((least_depth + span (Here b fill ∷ h) k) * lowest here (fill_here d) k (Here b fill ∷ h)))
        → verdict_here (state h) (clock stamp h) b fill ≡ OverShare → ⊥

-- at rates from 1 to 2 ^ 40, for any ceiling, and for a sender's record as for overflow's
abbrev pub Claim : Type 0
Claim = (rate ceiling : ℕ → ℕ) → ((d : ℕ) → d < dims → (1 ≤ rate d) × (rate d ≤ 2 ^ 40)) → (overflow : Bool) → Demand rate ceiling overflow
