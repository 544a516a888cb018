-- Demand 3 over a store: rows found by their sender, with room for so many, a new one at any place among them; past that, overflow's record; and a sweep at a judgement. Definitions, and the statement.
-- What demand 2's definition computes of levels, wants, reserve and the scan's tables comes in with each call here, so the demand holds whatever that is.
use Rattle.std.specs.Prelude.{ℕ, suc, ◌+◌, ◌-◌, ◌*◌, ◌^◌, ◌≤◌, ◌<◌, max, ◌≡◌, Bool, true, false, ◌&&◌, cond, List, [], ◌∷◌, T, ltb, length, insert, Float}
use Rattle.ieee.specs.Doubles.{◌⊴◌, one}
use Rattle.ieee.specs.Units.{power, units, Amount}
use Rattle.flow.specs.declared.Use.{Use}
use Rattle.verdict.specs.declared.Verdict.{Verdict}
use Rattle.verdict.specs.declared.Verdict.TheVariants.{OverShare}
use Rattle.flow.specs.Flow as flow
use Rattle.flow.specs.Flow.{dims, at}
use Rattle.fair.specs.Runs.{sum, highest, oldest, lowest, Since, clock, back, Each}
use Rattle.fair.specs.Bounds.{stale_after, most_depth, least_depth, parts}
use Rattle.fair.specs.Tokens.{Pot, pot_of, burst}
use Rattle.fair.specs.Demand as demand
use Rattle.fair.specs.Demand.{Batch, Here, Kept, absent, present, State, turned, does, verdict_here, is_admitted, Small}

-- a sender's name, whether two are the same, and whether it goes to overflow's record at once; and the room for rows
module _ (Name : Type 0) (same : Name → Name → Bool) (shares : Name → Bool) (room : ℕ) where
  pub record Row : Type 0 where
    pub name : Name
    pub used : Use

  -- a record: overflow's, or a sender's
  pub data Key : Type 0 where
    shared : Key
    own : Name → Key

  pub record Store : Type 0 where
    pub pot : ℕ → Pot
    pub rows : List Row
    pub overflow : Use

  pub data Call : Type 0 where
    -- a judgement: the sender, the batch, the fill in each dimension, the rows that the scan comes by, each told by its place in the list that the scan finds and by the row, and the sender's place: how many rows stand before its row if that is new
    Judge : Name → Batch → List Float → (ℕ → Row → Bool) → ℕ → Call
    -- a ReceiverCeiling cut: the sender, the cost in each dimension, and the sender's place
    Cut : Name → (ℕ → ℕ) → ℕ → Call
    -- new rates: the stamp, and the rate and the ceiling in each dimension
    Rates : ℕ → (ℕ → ℕ) → (ℕ → ℕ) → Call
    Other : Call

  abbrev pub stamp : Call → ℕ
  stamp (Judge u b fill scanned place) = b.stamp
  stamp (Cut u c place) = 0
  stamp (Rates t rate ceiling) = t
  stamp Other = 0

  abbrev pub Lawful : Call → Type 0
  Lawful (Judge u b fill scanned place) = (b.stamp < 2 ^ 53) × Small b.cost × ((d : ℕ) → d < dims → Amount (at fill d) × (units (at fill d) ≤ power 1114))
  Lawful (Cut u c place) = Small c
  Lawful (Rates t rate ceiling) = (t < 2 ^ 53) × ((d : ℕ) → d < dims → (1 ≤ rate d) × (rate d ≤ 2 ^ 40))
  Lawful Other = Unit {0}

  -- ---- rows
  abbrev pub find : Name → List Row → Kept
  find u [] = absent
  find u (r ∷ rs) = cond (same u r.name) (present r.used) (find u rs)

  -- the sender's row with the use, where it stands
  abbrev pub replaced : Name → Use → List Row → List Row
  replaced u x [] = []
  replaced u x (r ∷ rs) = cond (same u r.name) (record { name = r.name; used = x } ∷ rs) (r ∷ replaced u x rs)

  -- in its row, or in a new one at the place; past the end, at the end
  abbrev pub put : ℕ → Name → Use → List Row → List Row
  put place u x rs = cond (demand.there (find u rs)) (replaced u x rs) (insert rs place (record { name = u; used = x }))

  -- of the rows behind the first, their places counted from 0 again
  abbrev pub behind : (ℕ → Row → Bool) → ℕ → Row → Bool
  behind p i = p (suc i)

  -- without the rows of which p holds at their place
  abbrev pub sweep : (ℕ → Row → Bool) → List Row → List Row
  sweep p [] = []
  sweep p (r ∷ rs) = cond (p 0 r) (sweep (behind p) rs) (r ∷ sweep (behind p) rs)

  -- ---- records
  abbrev pub look : Key → Store → Kept
  look shared s = present s.overflow
  look (own u) s = find u s.rows

  abbrev pub seen : Key → Store → State
  seen k s = record { pot = s.pot; used = look k s }

  -- the record that a sender uses
  abbrev pub resolve : Store → Name → Key
  resolve s u = cond (shares u) shared (cond (demand.there (find u s.rows)) (own u) (cond (ltb (length s.rows) room) (own u) shared))

  abbrev pub rows_with : ℕ → Key → Kept → List Row → List Row
  rows_with place shared x rs = rs
  rows_with place (own u) absent rs = rs
  rows_with place (own u) (present x) rs = put place u x rs

  abbrev pub overflow_with : Key → Kept → Use → Use
  overflow_with shared absent o = o
  overflow_with shared (present x) o = x
  overflow_with (own u) x o = o

  -- ---- steps
  -- the scan comes by, and the row is more than 8 s old
  abbrev pub stale : (ℕ → Row → Bool) → ℕ → ℕ → Row → Bool
  stale scanned clock i r = scanned i r && ltb (r.used.at_ms + stale_after) clock

  abbrev pub after : ℕ → Key → State → Store → Store
  after place k t s = record { pot = t.pot; rows = rows_with place k t.used s.rows; overflow = overflow_with k t.used s.overflow }

  abbrev pub swept : (ℕ → Row → Bool) → Store → Store
  swept p s = record { pot = s.pot; rows = sweep p s.rows; overflow = s.overflow }

  abbrev pub step : Store → ℕ → Call → Store
  step s k (Judge u b fill scanned place) =
      swept (stale scanned (max b.stamp k)) (after place (resolve s u) (does (seen (resolve s u) s) k (Here b fill)) s)
  step s k (Cut u c place) = after place (resolve s u) (does (seen (resolve s u) s) k (demand.Cut c)) s
  step s k (Rates t rate ceiling) = record { pot = λ (d : ℕ). turned s.pot k t rate ceiling d; rows = s.rows; overflow = s.overflow }
  step s k Other = s

  abbrev pub same_key : Key → Key → Bool
  same_key shared shared = true
  same_key shared (own v) = false
  same_key (own u) shared = false
  same_key (own u) (own v) = same u v

  abbrev pub handed : ℕ → Call → List Call → ℕ
  handed d (Judge u b fill scanned place) h = 0
  handed d (Cut u c place) h = c d
  handed d (Rates t rate ceiling) h = 0
  handed d Other h = 0

  abbrev pub span : List Call → ℕ → ℕ
  span h k = clock stamp h - clock stamp (back k h)

  module _ (rate ceiling : ℕ → ℕ) where
    unfoldable pub store : List Call → Store
    store [] = record { pot = λ (d : ℕ). pot_of (flow.opened (rate d) (ceiling d)) (rate d) (ceiling d); rows = []; overflow = flow.added 0 }
    store (c ∷ h) = step (store h) (clock stamp h) c

    -- the record that a call of the sender u uses after the history h, and the answer to a judgement
    abbrev pub key : Name → List Call → Key
    key u h = resolve (store h) u

    abbrev pub verdict : Name → Batch → List Float → List Call → Verdict
    verdict u b fill h = verdict_here (seen (key u h) (store h)) (clock stamp h) b fill

    abbrev pub admitted : ℕ → Call → List Call → ℕ
    admitted d (Judge u b fill scanned place) h = cond (is_admitted (verdict u b fill h)) (b.cost d) 0
    admitted d (Cut u c place) h = 0
    admitted d (Rates t x z) h = 0
    admitted d Other h = 0

    -- the gap before a call counts at the rate before it
    abbrev pub carried : ℕ → Call → List Call → ℕ
    carried d c h = ((store h).pot d).rate * (clock stamp (c ∷ h) - clock stamp h)

    -- the burst in force after a call
    abbrev pub burst_after : ℕ → Call → List Call → ℕ
    burst_after d c h = burst ((store (c ∷ h)).pot d).rate ((store (c ∷ h)).pot d).ceiling

    -- ---- of one record
    module _ (r : Key) where
      abbrev pub admitted_on : ℕ → Call → List Call → ℕ
      admitted_on d (Judge u b fill scanned place) h = cond (same_key r (key u h)) (cond (is_admitted (verdict u b fill h)) (b.cost d) 0) 0
      admitted_on d (Cut u c place) h = 0
      admitted_on d (Rates t x z) h = 0
      admitted_on d Other h = 0

      abbrev pub handed_on : ℕ → Call → List Call → ℕ
      handed_on d (Judge u b fill scanned place) h = 0
      handed_on d (Cut u c place) h = cond (same_key r (key u h)) (c d) 0
      handed_on d (Rates t x z) h = 0
      handed_on d Other h = 0

      abbrev pub tried_on : ℕ → Call → List Call → ℕ
      tried_on d (Judge u b fill scanned place) h = cond (same_key r (key u h)) (b.cost d) 0
      tried_on d (Cut u c place) h = 0
      tried_on d (Rates t x z) h = 0
      tried_on d Other h = 0

      -- the fill met at a judgement of the record
      abbrev pub fill_on : ℕ → Call → List Call → ℕ
      fill_on d (Judge u b fill scanned place) h = cond (same_key r (key u h)) (units (at fill d)) 0
      fill_on d (Cut u c place) h = 0
      fill_on d (Rates t x z) h = 0
      fill_on d Other h = 0

      abbrev pub judged_on : Call → List Call → Bool
      judged_on (Judge u b fill scanned place) h = same_key r (key u h)
      judged_on (Cut u c place) h = false
      judged_on (Rates t x z) h = false
      judged_on Other h = false

      -- the run of suc k calls begins with a judgement of the present record
      abbrev pub Present : ℕ → List Call → Type 0
      Present k h = Since judged_on (λ (h : List Call). demand.there (look r (store h))) k h

    -- THE DEMAND, for every history and every run of n = suc k calls in it, T in milliseconds, fills in units of 2 ^ -1074
    pub record Demand : Type 0 where
      -- admitted ≤ the burst after the first call + the sum of rate * gap + handed back + n / 256, times 256000
      pub relay : (h : List Call) → Each Lawful h → (d : ℕ) → d < dims → (k : ℕ)
          → 1000 * parts * sum (admitted d) (suc k) h ≤ 1000 * parts * oldest (burst_after d) k h + parts * sum (carried d) k h + 1000 * parts * sum (handed d) (suc k) h + 1000 * suc k
      -- for each record: admitted on it ≤ (4 + T) * its highest fill + its hand-backs + n / 256, times 256000 * 2 ^ 1074
      pub share : (r : Key) (h : List Call) → Each Lawful h → (d : ℕ) → d < dims → (k : ℕ)
          → 1000 * parts * sum (admitted_on r d) (suc k) h * power 1074 ≤ parts * ((most_depth + span h k) * highest (fill_on r d) (suc k) h) + (1000 * parts * sum (handed_on r d) (suc k) h + 1000 * suc k) * power 1074
      -- a sender whose want is within the level is not called over share, if in each dimension and every run from a judgement of its present record to this batch: tried on it ≤ (4 + T) * its lowest fill - n / 256
      pub spared : (u : Name) (b : Batch) (fill : List Float) (scanned : ℕ → Row → Bool) (place : ℕ) (h : List Call) → Each Lawful h → Lawful (Judge u b fill scanned place) → T (b.want ⊴ one)
          → ((d : ℕ) → d < dims → (k : ℕ) → Present (key u h) k (Judge u b fill scanned place ∷ h)
          → (1000 * parts * sum (tried_on (key u h) d) (suc k) (Judge u b fill scanned place ∷ h) + 1000 * suc k) * power 1074
          ≤ parts * ((least_depth + span (Judge u b fill scanned place ∷ h) k) * lowest (judged_on (key u h)) (fill_on (key u h) d) k (Judge u b fill scanned place ∷ h)))
          → verdict u b fill h ≡ OverShare → ⊥

-- for any names, any room, and any ceiling, at rates from 1 to 2 ^ 40
abbrev pub Claim : Type 1
Claim = (Name : Type 0) (same : Name → Name → Bool) → ((u v : Name) → T (same u v) → u ≡ v) → ((u : Name) → T (same u u)) → (shares : Name → Bool) (room : ℕ)
    (rate ceiling : ℕ → ℕ) → ((d : ℕ) → d < dims → (1 ≤ rate d) × (rate d ≤ 2 ^ 40)) → Demand Name same shares room rate ceiling
