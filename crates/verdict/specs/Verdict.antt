-- What decides: a unit's want, the three rules, the verdict, and a judgement on one record. Each function of src/ has its definition here for its contract. Definitions only.
use Rattle.std.specs.Prelude.{ℕ, ◌-◌, Bool, true, false, cond, List, leb, Float}
use Rattle.std.specs.Float.{binary64}
use Rattle.std.specs.Float.Ieee.{of_bits}
use Rattle.ieee.specs.Doubles.{◌⊕◌, ◌⊖◌, ◌⊗◌, ◌⊘◌, ◌⊴◌, one, half}
use Rattle.flow.specs.declared.Bucket.{Bucket}
use Rattle.flow.specs.declared.Use.{Use}
use Rattle.flow.specs.Flow.{dims, WINDOW_MS, WINDOW_SECS, largest, all, at, bucket_at, is_fresh, credited, fade_to, tried, charged, refilled_all, spent_all}
use Rattle.verdict.specs.declared.Outcome.{Outcome}
use Rattle.verdict.specs.declared.Verdict.{Verdict}
use Rattle.verdict.specs.declared.Verdict.TheVariants.{Admitted, OverShare, RelayRate}

abbrev pub weight_of : Bool → ℕ → Float
weight_of fresh idle = cond fresh one (cond (leb WINDOW_MS idle) one half)

-- how many times the level the unit wants; `attempted` has this batch in it already
abbrev pub want_of : Float → Float → Float → Float → Float
want_of weight attempted cost level =
    (attempted ⊕ (weight ⊖ one) ⊗ cost) ⊘ WINDOW_SECS ⊘ level

-- the three rules, each for one dimension
abbrev pub credit_holds : Float → Float → Bool
credit_holds credit cost = cost ⊴ credit

abbrev pub tokens_hold : Bucket → Float → Bool
tokens_hold b cost = cost ⊴ b.tokens

-- the part of the burst that the batch would leave
abbrev pub part_of : Bucket → Float → Float
part_of b cost = (b.tokens ⊖ cost) ⊘ b.burst

-- it reaches the mark
abbrev pub reserve_holds : Bucket → Float → Float → Bool
reserve_holds b cost mark = mark ⊴ part_of b cost

-- 0.1: the part of the bucket that only sources within their share may spend
abbrev pub «RESERVE» : Float
«RESERVE» = of_bits binary64 0x3fb9_9999_9999_999a

-- 0.000001: how far a rank raises the mark
abbrev pub RANK_WEIGHT : Float
RANK_WEIGHT = of_bits binary64 0x3eb0_c6f7_a0b5_ed8d

-- the mark rises with the want, and by a millionth with the rank
abbrev pub mark_of : Float → Float → Float
mark_of wants rank = «RESERVE» ⊗ (one ⊖ one ⊘ (wants ⊗ (one ⊕ rank ⊗ RANK_WEIGHT)))

abbrev pub want : Float → List Float → List Float → List Float → Float
want weight attempted cost level = largest (λ (d : ℕ). want_of weight (at attempted d) (at cost d) (at level d)) dims

abbrev pub covers : List Float → List Float → Bool
covers credit cost = all (λ (d : ℕ). credit_holds (at credit d) (at cost d)) dims

-- ---- the decision: within the level, credit and then tokens; above it all must hold, the reserve too
abbrev pub within : Bool → Bool → Verdict
within credit tokens = cond credit (cond tokens Admitted RelayRate) OverShare

abbrev pub above : Bool → Bool → Bool → Verdict
above credit tokens reserve = cond credit (cond tokens (cond reserve Admitted OverShare) OverShare) OverShare

abbrev pub decided : Float → Bool → Bool → Bool → Verdict
decided wants credit tokens reserve = cond (wants ⊴ one) (within credit tokens) (above credit tokens reserve)

abbrev pub is_admitted : Verdict → Bool
is_admitted Admitted = true
is_admitted OverShare = false
is_admitted RelayRate = false

abbrev pub suffice : List Bucket → List Float → Bool
suffice bs cost = all (λ (d : ℕ). tokens_hold (bucket_at bs d) (at cost d)) dims

abbrev pub leaves : List Bucket → List Float → Float → Bool
leaves bs cost mark = all (λ (d : ℕ). reserve_holds (bucket_at bs d) (at cost d) mark) dims

-- ---- a judgement on a record that was found or added
abbrev pub settled : Verdict → List Bucket → Use → List Float → Outcome
settled v bs u cost = cond (is_admitted v) (record { verdict = v; buckets = spent_all bs cost; used = charged u cost }) (record { verdict = v; buckets = bs; used = u })

-- with the buckets refilled, and the use credited and tried
abbrev pub weighed : Float → Float → List Bucket → Use → List Float → Outcome
weighed wants rank bs u cost = settled (decided wants (covers u.credit cost) (suffice bs cost) (leaves bs cost (mark_of wants rank))) bs u cost

-- the use after a judgement's credit, fade and try
abbrev pub met : Use → ℕ → List Float → List Float → Use
met u clock fill cost = tried (fade_to (credited u clock fill) clock) cost

-- fresh and idle are those before the fade
abbrev pub judged : List Bucket → Use → ℕ → ℕ → List Float → List Float → List Float → Float → Outcome
judged bs u clock elapsed cost fill level rank =
    weighed (want (weight_of (is_fresh u.fresh) (clock - u.at_ms)) (met u clock fill cost).attempted cost level) rank (refilled_all bs elapsed) (met u clock fill cost) cost
