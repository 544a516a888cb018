-- The rule that decides a batch (document 02, K1): within the level credit, then tokens; over it credit, tokens, then the reserve. Each is asked of receptions, then of bytes, and the first
-- dimension that lacks is named. The verdict that it gives, and the bound that failed. Each function of src/rules.rt has its definition here for its contract. Definitions only.
use Rattle.std.specs.Prelude.{ℕ, zero, suc, ◌-◌, Bool, cond, List, ltb, Float}
use Rattle.std.proofs.Math.Option.{Option, none, some}
use Rattle.std.specs.declared.option.Option as std
use Rattle.std.specs.declared.option.Option.TheVariants as found
use Rattle.ieee.specs.Doubles.{◌⊴◌, one}
use Rattle.flow.specs.declared.Bucket.{Bucket}
use Rattle.flow.specs.declared.Use.{Use}
use Rattle.flow.specs.Flow.{dims, dim_of, dim_at, at, bucket_at, is_fresh, refilled_all}
use Rattle.verdict.specs.declared.Verdict.{Verdict}
use Rattle.verdict.specs.declared.Verdict.TheVariants as verdict
use Rattle.verdict.specs.declared.Side.{Side}
use Rattle.verdict.specs.declared.Side.TheVariants.{Within, Over}
use Rattle.verdict.specs.declared.Rule.{Rule}
use Rattle.verdict.specs.declared.Rule.TheVariants.{Admitted, Credit, Tokens, Reserve}
use Rattle.verdict.specs.Verdict.{credit_holds, tokens_hold, part_of, reserve_holds, mark_of, want, weight_of, met}

-- the first of n dimensions in which p does not hold, n where it holds in all
unfoldable pub lacking : (p : ℕ → Bool) (n : ℕ) → ℕ
lacking p zero = zero
lacking p (suc n) = cond (ltb (lacking p n) n) (lacking p n) (cond (p n) (suc n) n)

-- a dimension that was found, none from dims on
unfoldable pub first : (d : ℕ) → std.Option ℕ
first d = cond (ltb d dims) (found.Some d) found.None

unfoldable pub credit_lacks : (credit cost : List Float) → ℕ
credit_lacks credit cost = lacking (λ (d : ℕ). credit_holds (at credit d) (at cost d)) dims

unfoldable pub tokens_lack : List Bucket → (cost : List Float) → ℕ
tokens_lack bs cost = lacking (λ (d : ℕ). tokens_hold (bucket_at bs d) (at cost d)) dims

unfoldable pub reserve_lacks : List Bucket → (cost : List Float) (mark : Float) → ℕ
reserve_lacks bs cost mark = lacking (λ (d : ℕ). reserve_holds (bucket_at bs d) (at cost d) mark) dims

-- where the want lies
unfoldable pub side_of : (wants : Float) → Side
side_of wants = cond (wants ⊴ one) Within Over

-- the reserve lacks in dimension d
abbrev pub reserve_at : List Bucket → (cost : List Float) (mark : Float) (d : ℕ) → Rule
reserve_at bs cost mark d = Reserve (dim_at d) mark (part_of (bucket_at bs d) (at cost d))

-- once credit and tokens hold: over the level the reserve is asked
unfoldable pub reserved : (wants mark : Float) → List Bucket → (cost : List Float) → Rule
reserved wants mark bs cost =
    cond (wants ⊴ one) (Admitted wants)
    (cond (ltb (reserve_lacks bs cost mark) dims) (reserve_at bs cost mark (reserve_lacks bs cost mark)) (Admitted wants))

-- THE RULE of a want, a rank, the credit and the buckets met, and a cost
unfoldable pub rule_of : (wants rank : Float) (credit : List Float) → List Bucket → (cost : List Float) → Rule
rule_of wants rank credit bs cost =
    cond (ltb (credit_lacks credit cost) dims) (Credit (side_of wants) (dim_at (credit_lacks credit cost)))
    (cond (ltb (tokens_lack bs cost) dims) (Tokens (side_of wants) (dim_at (tokens_lack bs cost)))
    (reserved wants (mark_of wants rank) bs cost))

-- the rule of a judgement on a record: the want, credit and buckets are those that specs/Verdict `judged` decides by
unfoldable pub ruled : List Bucket → Use → (clock elapsed : ℕ) (cost fill level : List Float) (rank : Float) → Rule
ruled bs u clock elapsed cost fill level rank =
    rule_of (want (weight_of (is_fresh u.fresh) (clock - u.at_ms)) (met u clock fill cost).attempted cost level) rank (met u clock fill cost).credit (refilled_all bs elapsed) cost

-- ---- what a rule answers: within the level, lacking tokens are the relay's rate; all else that lacks is the share
abbrev pub tokens_verdict : Side → Verdict
tokens_verdict Within = verdict.RelayRate
tokens_verdict Over = verdict.OverShare

abbrev pub verdict_of : Rule → Verdict
verdict_of (Admitted wants) = verdict.Admitted
verdict_of (Credit side dim) = verdict.OverShare
verdict_of (Tokens side dim) = tokens_verdict side
verdict_of (Reserve dim mark part) = verdict.OverShare

-- ---- the bound that failed: `asked` had to be at most `held`. The credit or the tokens lacked the cost; the part of the burst that would have been left lacked the mark
pub record Bound : Type 0 where
  pub asked : Float
  pub held : Float

unfoldable pub bound_of : (credit : List Float) → List Bucket → (cost : List Float) → Rule → Option Bound
bound_of credit bs cost (Admitted wants) = none
bound_of credit bs cost (Credit side dim) = some (record { asked = at cost (dim_of dim); held = at credit (dim_of dim) })
bound_of credit bs cost (Tokens side dim) = some (record { asked = at cost (dim_of dim); held = (bucket_at bs (dim_of dim)).tokens })
bound_of credit bs cost (Reserve dim mark part) = some (record { asked = mark; held = part })
