-- The side and the rule by what was asked: w within the level; c, t, r the credit, the tokens, the reserve lack. proofs/Says.antt has what they say. Assumes nothing.
use mathlib.Core.Bool.{Bool, cond}
use mathlib.Core.List.{List}
use Prim.Native.Nat.{ℕ}
use lib.Ieee.{Float}
use Rattle.flow.specs.declared.Bucket.{Bucket}
use Rattle.flow.specs.Flow.{dim_at}
use Rattle.verdict.specs.declared.Side.{Side}
use Rattle.verdict.specs.declared.Side.TheVariants.{Within, Over}
use Rattle.verdict.specs.declared.Rule.{Rule}
use Rattle.verdict.specs.declared.Rule.TheVariants.{Admitted, Credit, Tokens}
use Rattle.verdict.specs.Rules.{side_of, reserve_at}

abbrev pub sided : Bool → Side
sided w = cond w Within Over

-- the first dimensions that lack are the credit's d, the tokens' e, the reserve's f
abbrev pub picked_at : (wants mark : Float) (bs : List Bucket) (cost : List Float) (d e f : ℕ) (c t w r : Bool) → Rule
picked_at wants mark bs cost d e f c t w r =
    cond c (Credit (side_of wants) (dim_at d))
    (cond t (Tokens (side_of wants) (dim_at e))
    (cond w (Admitted wants) (cond r (reserve_at bs cost mark f) (Admitted wants))))
