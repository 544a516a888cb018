-- What a rule says, in tests of the want, the credit, the tokens and the reserve; and that the rule of specs/Rules says it, is the only one that does, and gives the verdict of
-- specs/Verdict, which knows no rule. For every double, not-a-numbers and infinities too. Statements only; proofs/Says proves them.
use Rattle.std.specs.Prelude.{ℕ, ◌<◌, ◌≡◌, Bool, true, false, List, Float}
use Rattle.std.proofs.Math.Option.{none, some}
use Rattle.ieee.specs.Doubles.{◌⊴◌, one}
use Rattle.flow.specs.declared.Bucket.{Bucket}
use Rattle.flow.specs.declared.Use.{Use}
use Rattle.flow.specs.Flow.{dims, dim_of, at, bucket_at}
use Rattle.verdict.specs.declared.Side.{Side}
use Rattle.verdict.specs.declared.Side.TheVariants.{Within, Over}
use Rattle.verdict.specs.declared.Rule.{Rule}
use Rattle.verdict.specs.declared.Rule.TheVariants.{Admitted, Credit, Tokens, Reserve}
use Rattle.verdict.specs.declared.Verdict.TheVariants as verdict
use Rattle.verdict.specs.Verdict.{part_of, mark_of, covers, suffice, leaves, decided, judged}
use Rattle.verdict.specs.Rules.{rule_of, ruled, verdict_of, Bound, bound_of}

module _ (wants rank : Float) (credit : List Float) (bs : List Bucket) (cost : List Float) where
  -- the credit, the tokens, the reserve hold in every dimension before n
  abbrev pub Credited : (n : ℕ) → Type 0
  Credited n = (d : ℕ) → d < n → at cost d ⊴ at credit d ≡ true

  abbrev pub Tokened : (n : ℕ) → Type 0
  Tokened n = (d : ℕ) → d < n → at cost d ⊴ (bucket_at bs d).tokens ≡ true

  abbrev pub Reserved : (mark : Float) (n : ℕ) → Type 0
  Reserved mark n = (d : ℕ) → d < n → mark ⊴ part_of (bucket_at bs d) (at cost d) ≡ true

  -- within the level the want is up to 1, over it not
  abbrev pub Lies : Side → Type 0
  Lies Within = wants ⊴ one ≡ true
  Lies Over = wants ⊴ one ≡ false

  abbrev pub Says : Rule → Type 0
  Says (Admitted w) = (w ≡ wants) × Credited dims × Tokened dims × (wants ⊴ one ≡ false → Reserved (mark_of wants rank) dims)
  Says (Credit side d) = Lies side × Credited (dim_of d) × (at cost (dim_of d) ⊴ at credit (dim_of d) ≡ false)
  Says (Tokens side d) = Lies side × Credited dims × Tokened (dim_of d) × (at cost (dim_of d) ⊴ (bucket_at bs (dim_of d)).tokens ≡ false)
  Says (Reserve d mark part) =
      (wants ⊴ one ≡ false) × (mark ≡ mark_of wants rank) × (part ≡ part_of (bucket_at bs (dim_of d)) (at cost (dim_of d)))
      × Credited dims × Tokened dims × Reserved mark (dim_of d) × (mark ⊴ part ≡ false)

  -- the question that a rule answers: does the credit hold the cost, do the tokens, does the part reach the mark
  abbrev pub question : Rule → Bool
  question (Admitted w) = true
  question (Credit side d) = at cost (dim_of d) ⊴ at credit (dim_of d)
  question (Tokens side d) = at cost (dim_of d) ⊴ (bucket_at bs (dim_of d)).tokens
  question (Reserve d mark part) = mark ⊴ part

  abbrev pub rule : Rule
  rule = rule_of wants rank credit bs cost

  pub record Tells : Type 0 where
    pub same_verdict : verdict_of rule ≡ decided wants (covers credit cost) (suffice bs cost) (leaves bs cost (mark_of wants rank))
    pub says : Says rule
    pub only : (r : Rule) → Says r → r ≡ rule
    -- the bound of any rule is its question; that of the rule which decided failed; there is none exactly where the batch is admitted
    pub bound : (r : Rule) (b : Bound) → bound_of credit bs cost r ≡ some b → b.asked ⊴ b.held ≡ question r
    pub failed : (b : Bound) → bound_of credit bs cost rule ≡ some b → b.asked ⊴ b.held ≡ false
    pub admitted : bound_of credit bs cost rule ≡ none → verdict_of rule ≡ verdict.Admitted
    pub unbound : verdict_of rule ≡ verdict.Admitted → bound_of credit bs cost rule ≡ none

-- of a judgement on a record
abbrev pub Judges : Type 0
Judges = (bs : List Bucket) (u : Use) (clock elapsed : ℕ) (cost fill level : List Float) (rank : Float)
    → verdict_of (ruled bs u clock elapsed cost fill level rank) ≡ (judged bs u clock elapsed cost fill level rank).verdict
