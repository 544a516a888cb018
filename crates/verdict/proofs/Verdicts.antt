-- A judgement from its parts. Assumes nothing.
use mathlib.Core.Path.{◌≡◌, ap, ◌∙◌}
use mathlib.Core.List.{List}
use lib.Ieee.{Float}
use Rattle.flow.specs.declared.Bucket.{Bucket}
use Rattle.flow.specs.declared.Use.{Use}
use Rattle.verdict.specs.declared.Outcome.{Outcome}
use Rattle.verdict.specs.declared.Verdict.{Verdict}
use Rattle.verdict.specs.declared.Rule.{Rule}
use Rattle.verdict.specs.Verdict.{settled, weighed}
use Rattle.verdict.specs.Rules.{rule_of, verdict_of}
use Rattle.verdict.proofs.Says.{tells}

pub weighed_is : (wants rank : Float) (bs : List Bucket) (u : Use) (cost : List Float) (r : Rule) (v : Verdict) (o : Outcome)
    → o ≡ settled v bs u cost → v ≡ verdict_of r → r ≡ rule_of wants rank u.credit bs cost → o ≡ weighed wants rank bs u cost
weighed_is wants rank bs u cost r v o eO eV eR =
    eO ∙ ap (λ (v : Verdict). settled v bs u cost) (eV ∙ ap verdict_of eR ∙ (tells wants rank u.credit bs cost).same_verdict)
