-- What the trial prints: the text of each answer, ended by a line feed. Definitions only.
use Rattle.std.specs.Prelude.{ℕ, List, [], ◌∷◌, ◌++◌, ⊤, Result, Ok, Err}
use Rattle.text.specs.Page.{joined}
use Rattle.text.specs.Number.{decimal}
use Rattle.verdict.specs.declared.Verdict.{Verdict}
use Rattle.verdict.specs.declared.Verdict.TheVariants.{Admitted, OverShare, RelayRate}
use Rattle.head.specs.declared.Refusal.{Refusal}
use Rattle.head.specs.Answers.{number_of}
use Rattle.trial_script.specs.Script.{over_share, relay_rate}

-- `refused ` and the number of the question that was answered no
unfoldable pub refused_text : ℕ → List ℕ
refused_text n = joined ((114 ∷ 101 ∷ 102 ∷ 117 ∷ 115 ∷ 101 ∷ 100 ∷ 32 ∷ []) ∷ decimal n ∷ (10 ∷ []) ∷ [])

-- `started`
unfoldable pub begin_text : Result ⊤ Refusal → List ℕ
begin_text (Ok u) = 115 ∷ 116 ∷ 97 ∷ 114 ∷ 116 ∷ 101 ∷ 100 ∷ 10 ∷ []
begin_text (Err r) = refused_text (number_of r)

-- `ok`, or the cause
unfoldable pub answer_text : Result Verdict Refusal → List ℕ
answer_text (Ok Admitted) = 111 ∷ 107 ∷ 10 ∷ []
answer_text (Ok OverShare) = over_share ++ (10 ∷ [])
answer_text (Ok RelayRate) = relay_rate ++ (10 ∷ [])
answer_text (Err r) = refused_text (number_of r)

-- `counted`
unfoldable pub done_text : Result ⊤ Refusal → List ℕ
done_text (Ok u) = 99 ∷ 111 ∷ 117 ∷ 110 ∷ 116 ∷ 101 ∷ 100 ∷ 10 ∷ []
done_text (Err r) = refused_text (number_of r)
