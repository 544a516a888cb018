-- What an exported judgement leaves: verdict and rule as numbers, and the state. What an exported report leaves: its answer as a number, and the buffer. Definitions only.
use Rattle.std.specs.Prelude.{ℕ, List}
use Rattle.codes.specs.declared.Count.{Count}
use Rattle.codes.specs.Numbers.{read_written}
use Rattle.meaning.specs.State.{State, After, told_as, Unit, Answer, Ruling}
use Rattle.meaning.specs.Page as page

-- the page's judgement, and the rule beside it, told by `f`
abbrev pub judged_as : {A : Type 0} → (f : Answer → Ruling → A) → State → Unit → (cost : List ℕ) (stamp : ℕ) → After A
judged_as f s u cost stamp = told_as (λ (a : Answer). f a (page.judge_rule s u cost stamp)) (page.judge s u cost stamp)

pub record Reported : Type 0 where
  pub answer : Count
  pub out : List ℕ

abbrev pub reported : Count → List ℕ → Reported
reported a out = record { answer = a; out = out }

unfoldable pub report_told : page.Reported → Reported
report_told e = reported (read_written e.answer) e.out
