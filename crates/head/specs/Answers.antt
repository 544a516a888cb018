-- The number of an answer: that of the question answered no, and 0 where the call was not refused. Definitions and statement only; proofs/Numbers proves it.
use Rattle.std.specs.Prelude.{ℕ, ◌≤◌, ◌≡◌, ⊤, cond, eqb, Option, Result, Ok, Err, Bool, Float}
use Rattle.verdict.specs.declared.Verdict.{Verdict}
use Rattle.head.specs.declared.Refusal.{Refusal}
use Rattle.head.specs.declared.Refusal.TheVariants.{Rates, Sizes, Head, Memory, Cost, Stamp, Buffer, Unbounded}

-- a refusal's number
unfoldable pub number_of : Refusal → ℕ
number_of Rates = 1
number_of Sizes = 2
number_of Head = 3
number_of Memory = 4
number_of Cost = 5
number_of Stamp = 6
number_of Buffer = 7
number_of Unbounded = 10

-- and the refusal of a number, 1 to 7 or 10
unfoldable pub refusal_of : ℕ → Refusal
refusal_of n = cond (eqb n 1) Rates (cond (eqb n 2) Sizes (cond (eqb n 3) Head (cond (eqb n 4) Memory (cond (eqb n 5) Cost (cond (eqb n 6) Stamp (cond (eqb n 7) Buffer Unbounded))))))

pub record Inverse : Type 0 where
  pub back : (r : Refusal) → refusal_of (number_of r) ≡ r
  pub there : (n : ℕ) → 1 ≤ n → n ≤ 7 → number_of (refusal_of n) ≡ n
  pub ten : number_of (refusal_of 10) ≡ 10

-- the answer of a call that is refused by the number n
abbrev pub refused : {A : Type 0} → ℕ → Result A Refusal
refused n = Err (refusal_of n)

-- THE NUMBER OF AN ANSWER
unfoldable pub answer_number : {A : Type 0} → Result A Refusal → ℕ
answer_number (Ok x) = 0
answer_number (Err r) = number_of r

-- of a start, a judgement, a cut, new rates, a count read, a level, a rate, whether the relay is bounded, a report
abbrev pub start_number : Result ⊤ Refusal → ℕ
start_number a = answer_number a

abbrev pub judge_number : Result Verdict Refusal → ℕ
judge_number a = answer_number a

abbrev pub cut_number : Result ⊤ Refusal → ℕ
cut_number a = answer_number a

abbrev pub rates_number : Result ⊤ Refusal → ℕ
rates_number a = answer_number a

abbrev pub reading_number : Result ℕ Refusal → ℕ
reading_number a = answer_number a

abbrev pub level_number : Result Float Refusal → ℕ
level_number a = answer_number a

abbrev pub rate_number : Result (Option ℕ) Refusal → ℕ
rate_number a = answer_number a

abbrev pub bounded_number : Result Bool Refusal → ℕ
bounded_number a = answer_number a

abbrev pub written_number : Result ℕ Refusal → ℕ
written_number a = answer_number a
