-- What the answer to question 3 shows. Assumes nothing.
use Rattle.std.proofs.Common.{◌≡◌, refl, sym, ap, ◌∙◌, ℕ, arith, Bool, true, false, cond, List, Result, Ok, Err}
use Rattle.head.specs.declared.Shedder.{Shedder}
use Rattle.head.specs.declared.Refusal.{Refusal}
use Rattle.head.specs.declared.Refusal.TheVariants.{Head}
use Rattle.head.specs.Answers.{number_of, refusal_of, answer_number}
use Rattle.head.specs.Questions.{whole_with, read_asked}
use Rattle.head.proofs.Numbers.{refusal_back, number_some}

read_by : (b : Bool) (r : Refusal) → number_of r ≡ cond b 0 3 → (b ≡ false) × (r ≡ Head)
unfolding refusal_of
read_by true r e = absurd (omega (arith, number_some r, e))
read_by false r e = (refl, sym (refusal_back r) ∙ ap refusal_of e)

read_of : (b : Bool) → ◌≡◌ {A = ℕ} 0 (cond b 0 3) → b ≡ true
read_of true e = refl
read_of false e = absurd (omega (arith, e))

-- refused: the head is not whole, and that is why
pub read_refused : {A : Type 0} (h : Shedder) (os : List ℕ) (a : Result A Refusal) (r : Refusal) → a ≡ Err r → answer_number a ≡ read_asked h os → (whole_with h os ≡ false) × (r ≡ Head)
unfolding answer_number read_asked
read_refused h os a r e q = read_by (whole_with h os) r (ap answer_number (sym e) ∙ q)

-- answered: the head is whole
pub read_answered : {A : Type 0} (h : Shedder) (os : List ℕ) (a : Result A Refusal) (x : A) → a ≡ Ok x → answer_number a ≡ read_asked h os → whole_with h os ≡ true
unfolding answer_number read_asked
read_answered h os a x e q = read_of (whole_with h os) (ap answer_number (sym e) ∙ q)
