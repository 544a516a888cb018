-- A refusal and its number, both ways. Assumes nothing.
use Rattle.std.proofs.Common.{◌≡◌, refl, sym, ap, ◌∙◌, ℕ, zero, suc, ◌≤◌, arith, Bool, cond, eqb, Result, Ok, Err, ne_eqb, eq-eqb}
use Rattle.head.specs.declared.Refusal.{Refusal}
use Rattle.head.specs.declared.Refusal.TheVariants.{Rates, Sizes, Head, Memory, Cost, Stamp, Buffer, Unbounded}
use Rattle.head.specs.Answers.{number_of, refusal_of, refused, answer_number, Inverse}

pub refusal_back : (r : Refusal) → refusal_of (number_of r) ≡ r
unfolding number_of refusal_of
refusal_back Rates = refl
refusal_back Sizes = refl
refusal_back Head = refl
refusal_back Memory = refl
refusal_back Cost = refl
refusal_back Stamp = refl
refusal_back Buffer = refl
refusal_back Unbounded = refl

pub number_there : (n : ℕ) → 1 ≤ n → n ≤ 7 → number_of (refusal_of n) ≡ n
unfolding number_of refusal_of
number_there (suc zero) p q = refl
number_there (suc (suc zero)) p q = refl
number_there (suc (suc (suc zero))) p q = refl
number_there (suc (suc (suc (suc zero)))) p q = refl
number_there (suc (suc (suc (suc (suc zero))))) p q = refl
number_there (suc (suc (suc (suc (suc (suc zero)))))) p q = refl
number_there (suc (suc (suc (suc (suc (suc (suc zero))))))) p q = refl
number_there zero p q = absurd (omega arith)
number_there (suc (suc (suc (suc (suc (suc (suc (suc n)))))))) p q = absurd (omega arith)

ten_there : number_of (refusal_of 10) ≡ 10
unfolding number_of refusal_of
ten_there = refl

pub inverse : Inverse
inverse = record { back = refusal_back; there = number_there; ten = ten_there }

-- a refusal has a number
pub number_some : (r : Refusal) → 1 ≤ number_of r
unfolding number_of
number_some Rates = omega arith
number_some Sizes = omega arith
number_some Head = omega arith
number_some Memory = omega arith
number_some Cost = omega arith
number_some Stamp = omega arith
number_some Buffer = omega arith
number_some Unbounded = omega arith

-- the number of an answer that is refused by n; of one that is, or is refused, by n
pub refused_number : (A : Type 0) (n : ℕ) → 1 ≤ n → n ≤ 7 → answer_number {A = A} (refused n) ≡ n
unfolding answer_number
refused_number A n p q = number_there n p q

pub refused_ten : (A : Type 0) → answer_number {A = A} (refused 10) ≡ 10
unfolding answer_number
refused_ten A = ten_there

pub choice_number : {A : Type 0} (x : A) (n : ℕ) → n ≤ 7 → answer_number (cond (eqb n 0) (Ok x) (refused n)) ≡ n
unfolding answer_number
choice_number {A = A} x zero q = refl
choice_number {A = A} x (suc n) q =
    ap (λ (b : Bool). answer_number (cond b (Ok x) (refused {A = A} (suc n)))) (ne_eqb (suc n) 0 (λ z. absurd (omega (arith, z)))) ∙ refused_number A (suc n) (omega arith) q

-- ---- a choice by the number n of an answer
pub refused_is : {A X : Type 0} (f : Refusal → X) (x : X) (a : Result A Refusal) (r : Refusal) (n : ℕ) → a ≡ Err r → answer_number a ≡ n
    → f r ≡ cond (eqb n 0) x (f (refusal_of n))
unfolding answer_number
refused_is f x a r n e q =
    let p : number_of r ≡ n = ap answer_number (sym e) ∙ q in
    ap f (sym (refusal_back r) ∙ ap refusal_of p)
    ∙ ap (λ (b : Bool). cond b x (f (refusal_of n))) (sym (ne_eqb n 0 (λ z. absurd (omega (arith, number_some r, p, z)))))

pub answered_is : {X : Type 0} (x y : X) (n : ℕ) → n ≡ 0 → x ≡ cond (eqb n 0) x y
answered_is x y n e = ap (λ (b : Bool). cond b x y) (sym (eq-eqb n 0 e))

-- an answer that is none, by its number
pub answered_none : {A : Type 0} (a : Result A Refusal) (x : A) (n : ℕ) → a ≡ Ok x → answer_number a ≡ n → n ≡ 0
unfolding answer_number
answered_none a x n e q = sym q ∙ ap answer_number e
