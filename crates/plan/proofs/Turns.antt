-- Loops over windows, turn by turn. Assumes nothing.
use Rattle.std.proofs.Common.{◌≡◌, ℕ, zero, suc, ◌+◌, ◌<◌, Bool, true, false, ◌&&◌, List, [], ◌∷◌, length, drop, refl, add-one, arith, drop-cons, leb, subst}
use Rattle.std.proofs.lemmas.Bool.{and_left, and_right}
use Rattle.flow.specs.Flow.{all}
use Rattle.flow.proofs.Parts.{all_fails}
use Rattle.plan.specs.Plan.{window_at, end_before, end_of, holds, rates_of, first_holding, planned, follows, ascending}

-- ---- a test of each
pub all_none : (p : ℕ → Bool) → all p 0 ≡ true
unfolding all
all_none p = refl

pub all_next : (p : ℕ → Bool) (n : ℕ) → all p (n + 1) ≡ all p n && p n
unfolding all
all_next p n = rw add-one

pub end_next : (ws : List (List ℕ)) (n : ℕ) → end_before ws (n + 1) ≡ end_of (window_at ws n)
end_next ws n = rw add-one

-- ---- the first that holds the minute
pub first_none : (outside : List ℕ) (ws : List (List ℕ)) (n m : ℕ) → n ≡ length ws → first_holding outside (drop n ws) m ≡ outside
unfolding first_holding
first_none outside [] zero m e = refl
first_none outside [] (suc n) m e = absurd (omega arith)
first_none outside (w ∷ ws) zero m e = absurd (omega arith)
first_none outside (w ∷ ws) (suc n) m e = first_none outside ws n m (omega arith)

pub first_here : (outside : List ℕ) (ws : List (List ℕ)) (n m : ℕ) → n < length ws → holds (window_at ws n) m ≡ true → first_holding outside (drop n ws) m ≡ rates_of (window_at ws n)
unfolding first_holding
first_here outside ws n m h e = rw (drop-cons ws n [], e)

pub first_next : (outside : List ℕ) (ws : List (List ℕ)) (n m : ℕ) → n < length ws → holds (window_at ws n) m ≡ false → first_holding outside (drop n ws) m ≡ first_holding outside (drop (n + 1) ws) m
unfolding first_holding
first_next outside ws n m h e = rw (drop-cons ws n [], e, add-one)

pub none_planned : (outside : List ℕ) (plan : List (List ℕ)) (n clock : ℕ) → n ≡ 0 → planned outside n plan clock ≡ outside
unfolding planned first_holding
none_planned outside plan n clock e = rw e

-- ---- the quick test stops at the first that does not follow
pub ascending_stops : (ws : List (List ℕ)) (i last : ℕ) → i < length ws → last ≡ end_before ws i → follows last (window_at ws i) ≡ false → ascending ws ≡ false
unfolding ascending
ascending_stops ws i last h l e =
    let f : follows (end_before ws i) (window_at ws i) ≡ false = subst (λ (k : ℕ). follows k (window_at ws i) ≡ false) l e in
    let a = all_fails (λ i. follows (end_before ws i) (window_at ws i)) (length ws) i h f in
    and_right (leb (length ws) 32) _ (and_left (all (λ i. follows (end_before ws i) (window_at ws i)) (length ws)) (leb (end_before ws (length ws)) 10080) a)
