-- The laws of the minute and of windows that pass (specs/Laws.antt). Assumes nothing.
use Rattle.std.proofs.Common.{◌≡◌, ℕ, zero, suc, ◌<◌, ◌≤◌, min, true, false, List, [], ◌∷◌, length, get_or, take, refl, sym, ap, ◌∙◌, ◌+◌, not, arith, leb, ltb, eqb, inl, inr}
use Rattle.std.specs.Prelude.{replicate}
use Rattle.std.proofs.lemmas.Bool.{ltb-true, leb-true, and_parts, eqb-true, not-true, or_cases, cond_both, false_from_ne_true, cases_eq}
use Rattle.std.proofs.lemmas.List.{take_all}
use Rattle.flow.specs.Flow.{dims}
use Rattle.flow.proofs.Parts.{upto_length}
use Rattle.plan.specs.Plan.{minute, window_at, first_of, end_of, rates_of, holds, first_holding, planned, is_unbounded, window_rates, windows_asked, plan_whole}
use Rattle.plan.specs.Laws.{Minutes, Days, Asked, Pairs, Quick, Single, Lawful, Sets, Parts, Behind}
use Rattle.plan.proofs.Turns.{none_planned}
use Rattle.plan.proofs.Passing.{bounded_of, bounded_whole, not_unbounded, apart_all, all_apart, asked_passes, passes_asked, quick}

pub minutes : (clock : ℕ) → Minutes clock
unfolding minute
minutes clock = record {
  held = omega arith;
  weekly = omega arith;
  turns = λ e. omega arith;
  next = λ e. omega arith;
}

pub days : Days
unfolding minute
days = record { thursday = refl; sunday = refl; monday = refl; last = refl }

pub asked : Asked
asked ws = (asked_passes ws, passes_asked ws)

pub pairs : Pairs
pairs ws = (apart_all ws, all_apart ws)

pub ascending_passes : Quick
ascending_passes ws e = quick ws e

inside : (w : List ℕ) (m : ℕ) → holds w m ≡ true → (first_of w ≤ m) × (m < end_of w)
unfolding holds
inside w m e = let a = and_parts (leb (first_of w) m) (ltb m (end_of w)) e in (leb-true _ _ a.0, ltb-true _ _ a.1)

-- the i-th is the first that holds the minute where none before it does
first_is : (outside : List ℕ) (ws : List (List ℕ)) (i m : ℕ) → i < length ws → holds (window_at ws i) m ≡ true → ((k : ℕ) → k < i → holds (window_at ws k) m ≡ false) → first_holding outside ws m ≡ rates_of (window_at ws i)
unfolding first_holding
first_is outside [] i m h e f = absurd (omega arith)
first_is outside (w ∷ ws) zero m h e f = rw e
first_is outside (w ∷ ws) (suc i) m h e f = rw (f 0 (omega arith)) (first_is outside ws i m (omega arith) e (λ k l. f (suc k) (omega arith)))

pub single : Single
unfolding planned
single ws e =
    let p = asked_passes ws e in
    let one : (i j m : ℕ) → i < length ws → j < length ws → holds (window_at ws i) m ≡ true → holds (window_at ws j) m ≡ true → i ≡ j =
    λ i j m h l f g. elim (cases_eq i j) [
      | inl x ↦ x
      | inr n ↦ absurd (let a = inside (window_at ws i) m f in let b = inside (window_at ws j) m g in omega (arith, p.apart i j h l n (omega arith)))
    ]
    in
    let all : take (min (length ws) 32) ws ≡ ws = take_all (min (length ws) 32) ws (omega (arith, p.few)) in
    record {
      single = one;
      whichever = λ outside clock i h f.
          rw all (first_is outside ws i (minute clock) h f
          (λ k l. false_from_ne_true (holds (window_at ws k) (minute clock)) (λ q. let s = one k i (minute clock) (omega arith) h q f in omega arith)));
    }

-- ---- a relay whose plan passes
-- what holds of the rates outside and of each window's holds of those that are planned
either : (P : List ℕ → Type 0) (outside : List ℕ) (ws : List (List ℕ)) (m : ℕ) → P outside → ((i : ℕ) → i < length ws → P (rates_of (window_at ws i))) → P (first_holding outside ws m)
unfolding first_holding
either P outside [] m h f = h
either P outside (w ∷ ws) m h f = cond_both (holds w m) (rates_of w) (first_holding outside ws m) P (λ e. f 0 (omega arith)) (λ e. either P outside ws m h (λ i l. f (suc i) (omega arith)))

take_less : (k n : ℕ) (ws : List (List ℕ)) → k ≤ n → take k (take n ws) ≡ take k ws
take_less zero n ws h = refl
take_less (suc k) zero ws h = absurd (omega arith)
take_less (suc k) (suc n) [] h = refl
take_less (suc k) (suc n) (w ∷ ws) h = ap (λ (vs : List (List ℕ)). w ∷ vs) (take_less k n ws (omega arith))

none : (outside : List ℕ) (windows : ℕ) (plan : List (List ℕ)) (clock : ℕ) → window_rates outside ≡ true → windows ≡ 0 → Lawful outside (planned outside windows plan clock)
none outside windows plan clock h e = rw (none_planned outside plan windows clock e) (record { held = h; unbounded = refl })

some : (outside : List ℕ) (windows : ℕ) (plan : List (List ℕ)) (clock : ℕ) → window_rates outside ≡ true → windows ≤ 32 → is_unbounded outside ≡ false → windows_asked (take windows plan) ≡ 0
    → Lawful outside (planned outside windows plan clock)
unfolding planned
some outside windows plan clock h few b e =
    let p = asked_passes (take windows plan) e in
    let n : min windows 32 ≡ windows = omega arith in
    rw n (either (λ r. Lawful outside r) outside (take windows plan) (minute clock) (record { held = h; unbounded = refl })
    (λ i l.
    let r = bounded_of (rates_of (window_at (take windows plan) i)) (λ d k. p.rates i d l k) in
    record { held = bounded_whole (rates_of (window_at (take windows plan) i)) r; unbounded = not_unbounded (rates_of (window_at (take windows plan) i)) r ∙ sym b }))

pub sets : Sets
unfolding plan_whole
sets outside windows plan clock h e = elim (or_cases (eqb windows 0) _ e) [
  | inl x ↦ none outside windows plan clock h (eqb-true windows 0 x)
  | inr x ↦ (let a = and_parts (leb windows 32) _ x in
      let b = and_parts (not (is_unbounded outside)) (eqb (windows_asked (take windows plan)) 0) a.1 in
      some outside windows plan clock h (leb-true windows 32 a.0) (not-true (is_unbounded outside) b.0) (eqb-true _ 0 b.1))
]

pub parts : Parts
unfolding planned rates_of
parts outside windows plan clock e = either (λ r. length r ≡ dims) outside (take (min windows 32) plan) (minute clock) e
    (λ i l. upto_length (λ d. get_or (window_at (take (min windows 32) plan) i) (2 + d) 0) dims (replicate dims 0))

pub behind : Behind
unfolding planned plan_whole
behind windows p q e =
    let f : take (min windows 32) p ≡ take (min windows 32) q = sym (take_less (min windows 32) windows p (omega arith)) ∙ ap (take (min windows 32)) e ∙ take_less (min windows 32) windows q (omega arith) in
    record { rates = λ outside clock. rw f; whole = λ outside. rw e }
