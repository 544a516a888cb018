-- What windows that pass are, and that the quick test says yes only of them. Assumes nothing.
use Rattle.std.proofs.Common.{◌≡◌, ℕ, zero, suc, ◌+◌, ◌-◌, ◌^◌, ◌<◌, ◌≤◌, ◌≢◌, Bool, true, false, not, ◌&&◌, cond, List, [], length, get_or, take, sym, refl, ◌∙◌, subst, arith, leb, ltb, eqb, inl, inr, Result, Ok, Err}
use native.Mathlib.Decide.{dec_le}
use Rattle.std.proofs.lemmas.Bool.{true≢false, ltb-true, leb-true, lt-ltb, le-ltb, le-leb, ne_eqb, and_parts, and_from, and_left, and_right, or_right, or_cases, not-true, not_from_false, false_from_ne_true}
use Rattle.std.proofs.lemmas.List.{get_or-take, length-take-le}
use Rattle.std.specs.Prelude.{⊤, is_ok}
use Rattle.flow.specs.Flow.{all, dims, RATE_MOST, «UNBOUNDED»}
use Rattle.flow.proofs.Parts.{all-at, all_of, all_fails}
use Rattle.plan.specs.declared.Fault.{Fault}
use Rattle.plan.specs.declared.Fault.TheVariants.{Rates, Unbounded, Range, Overlap}
use Rattle.plan.specs.Plan.{fault_number, window_at, first_of, end_of, rates_of, is_unbounded, is_bounded, window_rates, rates_held, is_span, in_range, overlap, is_apart, apart, none_unbounded, windows_asked, number_of, end_before, follows, ascending}
use Rattle.plan.specs.Laws.{Passes}

-- ---- rates
pub bounded_at : (r : List ℕ) (d : ℕ) → d < 2 → is_bounded r ≡ true → (1 ≤ get_or r d 0) × (get_or r d 0 ≤ 2 ^ 40)
unfolding is_bounded
bounded_at r d h e =
    let a = and_parts (leb 1 (get_or r d 0)) (leb (get_or r d 0) RATE_MOST) (all-at (λ d. leb 1 (get_or r d 0) && leb (get_or r d 0) RATE_MOST) dims d h e) in
    (leb-true 1 (get_or r d 0) a.0, leb-true (get_or r d 0) RATE_MOST a.1)

pub bounded_of : (r : List ℕ) → ((d : ℕ) → d < 2 → (1 ≤ get_or r d 0) × (get_or r d 0 ≤ 2 ^ 40)) → is_bounded r ≡ true
unfolding is_bounded
bounded_of r f = all_of (λ d. leb 1 (get_or r d 0) && leb (get_or r d 0) RATE_MOST) dims
    (λ d h. and_from (leb 1 (get_or r d 0)) (leb (get_or r d 0) RATE_MOST) (le-leb 1 (get_or r d 0) (f d h).0) (le-leb (get_or r d 0) RATE_MOST (f d h).1))

pub not_unbounded : (r : List ℕ) → is_bounded r ≡ true → is_unbounded r ≡ false
unfolding is_unbounded
not_unbounded r e =
    let b = bounded_at r 0 (omega arith) e in
    all_fails (λ d. eqb (get_or r d 0) «UNBOUNDED») dims 0 (omega arith) (ne_eqb (get_or r 0 0) «UNBOUNDED» (λ q. omega arith))

-- ---- the pairs
apart_less : (ws : List (List ℕ)) (i j : ℕ) → apart ws ≡ true → i < j → j < length ws → first_of (window_at ws i) < end_of (window_at ws j) → end_of (window_at ws i) ≤ first_of (window_at ws j)
unfolding apart is_apart overlap
apart_less ws i j e h l f =
    let one = all-at (λ j. is_apart (take j ws) (window_at ws j)) (length ws) j l e in
    let long : i < length (take j ws) = omega (arith, length-take-le j ws (omega arith)) in
    let two = not-true _ (all-at (λ i. not (overlap (window_at (take j ws) i) (window_at ws j))) (length (take j ws)) i long one) in
    let three = subst (λ (v : List ℕ). overlap v (window_at ws j) ≡ false) (get_or-take j ws i [] h) two in
    elim (dec_le (end_of (window_at ws i)) (first_of (window_at ws j))) [
      | yes x ↦ x
      | no x ↦ absurd (true≢false (sym (and_from (ltb (first_of (window_at ws i)) (end_of (window_at ws j))) (ltb (first_of (window_at ws j)) (end_of (window_at ws i))) (lt-ltb _ _ f) (lt-ltb _ _ (omega arith))) ∙ three))
    ]

pub apart_all : (ws : List (List ℕ)) → apart ws ≡ true → (i j : ℕ) → i < length ws → j < length ws → i ≢ j → first_of (window_at ws i) < end_of (window_at ws j) → first_of (window_at ws j) < end_of (window_at ws i) → ⊥
apart_all ws e i j h l n f g =
    elim (dec_le j i) [
      | yes x ↦ (let y : j < i = omega (arith, n) in omega (arith, apart_less ws j i e y h g))
      | no x ↦ omega (arith, apart_less ws i j e (omega arith) l f)
    ]

clear : (v w : List ℕ) → (first_of v < end_of w → first_of w < end_of v → ⊥) → not (overlap v w) ≡ true
unfolding overlap
clear v w f = elim (dec_le (end_of w) (first_of v)) [
  | yes x ↦ not_from_false _ (and_left (ltb (first_of v) (end_of w)) (ltb (first_of w) (end_of v)) (le-ltb _ _ x))
  | no x ↦ not_from_false _ (and_right (ltb (first_of v) (end_of w)) (ltb (first_of w) (end_of v)) (false_from_ne_true _ (λ q. f (omega arith) (ltb-true _ _ q))))
]

pub all_apart : (ws : List (List ℕ)) → ((i j : ℕ) → i < length ws → j < length ws → i ≢ j → first_of (window_at ws i) < end_of (window_at ws j) → first_of (window_at ws j) < end_of (window_at ws i) → ⊥) → apart ws ≡ true
unfolding apart is_apart
all_apart ws f = all_of (λ j. is_apart (take j ws) (window_at ws j)) (length ws)
    (λ j l. all_of (λ i. not (overlap (window_at (take j ws) i) (window_at ws j))) (length (take j ws))
    (λ i h.
    let less : i < j = omega (arith, h, length-take-le j ws (omega arith)) in
    subst (λ (v : List ℕ). not (overlap v (window_at ws j)) ≡ true) (sym (get_or-take j ws i [] less)) (clear (window_at ws i) (window_at ws j) (f i j (omega arith) l (λ q. omega arith)))))

-- ---- windows that pass
is_yes : (b : Bool) (x n : ℕ) → cond b x (suc n) ≡ 0 → (b ≡ true) × (x ≡ 0)
is_yes true x n e = (refl, e)
is_yes false x n e = absurd (omega arith)

span_of : (w : List ℕ) → is_span w ≡ true → (first_of w < end_of w) × (end_of w ≤ 10080)
unfolding is_span
span_of w e = let a = and_parts (ltb (first_of w) (end_of w)) (leb (end_of w) 10080) e in (ltb-true _ _ a.0, leb-true _ _ a.1)

is_of_span : (w : List ℕ) → first_of w < end_of w → end_of w ≤ 10080 → is_span w ≡ true
unfolding is_span
is_of_span w h l = and_from (ltb (first_of w) (end_of w)) (leb (end_of w) 10080) (lt-ltb _ _ h) (le-leb _ _ l)

whole_bounded : (r : List ℕ) → window_rates r ≡ true → not (is_unbounded r) ≡ true → is_bounded r ≡ true
unfolding window_rates
whole_bounded r e n = elim (or_cases (is_unbounded r) (is_bounded r) e) [
  | inl x ↦ absurd (true≢false (sym x ∙ not-true (is_unbounded r) n))
  | inr x ↦ x
]

pub bounded_whole : (r : List ℕ) → is_bounded r ≡ true → window_rates r ≡ true
unfolding window_rates
bounded_whole r e = or_right (is_unbounded r) (is_bounded r) e

pub asked_passes : (ws : List (List ℕ)) → windows_asked ws ≡ 0 → Passes ws
unfolding windows_asked rates_held in_range none_unbounded
asked_passes ws e =
    let a = is_yes (rates_held ws) _ 0 e in
    let b = is_yes (in_range ws) _ 10 a.1 in
    let c = is_yes (apart ws) _ 11 b.1 in
    let d = is_yes (none_unbounded ws) 0 9 c.1 in
    let r = and_parts (leb (length ws) 32) (all (λ i. is_span (window_at ws i)) (length ws)) b.0 in
    record {
      few = leb-true _ _ r.0;
      spans = λ i h. span_of (window_at ws i) (all-at (λ i. is_span (window_at ws i)) (length ws) i h r.1);
      apart = λ i j h l n f. elim (dec_le (end_of (window_at ws i)) (first_of (window_at ws j))) [ yes x ↦ x | no x ↦ absurd (apart_all ws c.0 i j h l n f (omega arith)) ];
      rates = λ i k h l. bounded_at (rates_of (window_at ws i)) k l
          (whole_bounded (rates_of (window_at ws i)) (all-at (λ i. window_rates (rates_of (window_at ws i))) (length ws) i h a.0)
          (all-at (λ i. not (is_unbounded (rates_of (window_at ws i)))) (length ws) i h d.0));
    }

pub passes_asked : (ws : List (List ℕ)) → Passes ws → windows_asked ws ≡ 0
unfolding windows_asked rates_held in_range none_unbounded
passes_asked ws p =
    let b : (i : ℕ) → i < length ws → is_bounded (rates_of (window_at ws i)) ≡ true = λ i h. bounded_of (rates_of (window_at ws i)) (λ d l. p.rates i d h l) in
    let rates : rates_held ws ≡ true = all_of (λ i. window_rates (rates_of (window_at ws i))) (length ws) (λ i h. bounded_whole (rates_of (window_at ws i)) (b i h)) in
    let spans : all (λ i. is_span (window_at ws i)) (length ws) ≡ true = all_of (λ i. is_span (window_at ws i)) (length ws) (λ i h. is_of_span (window_at ws i) (p.spans i h).0 (p.spans i h).1) in
    let range : in_range ws ≡ true = and_from (leb (length ws) 32) (all (λ i. is_span (window_at ws i)) (length ws)) (le-leb _ _ p.few) spans in
    let pairs : apart ws ≡ true = all_apart ws (λ i j h l n f g. omega (arith, p.apart i j h l n f)) in
    let bound : none_unbounded ws ≡ true = all_of (λ i. not (is_unbounded (rates_of (window_at ws i)))) (length ws) (λ i h. not_from_false (is_unbounded (rates_of (window_at ws i))) (not_unbounded (rates_of (window_at ws i)) (b i h))) in
    rw (rates, range, pairs, bound)

-- ---- the quick test
pub record Steps (ws : List (List ℕ)) : Type 0 where
  pub few : length ws ≤ 32
  pub from : (i : ℕ) → i < length ws → end_before ws i ≤ first_of (window_at ws i)
  pub spans : (i : ℕ) → i < length ws → first_of (window_at ws i) < end_of (window_at ws i)
  pub rates : (i : ℕ) → i < length ws → is_bounded (rates_of (window_at ws i)) ≡ true
  pub last : end_before ws (length ws) ≤ 10080

one : (last : ℕ) (w : List ℕ) → follows last w ≡ true → (last ≤ first_of w) × ((first_of w < end_of w) × (is_bounded (rates_of w) ≡ true))
unfolding follows
one last w e =
    let a = and_parts (leb last (first_of w)) _ e in
    let b = and_parts (ltb (first_of w) (end_of w)) (is_bounded (rates_of w)) a.1 in
    (leb-true _ _ a.0, (ltb-true _ _ b.0, b.1))

steps : (ws : List (List ℕ)) → ascending ws ≡ true → Steps ws
unfolding ascending
steps ws e =
    let a = and_parts (leb (length ws) 32) _ e in
    let b = and_parts (all (λ i. follows (end_before ws i) (window_at ws i)) (length ws)) (leb (end_before ws (length ws)) 10080) a.1 in
    let f : (i : ℕ) → i < length ws → follows (end_before ws i) (window_at ws i) ≡ true = λ i h. all-at (λ i. follows (end_before ws i) (window_at ws i)) (length ws) i h b.0 in
    record {
      few = leb-true _ _ a.0;
      from = λ i h. (one (end_before ws i) (window_at ws i) (f i h)).0;
      spans = λ i h. (one (end_before ws i) (window_at ws i) (f i h)).1.0;
      rates = λ i h. (one (end_before ws i) (window_at ws i) (f i h)).1.1;
      last = leb-true _ _ b.1;
    }

module _ (ws : List (List ℕ)) (s : Steps ws) where
  climb : (i d : ℕ) → i + d ≤ length ws → end_before ws i ≤ end_before ws (i + d)
  climb i zero h = let e : i + 0 ≡ i = omega arith in rw e (omega arith)
  climb i (suc d) h =
      let e : i + suc d ≡ suc (i + d) = omega arith in
      rw e (omega (arith, climb i d (omega arith), s.from (i + d) (omega arith), s.spans (i + d) (omega arith)))

  later : (i j : ℕ) → i ≤ j → j ≤ length ws → end_before ws i ≤ end_before ws j
  later i j h l = let e : i + (j - i) ≡ j = omega arith in subst (λ (k : ℕ). end_before ws i ≤ end_before ws k) e (climb i (j - i) (omega arith))

  steps_pass : Passes ws
  steps_pass = record {
    few = s.few;
    spans = λ i h. (s.spans i h, omega (arith, later (suc i) (length ws) (omega arith) (omega arith), s.last));
    apart = λ i j h l n f. elim (dec_le j i) [
      | yes x ↦ (let y : j < i = omega (arith, n) in omega (arith, later (suc j) i (omega arith) (omega arith), s.from i h, f))
      | no x ↦ omega (arith, later (suc i) j (omega arith) (omega arith), s.from j l)
    ];
    rates = λ i d h l. bounded_at (rates_of (window_at ws i)) d l (s.rates i h);
  }

pub quick : (ws : List (List ℕ)) → ascending ws ≡ true → windows_asked ws ≡ 0
quick ws e = passes_asked ws (steps_pass ws (steps ws e))

-- as the contract has it
pub quick_passes : (ws : List (List ℕ)) → ascending ws ≡ true → number_of (Ok tt) ≡ windows_asked ws
unfolding number_of
quick_passes ws e = sym (quick ws e)

-- an answer of number 0 is no fault
pub ok_is : (r : Result ⊤ Fault) → is_ok r ≡ eqb (number_of r) 0
unfolding number_of fault_number
ok_is (Ok x) = refl
ok_is (Err Rates) = refl
ok_is (Err Unbounded) = refl
ok_is (Err Range) = refl
ok_is (Err Overlap) = refl
