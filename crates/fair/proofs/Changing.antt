-- New rates that are not refused: the real state after them is tied, at these rates, to the model's store after the model's change. Assumes nothing.
use mathlib.Core.Path.{◌≡◌, refl, sym, ap, ◌∙◌, subst}
use Prim.Native.Nat.{ℕ, ◌^◌, ◌-◌, ◌≤◌, ◌<◌, max}
use native.Mathlib.Nat.{le_trans}
use native.Mathlib.Omega.{arith}
use mathlib.Core.Bool.{Bool, true, false, cond, not, ◌||◌, true≢false}
use mathlib.Core.List.{List}
use lib.Dec.{eqb, ltb}
use lib.ListN.{length, get_or}
use borrow.Author.Tests.{eqb-true, ltb-true, ltb-false}
use Rattle.flow.specs.Flow as flow
use Rattle.flow.specs.Flow.{dims, bucket_at}
use Rattle.flow.specs.declared.Bucket.{Bucket}
use Rattle.flow.proofs.Parts.{upto_length, buckets_at}
use Rattle.store.specs.Held.{sizes_of}
use Rattle.store.specs.declared.lent.Sizes.{Sizes}
use Rattle.std.proofs.lemmas.Bool.{and_parts}
use Rattle.std.proofs.Common.{Ok}
use Rattle.head.proofs.Tests.{zero_yes}
use Rattle.head.specs.declared.Shedder.{Shedder}
use Rattle.head.specs.Answers.{refusal_of, refused}
use Rattle.head.proofs.Numbers.{number_some}
use Rattle.fair.specs.Given as goal
use Rattle.fair.specs.Given.{Memory}
use Rattle.fair.specs.Tokens.{Pot, pot_of}
use Rattle.fair.specs.Store as model
use Rattle.fair.specs.Calls as calls
use Rattle.fair.proofs.View.{Name, same, shares}
use Rattle.fair.proofs.Entry as entry
use Rattle.fair.proofs.Tied.{Tied}
use Rattle.fair.proofs.Begun.{by_dim}

-- ---- what the questions show
chosen : (h : Shedder) (n : ℕ) (to : goal.Changed) (a : Bool) → eqb n 0 ≡ a → ltb 0 (goal.rates_number (cond a to (goal.change_ends (refused n) h)).answer) ≡ false
    → (a ≡ true) × (cond a to (goal.change_ends (refused n) h) ≡ to)
unfolding goal.answer_number
chosen h n to true q f = (refl, refl)
chosen h n to false q f = absurd (omega (arith, ltb-false 0 _ f, number_some (refusal_of n)))

-- the head with the flow turned
abbrev pub turned_head : Shedder → List ℕ → List ℕ → ℕ → Shedder
turned_head h rate ceiling t = goal.headed h (goal.turned h.flow rate ceiling (max t h.flow.at_ms)) h.overflow h.tracked

pub record Taken (h : Shedder) (m : Memory) (rate ceiling : List ℕ) (t : ℕ) : Type 0 where
  pub asked : goal.rates_asked h (sizes_of m.rows m.counted) m.rows.offsets rate t ≡ 0
  pub is : goal.set_rates h m.rows m.counted rate ceiling t ≡ goal.change_ends (Ok tt) (turned_head h rate ceiling t)

taken : (h : Shedder) (m : Memory) (rate ceiling : List ℕ) (t : ℕ) → calls.refused (calls.state_of h m) (calls.Rates rate ceiling t) ≡ false → Taken h m rate ceiling t
unfolding goal.set_rates
taken h m rate ceiling t f =
    let n = goal.rates_asked h (sizes_of m.rows m.counted) m.rows.offsets rate t in
    let r = chosen h n (goal.change_ends (Ok tt) (turned_head h rate ceiling t)) (eqb n 0) refl f in
    record { asked = eqb-true n 0 r.0; is = r.1 }

left_of : (b x : Bool) → not b ≡ true → b || x ≡ true → x ≡ true
left_of true x e f = absurd (true≢false (sym e))
left_of false x e f = f

pub record Asked (rate : List ℕ) (t : ℕ) : Type 0 where
  pub rates : goal.all_rates rate ≡ true
  pub stamp : t < 2 ^ 53

asked_so : (h : Shedder) (s : Sizes) (os rate : List ℕ) (t : ℕ) → goal.rates_asked h s os rate t ≡ 0 → Asked rate t
unfolding goal.rates_asked goal.both_bounded goal.is_stamp
asked_so h s os rate t e =
    let a = zero_yes (goal.whole_with h os) _ 2 e in
    let b = zero_yes (goal.memory_whole h s) _ 3 a.1 in
    let c = zero_yes (goal.is_unbounded rate || goal.all_rates rate) _ 0 b.1 in
    let d = zero_yes (goal.is_stamp t) _ 5 c.1 in
    let f = zero_yes (goal.both_bounded h.flow.rate rate) 0 9 d.1 in
    let g = and_parts (not (goal.is_unbounded h.flow.rate)) (not (goal.is_unbounded rate)) f.0 in
    record { rates = left_of (goal.is_unbounded rate) (goal.all_rates rate) g.1 c.0; stamp = ltb-true t 9007199254740992 d.0 }

-- ---- refused, they leave the head
pub rates_kept : (h : Shedder) (m : Memory) (rate ceiling : List ℕ) (t : ℕ) → calls.refused (calls.state_of h m) (calls.Rates rate ceiling t) ≡ true → (goal.set_rates h m.rows m.counted rate ceiling t).head ≡ h
unfolding goal.set_rates goal.answer_number
rates_kept h m rate ceiling t f = go (goal.rates_asked h (sizes_of m.rows m.counted) m.rows.offsets rate t) (eqb (goal.rates_asked h (sizes_of m.rows m.counted) m.rows.offsets rate t) 0) f
  where
    go : (n : ℕ) (a : Bool) → ltb 0 (goal.rates_number (cond a (goal.change_ends (Ok tt) (turned_head h rate ceiling t)) (goal.change_ends (refused n) h)).answer) ≡ true
        → (cond a (goal.change_ends (Ok tt) (turned_head h rate ceiling t)) (goal.change_ends (refused n) h)).head ≡ h
    go n true f = absurd (true≢false (sym f))
    go n false f = refl

-- THE CHANGE
module _ (room : ℕ) (x y : List ℕ) (h : Shedder) (m : Memory) (st : entry.S room) (b : Tied room x y h m.rows st h.flow.at_ms) (rate ceiling : List ℕ) (t : ℕ) where
  abbrev now : ℕ
  now = max t h.flow.at_ms

  full_long : (bs : List Bucket) (e : ℕ) → length bs ≡ dims → length (flow.refilled_all bs e) ≡ dims
  full_long bs e long = upto_length (λ (d : ℕ). flow.refilled (bucket_at bs d) e) dims bs ∙ long

  turned_long : (bs : List Bucket) → length bs ≡ dims → length (flow.turned_all bs rate ceiling) ≡ dims
  turned_long bs long = upto_length (λ (d : ℕ). flow.turned (bucket_at bs d) (get_or rate d 0) (get_or ceiling d 0)) dims bs ∙ long

  turned_at : (bs : List Bucket) (e : ℕ) → length bs ≡ dims → (d : ℕ) → d < dims
      → bucket_at (flow.turned_all (flow.refilled_all bs e) rate ceiling) d ≡ flow.turned (flow.refilled (bucket_at bs d) e) (get_or rate d 0) (get_or ceiling d 0)
  turned_at bs e long d small =
      let fs = flow.refilled_all bs e in
      buckets_at (λ (d : ℕ). flow.turned (bucket_at fs d) (get_or rate d 0) (get_or ceiling d 0)) fs d small (full_long bs e long)
      ∙ ap (λ (z : Bucket). flow.turned z (get_or rate d 0) (get_or ceiling d 0)) (buckets_at (λ (d : ℕ). flow.refilled (bucket_at bs d) e) bs d small long)

  turned_tied : Tied room rate ceiling (turned_head h rate ceiling t) m.rows (model.step Name same shares room st h.flow.at_ms (model.Rates t (by_dim rate) (by_dim ceiling))) now
  unfolding goal.turned
  turned_tied = record {
    rate_is = refl;
    ceiling_is = refl;
    room_is = b.room_is;
    clock_is = refl;
    long = turned_long (flow.refilled_all h.flow.buckets (now - h.flow.at_ms)) (full_long h.flow.buckets (now - h.flow.at_ms) b.long);
    pot_is = λ d small. ap (λ (z : Bucket). pot_of z (get_or rate d 0) (get_or ceiling d 0)) (turned_at h.flow.buckets (now - h.flow.at_ms) b.long d small)
        ∙ ap (λ (p : Pot). pot_of (flow.turned (flow.refilled p.bucket (now - h.flow.at_ms)) (get_or rate d 0) (get_or ceiling d 0)) (get_or rate d 0) (get_or ceiling d 0)) (b.pot_is d small);
    rows_is = b.rows_is;
    overflow_is = b.overflow_is;
    whole = b.whole;
    level_is = b.level_is;
    scan_is = le_trans b.scan_is (let z : h.flow.at_ms ≤ max t h.flow.at_ms = omega arith in z);
    tables_is = b.tables_is;
    held = b.held;
  }

  module _ (f : calls.refused (calls.state_of h m) (calls.Rates rate ceiling t) ≡ false) where
    pub took : Taken h m rate ceiling t
    took = taken h m rate ceiling t f

    pub asked : Asked rate t
    asked = asked_so h (sizes_of m.rows m.counted) m.rows.offsets rate t took.asked

    pub rates_tied : Tied room rate ceiling (goal.set_rates h m.rows m.counted rate ceiling t).head m.rows (model.step Name same shares room st h.flow.at_ms (model.Rates t (by_dim rate) (by_dim ceiling))) now
    rates_tied = subst (λ (j : goal.Changed). Tied room rate ceiling j.head m.rows (model.step Name same shares room st h.flow.at_ms (model.Rates t (by_dim rate) (by_dim ceiling))) now) (sym took.is) turned_tied
