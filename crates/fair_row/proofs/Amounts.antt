-- What a judgement, a cut, new rates or a reading leaves and amounts to. Assumes nothing.
use mathlib.Core.Path.{◌≡◌, refl, sym, ap, ◌∙◌}
use mathlib.Core.Bool.{Bool, true, false, cond}
use mathlib.Core.List.{List}
use Prim.Native.Nat.{ℕ}
use native.Mathlib.Omega.{arith}
use lib.ListN.{length, get_or, replicate}
use Rattle.flow.specs.Flow.{dims, upto}
use Rattle.flow.proofs.Parts.{upto_at, upto_length}
use Rattle.std.proofs.Common.{Result, Ok, Err}
use Rattle.std.proofs.lemmas.Grind.{get_or_default_zero}
use Rattle.std.proofs.lemmas.List.{same_lists}
use Rattle.verdict.specs.declared.Verdict.{Verdict}
use Rattle.verdict.specs.declared.Verdict.TheVariants as verdict
use Rattle.head.specs.declared.Refusal.{Refusal}
use Rattle.store.specs.declared.Cause.{Cause}
use Rattle.store.specs.declared.Cause.TheVariants as cause
use Rattle.head.specs.declared.Shedder.{Shedder}
use Rattle.head.specs.Answers.{judge_number, cut_number, rates_number}
use Rattle.store.specs.Store.{Rows}
use Rattle.wants.specs.Wants.{Hist}
use Rattle.judge.specs.declared.Judgement.{Judgement}
use Rattle.cut.specs.declared.Cutting.{Cutting}
use Rattle.judge.specs.Judging as judging
use Rattle.judge.specs.Judging.{Memory, memory}
use Rattle.cut.specs.Cutting as cutting
use Rattle.rates.specs.declared.Changing.{Changing}
use Rattle.rates.specs.Rates as rating
use Rattle.sender.specs.declared.Unit as unit
use Rattle.fair.specs.Calls as calls
use Rattle.fair.specs.Calls.{State, Call, Judge, Cut, Rates, Read}
use Rattle.fair_row.specs.declared.Turned.{Turned}
use Rattle.fair_row.specs.Replay.{Turns, is_admitted, is_over_share, is_hand_back, counted_if, amounts, key_of, on_watched, empty}
use Rattle.fair_row.proofs.Watched.{watched_is}
use Rattle.fair_row.proofs.Totals.{same_parts, zeros_parts}

abbrev turned : Shedder → ℕ → List ℕ → List ℕ → List ℕ → Bool → Turned
turned h n admitted on handed over = record { head = h; number = n; admitted = admitted; admitted_on = on; handed = handed; over_share = over }

-- a list with a part for each dimension
cost_parts : (cost : List ℕ) → length cost ≡ dims → cost ≡ upto (λ (d : ℕ). get_or cost d 0) dims (replicate dims 0)
cost_parts cost e =
    same_lists cost (upto (λ (d : ℕ). get_or cost d 0) dims (replicate dims 0)) (e ∙ sym (upto_length (λ (d : ℕ). get_or cost d 0) dims (replicate dims 0)))
    (λ d x l. get_or_default_zero cost d x l ∙ sym (upto_at x (λ (d : ℕ). get_or cost d 0) dims (replicate dims 0) d (omega (arith, e, l)) (omega arith)))

-- ---- what a call amounts to
none : (w : ℕ → State → Call → ℕ) (s : State) (c : Call) → ((d : ℕ) → w d s c ≡ 0) → replicate dims 0 ≡ amounts w s c
unfolding amounts
none w s c e = zeros_parts ∙ same_parts _ _ dims (replicate dims 0) (λ d l. sym (e d))

admits : (a : Result Verdict Refusal) (cost : List ℕ) → cost ≡ upto (λ (d : ℕ). get_or cost d 0) dims (replicate dims 0) → counted_if (is_admitted a) cost ≡ upto (λ (d : ℕ). calls.if_admitted a (get_or cost d 0)) dims (replicate dims 0)
unfolding counted_if is_admitted
admits (Ok verdict.Admitted) cost e = e
admits (Ok verdict.OverShare) cost e = zeros_parts
admits (Ok verdict.RelayRate) cost e = zeros_parts
admits (Err r) cost e = zeros_parts

hands : (c : Cause) (cost : List ℕ) → cost ≡ upto (λ (d : ℕ). get_or cost d 0) dims (replicate dims 0) → counted_if (is_hand_back c) cost ≡ upto (λ (d : ℕ). calls.if_ceiling c (get_or cost d 0)) dims (replicate dims 0)
unfolding counted_if is_hand_back
hands cause.ReceiverCeiling cost e = e
hands cause.OverShare cost e = zeros_parts
hands cause.RelayRate cost e = zeros_parts

on_parts : (b : Bool) (f : ℕ → ℕ) → counted_if b (upto f dims (replicate dims 0)) ≡ upto (λ (d : ℕ). cond b (f d) 0) dims (replicate dims 0)
unfolding counted_if
on_parts true f = refl
on_parts false f = zeros_parts

-- ---- a judgement
module _ (h : Shedder) (m : Memory) (u : unit.Unit) (cost : List ℕ) (t : ℕ) (j : Judgement) (n : Memory) (e : judging.judgement j n ≡ judging.judge h m u cost t) where
  judge_number_is : (x : ℕ) → x ≡ judge_number j.answer → x ≡ calls.number (calls.state_of h m) (Judge u cost t)
  judge_number_is x f = f ∙ ap (λ (y : judging.Judged). judge_number y.answer) e

  judge_admits : (goes : Bool) (xs : List ℕ) → length cost ≡ dims → goes ≡ is_admitted j.answer → xs ≡ counted_if goes cost → xs ≡ amounts calls.admitted (calls.state_of h m) (Judge u cost t)
  unfolding amounts
  judge_admits goes xs ec eg ex =
      ex ∙ ap (λ (b : Bool). counted_if b cost) (eg ∙ ap (λ (y : judging.Judged). is_admitted y.answer) e) ∙ admits (judging.judge h m u cost t).answer cost (cost_parts cost ec)

  -- on the watched record, unless the judgement was refused
  judge_on : (watched : unit.Unit) (mine : Bool) (xs ys : List ℕ) (x : ℕ) → mine ≡ on_watched h m.rows m.counted watched u → xs ≡ amounts calls.admitted (calls.state_of h m) (Judge u cost t)
      → ys ≡ counted_if mine xs → x ≡ judge_number j.answer → x ≡ 0 → ys ≡ amounts (calls.admitted_on (key_of watched)) (calls.state_of h m) (Judge u cost t)
  unfolding amounts
  judge_on watched mine xs ys x em ex ey en z =
      let on = calls.same_key (key_of watched) (calls.key (calls.state_of h m) u (calls.clock_at (calls.state_of h m) t)) in
      ey ∙ ap (λ (b : Bool). counted_if b xs) (em ∙ watched_is h m u cost t watched (sym (ap (λ (y : judging.Judged). judge_number y.answer) e) ∙ sym en ∙ z))
      ∙ ap (counted_if on) ex ∙ on_parts on (λ (d : ℕ). calls.admitted d (calls.state_of h m) (Judge u cost t))

-- all of it, by what the program read before and after
pub judge_turns : (h : Shedder) (m : Memory) (u : unit.Unit) (cost : List ℕ) (t : ℕ) (j : Judgement) (n : Memory) (watched : unit.Unit) (mine goes over : Bool) (xs ys : List ℕ) (x : ℕ)
    → length cost ≡ dims → mine ≡ on_watched h m.rows m.counted watched u
    → judging.judgement j n ≡ judging.judge h m u cost t → x ≡ judge_number j.answer → goes ≡ is_admitted j.answer → xs ≡ counted_if goes cost → ys ≡ counted_if mine xs → over ≡ is_over_share j.answer
    → Turns watched (calls.state_of h m) (Judge u cost t) (turned j.head x xs ys (replicate dims 0) over) (calls.state_of j.head n)
judge_turns h m u cost t j n watched mine goes over xs ys x ec em e en eg ex ey eo =
    let a : xs ≡ amounts calls.admitted (calls.state_of h m) (Judge u cost t) = judge_admits h m u cost t j n e goes xs ec eg ex in
    record {
      left = ap (λ (y : judging.Judged). calls.state_of y.head y.memory) e;
      number = judge_number_is h m u cost t j n e x en;
      admitted = a;
      handed = none calls.handed (calls.state_of h m) (Judge u cost t) (λ d. refl);
      admitted_on = λ z. judge_on h m u cost t j n e watched mine xs ys x em a ey en z;
      over_share = eo ∙ ap (λ (y : judging.Judged). is_over_share y.answer) e;
    }

-- ---- a cut
pub cut_turns : (h : Shedder) (m : Rows) (l : List (List ℕ)) (u : unit.Unit) (c : Cause) (cost : List ℕ) (j : Cutting) (m' : Rows) (l' : List (List ℕ)) (back : Bool) (xs : List ℕ) (x : ℕ)
    → length cost ≡ dims → cutting.cutting j m' l' ≡ cutting.cut h m l u c cost → x ≡ cut_number j.answer → back ≡ is_hand_back c → xs ≡ counted_if back cost
    → (watched : unit.Unit) (g : Hist) → Turns watched (calls.state_of h (memory m g l)) (Cut u c cost) (turned j.head x (replicate dims 0) (replicate dims 0) xs false) (calls.state_of j.head (memory m' g l'))
unfolding amounts
cut_turns h m l u c cost j m' l' back xs x ec e en eb ex watched g =
    let s = calls.state_of h (memory m g l) in
    record {
      left = ap (λ (y : cutting.Cut). calls.state_of y.head (memory y.rows g y.counted)) e;
      number = en ∙ ap (λ (y : cutting.Cut). cut_number y.answer) e;
      admitted = none calls.admitted s (Cut u c cost) (λ d. refl);
      handed = ex ∙ ap (λ (b : Bool). counted_if b cost) eb ∙ hands c cost (cost_parts cost ec);
      admitted_on = λ z. none (calls.admitted_on (key_of watched)) s (Cut u c cost) (λ d. refl);
      over_share = refl;
    }

-- ---- new rates leave the memory as it was, and amount to nothing
pub rates_turns : (h : Shedder) (m : Rows) (l : List (List ℕ)) (rate ceiling : List ℕ) (t : ℕ) (j : Changing) (x : ℕ) → rating.changing j ≡ rating.set_rates h m l rate ceiling t → x ≡ rates_number j.answer
    → (watched : unit.Unit) (g : Hist) → Turns watched (calls.state_of h (memory m g l)) (Rates rate ceiling t) (empty j.head x) (calls.state_of j.head (memory m g l))
rates_turns h m l rate ceiling t j x e en watched g =
    let s = calls.state_of h (memory m g l) in
    let c = Rates rate ceiling t in
    record {
      left = ap (λ (y : rating.Changed). calls.state_of y.head (memory m g l)) e;
      number = en ∙ ap (λ (y : rating.Changed). rates_number y.answer) e;
      admitted = none calls.admitted s c (λ d. refl);
      handed = none calls.handed s c (λ d. refl);
      admitted_on = λ z. none (calls.admitted_on (key_of watched)) s c (λ d. refl);
      over_share = refl;
    }

-- ---- a reading leaves head and memory as they were, and amounts to nothing
pub read_turns : (watched : unit.Unit) (h : Shedder) (m : Memory) (q : calls.Reading) (x : ℕ) → x ≡ calls.read_number (calls.state_of h m) q → Turns watched (calls.state_of h m) (Read q) (empty h x) (calls.state_of h m)
read_turns watched h m q x e =
    let s = calls.state_of h m in
    record {
      left = refl;
      number = e;
      admitted = none calls.admitted s (Read q) (λ d. refl);
      handed = none calls.handed s (Read q) (λ d. refl);
      admitted_on = λ z. none (calls.admitted_on (key_of watched)) s (Read q) (λ d. refl);
      over_share = refl;
    }
