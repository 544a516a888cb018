-- The laws of a judgement (specs/Laws.antt). Assumes nothing.
use mathlib.Core.Path.{◌≡◌, refl, sym, ap, ◌∙◌, subst}
use Prim.Native.Nat.{ℕ, ◌-◌, ◌*◌, ◌^◌, ◌≤◌, ◌<◌}
use native.Mathlib.Nat.{le_trans, le_of_eq}
use native.Mathlib.Omega.{arith}
use mathlib.Core.Bool.{Bool, true, false, true≢false, cond}
use mathlib.Core.List.{List}
use lib.Dec.{T}
use lib.Ieee as Ieee
use lib.Ieee.{Float, binary64}
use Rattle.ieee.specs.Doubles.{one, whole}
use Rattle.ieee.specs.Units.{power, units, Amount, Is}
use Rattle.ieee.proofs.Power.{power-is}
use Rattle.std.proofs.lemmas.Float.{T_from_true}
use Rattle.ieee.proofs.Order.{le_units}
use Rattle.ieee.proofs.Laws.{int_is}
use Rattle.flow.specs.declared.Bucket.{Bucket}
use Rattle.flow.specs.declared.Use.{Use}
use Rattle.flow.specs.Flow.{dims, at, bucket_at, credited, refilled_all, spent, spent_all, charged}
use Rattle.flow.proofs.Parts.{upto_length, each_at, buckets_at, all-at, all_of}
use Rattle.flow.proofs.Difference.{sub_whole}
use Rattle.verdict.specs.declared.Verdict.{Verdict}
use Rattle.verdict.specs.declared.Verdict.TheVariants.{Admitted, OverShare, RelayRate}
use Rattle.verdict.specs.Verdict.{covers, suffice, leaves, mark_of, met, within, above, decided, settled, credit_holds, tokens_hold}
use Rattle.verdict.specs.Laws as law
use Rattle.verdict.specs.Laws.{Asked, Kept, Names, Pays}

-- ---- the verdicts differ
abbrev pub number : Verdict → ℕ
number Admitted = 0
number OverShare = 1
number RelayRate = 2

pub apart : {v w : Verdict} → v ≡ w → (number v ≡ number w → ⊥) → ⊥
apart e f = f (ap number e)

-- ---- what the decision says, by its tests: w the want within the level, c credit, t tokens, r reserve
admitted_by : (w c t r : Bool) → cond w (within c t) (above c t r) ≡ Admitted → (c ≡ true) × (t ≡ true)
admitted_by w true true r e = (refl, refl)
admitted_by true true false r e = absurd (apart e (λ n. omega arith))
admitted_by true false true r e = absurd (apart e (λ n. omega arith))
admitted_by true false false r e = absurd (apart e (λ n. omega arith))
admitted_by false true false r e = absurd (apart e (λ n. omega arith))
admitted_by false false true r e = absurd (apart e (λ n. omega arith))
admitted_by false false false r e = absurd (apart e (λ n. omega arith))

relayed_by : (w c t r : Bool) → cond w (within c t) (above c t r) ≡ RelayRate → (c ≡ true) × (t ≡ false)
relayed_by w true false r e = (refl, refl)
relayed_by true true true r e = absurd (apart e (λ n. omega arith))
relayed_by true false true r e = absurd (apart e (λ n. omega arith))
relayed_by true false false r e = absurd (apart e (λ n. omega arith))
relayed_by false true true true e = absurd (apart e (λ n. omega arith))
relayed_by false true true false e = absurd (apart e (λ n. omega arith))
relayed_by false false true r e = absurd (apart e (λ n. omega arith))
relayed_by false false false r e = absurd (apart e (λ n. omega arith))

shared_by : (w c t r : Bool) → T w → c ≡ true → cond w (within c t) (above c t r) ≡ OverShare → ⊥
shared_by true true true r l q e = apart e (λ n. omega arith)
shared_by true true false r l q e = apart e (λ n. omega arith)
shared_by true false t r l q e = true≢false (sym q)
shared_by false c t r l q e = l

-- ---- what is settled, by the verdict
settled_verdict : (v : Verdict) (bs : List Bucket) (u : Use) (cost : List Float) → (settled v bs u cost).verdict ≡ v
settled_verdict Admitted bs u cost = refl
settled_verdict OverShare bs u cost = refl
settled_verdict RelayRate bs u cost = refl

settled_kept : (v : Verdict) (bs : List Bucket) (u : Use) (cost : List Float) → (v ≡ Admitted → ⊥) → ((settled v bs u cost).buckets ≡ bs) × ((settled v bs u cost).used ≡ u)
settled_kept Admitted bs u cost h = absurd (h refl)
settled_kept OverShare bs u cost h = (refl, refl)
settled_kept RelayRate bs u cost h = (refl, refl)

settled_paid : (v : Verdict) (bs : List Bucket) (u : Use) (cost : List Float) → v ≡ Admitted → ((settled v bs u cost).buckets ≡ spent_all bs cost) × ((settled v bs u cost).used ≡ charged u cost)
settled_paid Admitted bs u cost h = (refl, refl)
settled_paid OverShare bs u cost h = absurd (apart h (λ n. omega arith))
settled_paid RelayRate bs u cost h = absurd (apart h (λ n. omega arith))

-- a whole cost that is held is taken off exactly
paid : (x cost : Float) (n : ℕ) → Amount x → units x ≤ power 1120 → n ≤ 2 ^ 40 → cost ≡ whole n → Ieee.le cost x ≡ true → Is (Ieee.sub binary64 x cost) (units x - n * power 1074)
paid x cost n a small few e h =
    let i = int_is n (le_trans (let w : n ≤ 2 ^ 53 = omega arith in w) (le_of_eq (power-is 53))) in
    let held : units (whole n) ≤ units x = le_units (whole n) x i.amount a (T_from_true _ (sym (ap (λ (c : Float). Ieee.le c x) e) ∙ h)) in
    subst (λ (c : Float). Is (Ieee.sub binary64 x c) (units x - n * power 1074)) (sym e) (sub_whole x n a small (le_trans (le_of_eq (sym i.worth)) held))

module _ (bs : List Bucket) (u : Use) (now elapsed : ℕ) (cost fill level : List Float) (rank : Float) where
  abbrev pub full : List Bucket
  full = refilled_all bs elapsed

  abbrev pub wants : Float
  wants = law.wants bs u now elapsed cost fill level rank

  abbrev pub has_credit : Bool
  has_credit = covers (credited u now fill).credit cost

  abbrev pub has_tokens : Bool
  has_tokens = suffice full cost

  abbrev pub has_reserve : Bool
  has_reserve = leaves full cost (mark_of wants rank)

  abbrev pub decision : Verdict
  decision = decided wants has_credit has_tokens has_reserve

  pub told : (law.outcome bs u now elapsed cost fill level rank).verdict ≡ decision
  told = settled_verdict decision full (met u now fill cost) cost

  credit_at : has_credit ≡ true → (d : ℕ) → d < dims → Ieee.le (at cost d) (law.credit bs u now elapsed cost fill level rank d) ≡ true
  credit_at e d small = all-at (λ (d : ℕ). credit_holds (at (credited u now fill).credit d) (at cost d)) dims d small e

  tokens_at : has_tokens ≡ true → (d : ℕ) → d < dims → Ieee.le (at cost d) (law.bucket bs u now elapsed cost fill level rank d).tokens ≡ true
  tokens_at e d small = all-at (λ (d : ℕ). tokens_hold (bucket_at full d) (at cost d)) dims d small e

  pub asked : Asked bs u now elapsed cost fill level rank
  asked = record {
    credited = λ e. credit_at (admitted_by (Ieee.le wants one) has_credit has_tokens has_reserve (sym told ∙ e)).0;
    tokened = λ e. tokens_at (admitted_by (Ieee.le wants one) has_credit has_tokens has_reserve (sym told ∙ e)).1;
  }

  pub kept : Kept bs u now elapsed cost fill level rank
  kept = record {
    buckets = λ h. (settled_kept decision full (met u now fill cost) cost (λ e. h (told ∙ e))).0;
    credit = λ h. ap (λ (u : Use). u.credit) (settled_kept decision full (met u now fill cost) cost (λ e. h (told ∙ e))).1;
  }

  pub tells : Names bs u now elapsed cost fill level rank
  tells = record {
    over_share = λ l e h. shared_by (Ieee.le wants one) has_credit has_tokens has_reserve l
        (all_of (λ (d : ℕ). credit_holds (at (credited u now fill).credit d) (at cost d)) dims h) (sym told ∙ e);
    relay_rate = λ e. credit_at (relayed_by (Ieee.le wants one) has_credit has_tokens has_reserve (sym told ∙ e)).0;
    no_tokens = λ e h. true≢false
        (sym (all_of (λ (d : ℕ). tokens_hold (bucket_at full d) (at cost d)) dims h) ∙ (relayed_by (Ieee.le wants one) has_credit has_tokens has_reserve (sym told ∙ e)).1);
  }

  pub pays : Pays bs u now elapsed cost fill level rank
  pays e long wide d n small few price = record {
    tokens = λ a top.
        subst (λ (b : Bucket). Is b.tokens (units (bucket_at full d).tokens - n * power 1074))
        (sym (ap (λ (bs : List Bucket). bucket_at bs d) (settled_paid decision full (met u now fill cost) cost (sym told ∙ e)).0 ∙ buckets_at (λ (d : ℕ). spent (bucket_at full d) (at cost d)) full d small (upto_length _ dims bs ∙ long)))
        (paid (bucket_at full d).tokens (at cost d) n a top few price (asked.tokened e d small));
    credit = λ a top.
        subst (λ (x : Float). Is x (units (at (credited u now fill).credit d) - n * power 1074))
        (sym (ap (λ (u : Use). at u.credit d) (settled_paid decision full (met u now fill cost) cost (sym told ∙ e)).1
        ∙ each_at (λ (d : ℕ). Ieee.sub binary64 (at (credited u now fill).credit d) (at cost d)) (credited u now fill).credit d small (upto_length _ dims u.credit ∙ wide)))
        (paid (at (credited u now fill).credit d) (at cost d) n a top few price (asked.credited e d small));
  }
