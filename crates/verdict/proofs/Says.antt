-- What the rule says (specs/Says). Assumes nothing.
use mathlib.Core.Path.{◌≡◌, refl, sym, ap, ◌∙◌, subst}
use mathlib.Core.Bool.{Bool, true, false, true≢false, cond, not}
use mathlib.Core.List.{List}
use mathlib.Core.Option.{none, some, some-injective, none-ne-some, some-ne-none}
use Prim.Native.Nat.{ℕ, zero, suc, ◌<◌}
use native.Mathlib.Omega.{arith}
use lib.Dec.{ltb}
use lib.Ieee as Ieee
use lib.Ieee.{Float}
use borrow.Author.Tests.{lt-ltb, le-ltb, ltb-true, ltb-false}
use Rattle.ieee.specs.Doubles.{one}
use Rattle.flow.specs.declared.Bucket.{Bucket}
use Rattle.flow.specs.declared.Dim.{Dim}
use Rattle.flow.specs.declared.Dim.TheVariants.{Receptions, Bytes}
use Rattle.flow.specs.Flow.{dims, dim_of, dim_at, at, bucket_at, credited, refilled_all}
use Rattle.verdict.specs.declared.Verdict.TheVariants as verdict
use Rattle.verdict.specs.declared.Side.{Side}
use Rattle.verdict.specs.declared.Side.TheVariants.{Within, Over}
use Rattle.verdict.specs.declared.Rule.{Rule}
use Rattle.verdict.specs.declared.Rule.TheVariants.{Admitted, Credit, Tokens, Reserve}
use Rattle.verdict.specs.Verdict.{credit_holds, tokens_hold, part_of, reserve_holds, mark_of, covers, suffice, leaves, within, above, decided}
use Rattle.verdict.specs.Rules.{lacking, credit_lacks, tokens_lack, reserve_lacks, side_of, reserve_at, reserved, rule_of, ruled, verdict_of, Bound, bound_of}
use Rattle.verdict.specs.Says.{Lies, Says, question, Tells, Judges}
use Rattle.verdict.proofs.Laws.{apart, wants, told}
use Rattle.verdict.proofs.Lacking.{Before, lacking_all, lacking_found, found}
use Rattle.verdict.proofs.Picked.{sided, picked_at}

-- ---- a dimension and its place
dim_small : (d : Dim) → dim_of d < dims
unfolding dim_of
dim_small Receptions = omega arith
dim_small Bytes = omega arith

dim_back : (d : Dim) → dim_at (dim_of d) ≡ d
unfolding dim_of dim_at
dim_back Receptions = refl
dim_back Bytes = refl

place-back : (n : ℕ) → n < dims → dim_of (dim_at n) ≡ n
unfolding dim_of dim_at
place-back zero h = refl
place-back (suc zero) h = refl
place-back (suc (suc n)) h = absurd (omega arith)

-- ---- a question asked of the dimensions in turn
module _ (p : ℕ → Bool) where
  abbrev first : ℕ
  first = lacking p dims

  none_lacks : Before p dims → ltb first dims ≡ false
  none_lacks h = rw (lacking_all p dims h) (le-ltb dims dims (omega arith))

  all_hold : ltb first dims ≡ false → Before p dims
  all_hold e d h = (found p dims).before d (omega (arith, h, ltb-false first dims e))

  first-is : (d : Dim) → Before p (dim_of d) → p (dim_of d) ≡ false → first ≡ dim_of d
  first-is d h e = lacking_found p dims (dim_of d) (dim_small d) (lacking_all p (dim_of d) h) e

  first_lacks : ltb first dims ≡ true → p (dim_of (dim_at first)) ≡ false
  first_lacks e = ap p (place-back first (ltb-true first dims e)) ∙ (found p dims).lacks (ltb-true first dims e)

  before_first : ltb first dims ≡ true → Before p (dim_of (dim_at first))
  before_first e = subst (Before p) (sym (place-back first (ltb-true first dims e))) (found p dims).before

  -- what names the dimension found
  named : (d : Dim) → Before p (dim_of d) → p (dim_of d) ≡ false → (ltb first dims ≡ true) × (dim_at first ≡ d)
  named d h e = (lt-ltb first dims (subst (λ (n : ℕ). n < dims) (sym (first-is d h e)) (dim_small d)), ap dim_at (first-is d h e) ∙ dim_back d)

-- ---- the verdict, by what was asked: w within the level; c, t, r the credit, the tokens, the reserve lack
by_tests : (c t w r : Bool) (wants mark part : Float) (d e f : Dim)
    → verdict_of (cond c (Credit (sided w) d) (cond t (Tokens (sided w) e) (cond w (Admitted wants) (cond r (Reserve f mark part) (Admitted wants)))))
    ≡ cond w (within (not c) (not t)) (above (not c) (not t) (not r))
by_tests true t true r wants mark part d e f = refl
by_tests true t false r wants mark part d e f = refl
by_tests false true true r wants mark part d e f = refl
by_tests false true false r wants mark part d e f = refl
by_tests false false true r wants mark part d e f = refl
by_tests false false false true wants mark part d e f = refl
by_tests false false false false wants mark part d e f = refl

alike : (wants : Float) {a b c a' b' c' : Bool} → a ≡ a' → b ≡ b' → c ≡ c' → decided wants a' b' c' ≡ decided wants a b c
alike wants p q r = rw (p, q, r)

-- ---- the bound, by the rule
none_admits : (credit : List Float) (bs : List Bucket) (cost : List Float) (r : Rule) → bound_of credit bs cost r ≡ none → verdict_of r ≡ verdict.Admitted
unfolding bound_of
none_admits credit bs cost (Admitted w) e = refl
none_admits credit bs cost (Credit side d) e = absurd (some-ne-none _ e)
none_admits credit bs cost (Tokens side d) e = absurd (some-ne-none _ e)
none_admits credit bs cost (Reserve d mark part) e = absurd (some-ne-none _ e)

admits_none : (credit : List Float) (bs : List Bucket) (cost : List Float) (r : Rule) → verdict_of r ≡ verdict.Admitted → bound_of credit bs cost r ≡ none
unfolding bound_of
admits_none credit bs cost (Admitted w) e = refl
admits_none credit bs cost (Credit side d) e = absurd (apart e (λ n. omega arith))
admits_none credit bs cost (Tokens Within d) e = absurd (apart e (λ n. omega arith))
admits_none credit bs cost (Tokens Over d) e = absurd (apart e (λ n. omega arith))
admits_none credit bs cost (Reserve d mark part) e = absurd (apart e (λ n. omega arith))

module _ (wants rank : Float) (credit : List Float) (bs : List Bucket) (cost : List Float) where
  abbrev mark : Float
  mark = mark_of wants rank

  abbrev covered : ℕ → Bool
  covered d = credit_holds (at credit d) (at cost d)

  abbrev tokened : ℕ → Bool
  tokened d = tokens_hold (bucket_at bs d) (at cost d)

  abbrev left : ℕ → Bool
  left d = reserve_holds (bucket_at bs d) (at cost d) mark

  abbrev picked : (c t w r : Bool) → Rule
  picked = picked_at wants mark bs cost (first covered) (first tokened) (first left)

  rule_is : rule_of wants rank credit bs cost ≡ picked (ltb (first covered) dims) (ltb (first tokened) dims) (Ieee.le wants one) (ltb (first left) dims)
  unfolding rule_of reserved credit_lacks tokens_lack reserve_lacks
  rule_is = refl

  lies : Lies wants rank credit bs cost (side_of wants)
  unfolding side_of
  lies = go (Ieee.le wants one) refl
    where
      go : (b : Bool) → Ieee.le wants one ≡ b → Lies wants rank credit bs cost (sided b)
      go true e = e
      go false e = e

  side_is : (s : Side) → Lies wants rank credit bs cost s → s ≡ side_of wants
  unfolding side_of
  side_is Within e = rw e refl
  side_is Over e = rw e refl

  says_by : (c t w r : Bool) → ltb (first covered) dims ≡ c → ltb (first tokened) dims ≡ t → Ieee.le wants one ≡ w → ltb (first left) dims ≡ r
      → Says wants rank credit bs cost (picked c t w r)
  says_by true t w r ec et ew er = (lies, before_first covered ec, first_lacks covered ec)
  says_by false true w r ec et ew er = (lies, all_hold covered ec, before_first tokened et, first_lacks tokened et)
  says_by false false true r ec et ew er = (refl, all_hold covered ec, all_hold tokened et, λ e. absurd (true≢false (sym ew ∙ e)))
  says_by false false false true ec et ew er =
      (ew, refl, reserve_part, all_hold covered ec, all_hold tokened et, before_first left er, rest)
    where
      same : dim_of (dim_at (first left)) ≡ first left
      same = place-back (first left) (ltb-true (first left) dims er)

      reserve_part : part_of (bucket_at bs (first left)) (at cost (first left)) ≡ part_of (bucket_at bs (dim_of (dim_at (first left)))) (at cost (dim_of (dim_at (first left))))
      reserve_part = ap (λ (d : ℕ). part_of (bucket_at bs d) (at cost d)) (sym same)

      rest : left (first left) ≡ false
      rest = (found left dims).lacks (ltb-true (first left) dims er)
  says_by false false false false ec et ew er = (refl, all_hold covered ec, all_hold tokened et, λ e. all_hold left er)

  says : Says wants rank credit bs cost (rule_of wants rank credit bs cost)
  says = subst (Says wants rank credit bs cost) (sym rule_is) (says_by _ _ _ _ refl refl refl refl)

  only : (r : Rule) → Says wants rank credit bs cost r → r ≡ rule_of wants rank credit bs cost
  only (Admitted w) (ew, c, t, l) = ap Admitted ew ∙ go (Ieee.le wants one) refl ∙ sym rule_is
    where
      go : (b : Bool) → Ieee.le wants one ≡ b → Admitted wants ≡ picked (ltb (first covered) dims) (ltb (first tokened) dims) (Ieee.le wants one) (ltb (first left) dims)
      go true e = rw (none_lacks covered c, none_lacks tokened t, e) refl
      go false e = rw (none_lacks covered c, none_lacks tokened t, e, none_lacks left (l e)) refl
  only (Credit side d) (es, c, e) =
      let n = named covered d c e in
      rw (n.0, n.1, side_is side es) refl ∙ sym rule_is
  only (Tokens side d) (es, c, t, e) =
      let n = named tokened d t e in
      rw (none_lacks covered c, n.0, n.1, side_is side es) refl ∙ sym rule_is
  only (Reserve d m part) (ew, em, ep, c, t, l, e) =
      ap (λ (m : Float). Reserve d m part) em ∙ ap (Reserve d mark) ep ∙ ap (λ (x : Dim). Reserve x mark (part_at (dim_of d))) (sym (dim_back d))
      ∙ ap (reserve_at bs cost mark) (sym at_d) ∙ rw (none_lacks covered c, none_lacks tokened t, ew, lt-ltb (first left) dims small) refl ∙ sym rule_is
    where
      part_at : ℕ → Float
      part_at i = part_of (bucket_at bs i) (at cost i)

      at_d : first left ≡ dim_of d
      at_d = first-is left d (subst (λ (m : Float). Before (λ (i : ℕ). reserve_holds (bucket_at bs i) (at cost i) m) (dim_of d)) em l)
          (sym (ap (λ (x : Float). Ieee.le x part) em ∙ ap (Ieee.le mark) ep) ∙ e)

      small : first left < dims
      small = subst (λ (n : ℕ). n < dims) (sym at_d) (dim_small d)

  -- the bound of any rule, and of one that says what it says
  bound_is : (r : Rule) (b : Bound) → bound_of credit bs cost r ≡ some b → Ieee.le b.asked b.held ≡ question wants rank credit bs cost r
  unfolding bound_of
  bound_is (Admitted w) b e = absurd (none-ne-some _ e)
  bound_is (Credit side d) b e = ap (λ (b : Bound). Ieee.le b.asked b.held) (sym (some-injective _ b e))
  bound_is (Tokens side d) b e = ap (λ (b : Bound). Ieee.le b.asked b.held) (sym (some-injective _ b e))
  bound_is (Reserve d m part) b e = ap (λ (b : Bound). Ieee.le b.asked b.held) (sym (some-injective _ b e))

  failed_by : (r : Rule) → Says wants rank credit bs cost r → (b : Bound) → bound_of credit bs cost r ≡ some b → Ieee.le b.asked b.held ≡ false
  unfolding bound_of
  failed_by (Admitted w) s b e = absurd (none-ne-some _ e)
  failed_by (Credit side d) s b e = bound_is (Credit side d) b e ∙ s.2
  failed_by (Tokens side d) s b e = bound_is (Tokens side d) b e ∙ s.3
  failed_by (Reserve d m part) s b e = bound_is (Reserve d m part) b e ∙ s.6

  same_verdict : verdict_of (rule_of wants rank credit bs cost) ≡ decided wants (covers credit cost) (suffice bs cost) (leaves bs cost mark)
  unfolding rule_of reserved credit_lacks tokens_lack reserve_lacks side_of
  same_verdict =
      by_tests (ltb (first covered) dims) (ltb (first tokened) dims) (Ieee.le wants one) (ltb (first left) dims) wants mark _ _ _ _
      ∙ alike wants (found covered dims).holds (found tokened dims).holds (found left dims).holds

  pub tells : Tells wants rank credit bs cost
  tells = record {
    same_verdict = same_verdict;
    says = says;
    only = only;
    bound = bound_is;
    failed = failed_by (rule_of wants rank credit bs cost) says;
    admitted = none_admits credit bs cost (rule_of wants rank credit bs cost);
    unbound = admits_none credit bs cost (rule_of wants rank credit bs cost);
  }

-- ---- a judgement on a record
pub judges : Judges
unfolding ruled
judges bs u clock elapsed cost fill level rank =
    (tells (wants bs u clock elapsed cost fill level rank) rank (credited u clock fill).credit (refilled_all bs elapsed) cost).same_verdict
    ∙ sym (told bs u clock elapsed cost fill level rank)
