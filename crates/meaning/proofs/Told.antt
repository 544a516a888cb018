-- The rule of a judgement and its verdict (specs/Told). Assumes nothing.
use Prim.Native.Nat.{ℕ, max}
use mathlib.Core.Path.{◌≡◌, refl, sym, ap, ◌∙◌, subst}
use mathlib.Core.Bool.{Bool, true, false, cond}
use mathlib.Core.List.{List, [], ◌∷◌}
use native.Mathlib.Omega.{arith}
use lib.ListN.{length}
use borrow.Author.Tests.{le-ltb}
use lib.Ieee.{Float}
use Rattle.ieee.specs.Doubles.{nothing}
use Rattle.flow.specs.Flow.{numbers}
use Rattle.sender.specs.declared.Unit.TheVariants as units
use Rattle.sender.specs.Sender.{rank}
use Rattle.store.specs.Held.{sizes_of}
use Rattle.verdict.specs.declared.Rule.TheVariants as rules
use Rattle.verdict.specs.Rules.{verdict_of}
use Rattle.verdict.proofs.Says.{tells, judges}
use Rattle.std.proofs.Common.{Some, None, Ok, Err}
use Rattle.verdict.specs.declared.Verdict.TheVariants as verdicts
use Rattle.head.specs.Answers.{number_of, refusal_of, refused, answer_number, judge_number}
use Rattle.head.proofs.Numbers.{refusal_back}
use Rattle.judge.specs.Judging as judging
use Rattle.judge.specs.Judging.{answer_of}
use Rattle.meaning.specs.State.{State, After, after, ask, Unit, Use, Flow, Answer, Ruling, Rule}
use Rattle.meaning.specs.Page as page
use Rattle.meaning.specs.Named.{Tracked, entered, place, use_in}
use Rattle.meaning.specs.Told.{answer_by, Says, Told}
use Rattle.head.proofs.Asked.{memory_of}
use Rattle.meaning.proofs.Asked.{memory_is}
use Rattle.meaning.proofs.Judged.{outcome_is, rule_is, rule_met}
use Rattle.meaning.proofs.Named.{found_use, ranked}

-- ---- of a record
module _ (f : Flow) (level : List Float) (x : Use) (r : Float) (cost : List Float) (clock : ℕ) where
  verdict : verdict_of (page.rule f level x r cost clock) ≡ (page.outcome f level x r cost clock).verdict
  unfolding judging.rule judging.outcome
  verdict = rw (rule_is f level x r cost clock, outcome_is f level x r cost clock) (judges _ x clock _ cost _ level r)

  says : Says f level x r cost clock (page.rule f level x r cost clock)
  says = subst (Says f level x r cost clock) (sym (rule_met f level x r cost clock)) (tells _ r _ _ cost).says

  only : (q : Rule) → Says f level x r cost clock q → q ≡ page.rule f level x r cost clock
  only q h = (tells _ r _ _ cost).only q h ∙ sym (rule_met f level x r cost clock)

-- ---- of a unit just found or just added
own : (s : State) (u : Unit) (cost : List Float) (clock : ℕ) → Tracked s u
    → page.ruled s u cost clock ≡ page.rule s.head.flow s.head.level (use_in (entered s u clock) (place s u clock)) (rank u) cost clock
unfolding page.ruled
own s u cost clock w = rw (found_use s u cost clock w, ranked s u cost clock w) refl

-- ---- of a unit that uses overflow's record
shared : (s : State) (u : Unit) (cost : List Float) (clock : ℕ) → page.memory_whole s ≡ true → page.entry s u clock ≡ after s.head.unit_room s
    → page.ruled s u cost clock ≡ page.rule s.head.flow s.head.level s.head.overflow (rank units.Overflow) cost clock
unfolding page.ruled page.used_at page.ranked
shared s u cost clock w e =
    let room = s.head.unit_room in
    let long : length s.rows.units ≡ room =
    (memory_of s.head (sizes_of s.rows s.counted) (sym (memory_is s) ∙ w)).units in
    rw (e, long, le-ltb room room (omega arith)) refl

-- ---- of a call
judged_verdict : (s : State) (u : Unit) (cost : List Float) (clock : ℕ) → (page.judged s u cost clock).answer ≡ verdict_of (page.ruled s u cost clock)
unfolding page.judged page.ruled
judged_verdict s u cost clock = sym (verdict s.head.flow s.head.level (page.used_at (page.entry s u clock).state (page.entry s u clock).answer) (page.ranked s u (page.entry s u clock).answer) cost clock)

-- by the questions: the result's law is the call's
asked : (qs : List (ℕ × Bool)) (s : State) (x : After Answer) (y : Ruling) → x.answer ≡ answer_by (judge_number x.answer) y
    → (ask qs (λ n. after (refused n) s) x).answer ≡ answer_by (judge_number (ask qs (λ n. after (refused n) s) x).answer) (ask qs (λ n. None) y)
unfolding answer_by answer_number
asked [] s x y e = e
asked (q ∷ qs) s x y e = go q.1 (asked qs s x y e)
  where
    go : (b : Bool) → (ask qs (λ n. after (refused n) s) x).answer ≡ answer_by (judge_number (ask qs (λ n. after (refused n) s) x).answer) (ask qs (λ n. None) y)
        → (cond b (ask qs (λ n. after (refused n) s) x) (after (refused q.0) s)).answer
        ≡ answer_by (judge_number (cond b (ask qs (λ n. after (refused n) s) x) (after (refused q.0) s)).answer) (cond b (ask qs (λ n. None) y) None)
    go true h = h
    go false h = ap Err (sym (refusal_back (refusal_of q.0)))

answer_is : (s : State) (u : Unit) (cost : List ℕ) (stamp : ℕ) → (page.judge s u cost stamp).answer ≡ answer_by (judge_number (page.judge s u cost stamp).answer) (page.judge_rule s u cost stamp)
unfolding page.judge page.judge_rule page.bounded answer_by answer_of
answer_is s u cost stamp = asked (page.judge_asks s cost stamp) s _ _ (go (page.is_unbounded s.head.flow.rate))
  where
    clock : ℕ
    clock = page.clock_by s stamp

    go : (b : Bool) → (cond b (after (Ok verdicts.Admitted) s) (page.bounded s u cost stamp)).answer
        ≡ answer_by (judge_number (cond b (after (Ok verdicts.Admitted) s) (page.bounded s u cost stamp)).answer) (cond b (Some (rules.Admitted nothing)) (Some (page.ruled s u (numbers cost) clock)))
    go true = refl
    go false = ap answer_of (judged_verdict s u (numbers cost) clock)

-- a call that is not refused was asked nothing that lacks
taken : (a b c d : Bool) (s : State) (x : After Answer) (y : Ruling) → judge_number (ask ((3, a) ∷ (4, b) ∷ (5, c) ∷ (6, d) ∷ []) (λ n. after (refused n) s) x).answer ≡ 0
    → ask ((3, a) ∷ (4, b) ∷ (5, c) ∷ (6, d) ∷ []) (λ n. None) y ≡ y
unfolding answer_number number_of refusal_of
taken true true true true s x y e = refl
taken true true true false s x y e = absurd (omega (arith, e))
taken true true false d s x y e = absurd (omega (arith, e))
taken true false c d s x y e = absurd (omega (arith, e))
taken false b c d s x y e = absurd (omega (arith, e))

-- then its rule is by whether the relay is bounded
ruled_by : (s : State) (u : Unit) (cost : List ℕ) (stamp : ℕ) (b : Bool) → page.is_unbounded s.head.flow.rate ≡ b → judge_number (page.judge s u cost stamp).answer ≡ 0
    → page.judge_rule s u cost stamp ≡ cond b (Some (rules.Admitted nothing)) (Some (page.ruled s u (numbers cost) (max stamp s.head.flow.at_ms)))
unfolding page.judge page.judge_rule page.judge_asks page.clock_by
ruled_by s u cost stamp b free e =
    taken (page.head_whole s.head s.rows.offsets) (page.memory_whole s) (page.costs_held cost) (page.is_stamp stamp) s _ _ e
    ∙ ap (λ (b : Bool). cond b (Some (rules.Admitted nothing)) (Some (page.ruled s u (numbers cost) (max stamp s.head.flow.at_ms)))) free

pub told : Told
told = record {
  answer = answer_is;
  unbounded = λ s u cost stamp. ruled_by s u cost stamp true;
  bounded = λ s u cost stamp. ruled_by s u cost stamp false;
  verdict = verdict;
  says = says;
  only = only;
  own = own;
  shared = shared;
}
