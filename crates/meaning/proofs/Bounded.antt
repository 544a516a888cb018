-- What the calls rest on: a judgement on a bounded shedder, the rule that decides it, and whether a cut hands back. Assumes nothing.
use mathlib.Core.Path.{◌≡◌, refl}
use mathlib.Core.Bool.{Bool, true, false, cond, not, ◌&&◌}
use mathlib.Core.List.{List, [], ◌∷◌}
use Prim.Native.Nat.{ℕ, max}
use lib.Dec.{eqb}
use Rattle.flow.specs.Flow.{numbers}
use Rattle.sender.specs.declared.Unit.{Unit}
use Rattle.sender.specs.Sender.{name_of}
use Rattle.head.specs.declared.Shedder.{Shedder}
use Rattle.store.specs.declared.Cause.{Cause}
use Rattle.store.specs.Held.{sizes_of}
use Rattle.std.proofs.Common.{None}
use Rattle.head.specs.Questions as asked
use Rattle.head.specs.Readings.{index_of}
use Rattle.cut_counts.specs.Counting as counting
use Rattle.judge.specs.Judging as judging
use Rattle.judge.specs.Judging.{Memory}
use Rattle.cut.specs.Cutting as cutting
use Rattle.meaning.specs.State.{Ruling, ask}
use Rattle.meaning.specs.Page as page
use Rattle.meaning.specs.Agrees.{of, judged}
use Rattle.meaning.proofs.Asked.{unbounded_is, stamp_is, costs_is, head_is, memory_is}
use Rattle.meaning.proofs.Scanned.{scanned_is}
use Rattle.meaning.proofs.Judged.{judged_is, ruled_is, passed, told_is, tallied, tally_of}

-- question 4, as the contracts ask it
abbrev pub memory_whole : Shedder → Memory → Bool
memory_whole h m = asked.memory_whole h (sizes_of m.rows m.counted)

-- ---- judge
pub bounded_is : (h : Shedder) (m : Memory) (u : Unit) (cost : List ℕ) (stamp : ℕ) → page.bounded (of h m) u cost stamp ≡ judged (judging.bounded h m u cost stamp)
unfolding page.bounded page.clock_by judging.bounded
bounded_is h m u cost stamp =
    let clock = max stamp h.flow.at_ms in
    let p = judging.judged h m.rows u (numbers cost) clock in
    let s = (passed (of h m) p).state in
    let t = tallied s (counting.count_verdict (tally_of s) (name_of u) p.verdict cost) in
    rw (judged_is (of h m) u (numbers cost) clock, told_is s (name_of u) p.verdict cost, scanned_is t clock) refl

pub rule_is : (h : Shedder) (m : Memory) (u : Unit) (cost : List ℕ) (stamp : ℕ) → page.judge_rule (of h m) u cost stamp ≡ judging.ruling h m u cost stamp
unfolding page.judge_rule page.judge_asks page.clock_by judging.ruling judging.bounded_ruling asked.judge_asked
rule_is h m u cost stamp =
    let s = of h m in
    rw (head_is h m.rows.offsets, memory_is s, costs_is cost, stamp_is stamp, unbounded_is h.flow.rate, ruled_is s u (numbers cost) (max stamp h.flow.at_ms))
    (go (asked.whole_with h m.rows.offsets) (memory_whole h m) (asked.costs_held cost) (asked.is_stamp stamp) _)
  where
    go : (a b c d : Bool) (x : Ruling) → ask ((3, a) ∷ (4, b) ∷ (5, c) ∷ (6, d) ∷ []) (λ n. None) x ≡ cond (eqb (cond a (cond b (cond c (cond d 0 6) 5) 4) 3) 0) x None
    go true true true true x = refl
    go true true true false x = refl
    go true true false d x = refl
    go true false c d x = refl
    go false b c d x = refl

-- ---- cut
pub hands_is : (rate : List ℕ) (c : Cause) → (not (asked.is_unbounded rate) && eqb (index_of c) 0) ≡ cutting.hands_back rate c
unfolding cutting.hands_back
hands_is rate c = go (asked.is_unbounded rate) (eqb (index_of c) 0)
  where
    go : (a b : Bool) → (not a && b) ≡ cond a false b
    go true b = refl
    go false b = refl
