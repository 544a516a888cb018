-- A judgement of a bounded relay, from its parts. Assumes nothing.
use mathlib.Core.Path.{◌≡◌, ap, ◌∙◌}
use mathlib.Core.List.{List}
use Prim.Native.Nat.{ℕ, max}
use lib.Ieee.{Float}
use Rattle.flow.specs.Flow.{numbers}
use Rattle.sender.specs.declared.Unit.{Unit}
use Rattle.sender.specs.declared.Name.{Name}
use Rattle.sender.specs.Sender.{name_of}
use Rattle.store.specs.Store.{Rows, with_tags}
use Rattle.wants.specs.Wants.{Hist}
use Rattle.head.specs.declared.Shedder.{Shedder}
use Rattle.std.proofs.Common.{Some}
use Rattle.verdict.specs.declared.Rule.{Rule}
use Rattle.scan.specs.Scanning.{scanning, scanned}
use Rattle.cut_counts.specs.Counting.{tally, count_verdict}
use Rattle.judge.specs.declared.Passed.{Passed}
use Rattle.judge.specs.Judging.{passed, judged, answer_of, memory, judge_ends, bounded_scanned, bounded_counted, bounded_passed, bounded, ruled, bounded_ruling}

pub bounded_is : (h : Shedder) (m : Rows) (g : Hist) (k : List (List ℕ)) (u : Unit) (cost : List ℕ) (stamp : ℕ)
    (clock : ℕ) (paid : List Float) (p : Passed) (m1 : Rows) (n : Name) (t : Shedder) (i2 : List ℕ) (k1 : List (List ℕ)) (s : Shedder) (m2 : Rows) (g1 : Hist)
    → clock ≡ max stamp h.flow.at_ms
    → paid ≡ numbers cost
    → passed p m1 ≡ judged h m u paid clock
    → n ≡ name_of u
    → tally t i2 k1 ≡ count_verdict (tally p.head m1.tags k) n p.verdict cost
    → scanning s m2 g1 ≡ scanned (scanning t (with_tags m1 i2) g) clock
    → judge_ends (answer_of p.verdict) s (memory m2 g1 k1) ≡ bounded h (memory m g k) u cost stamp
unfolding bounded
bounded_is h m g k u cost stamp clock paid p m1 n t i2 k1 s m2 g1 eC eN eP eW eT eS =
    ap (bounded_scanned (answer_of p.verdict) k1) eS
    ∙ ap (bounded_counted g clock (passed p m1)) (eT ∙ ap (λ (n : Name). count_verdict (tally p.head m1.tags k) n p.verdict cost) eW)
    ∙ ap (bounded_passed (memory m g k) u cost clock) eP
    ∙ ap (λ (c : List Float). bounded_passed (memory m g k) u cost clock (judged h m u c clock)) eN
    ∙ ap (λ (clock : ℕ). bounded_passed (memory m g k) u cost clock (judged h m u (numbers cost) clock)) eC

-- its ruling
pub ruling_is : (h : Shedder) (m : Rows) (u : Unit) (cost : List ℕ) (stamp : ℕ) (clock : ℕ) (paid : List Float) (q : Rule)
    → clock ≡ max stamp h.flow.at_ms
    → paid ≡ numbers cost
    → q ≡ ruled h m u paid clock
    → Some q ≡ bounded_ruling h m u cost stamp
unfolding bounded_ruling
ruling_is h m u cost stamp clock paid q eC eN eQ =
    ap Some (eQ ∙ ap (λ (c : List Float). ruled h m u c clock) eN ∙ ap (ruled h m u (numbers cost)) eC)
