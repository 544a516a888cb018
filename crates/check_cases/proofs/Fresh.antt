-- A fresh unit at rate 10 with cost 20, computed: its want is 1, its credit holds, the tokens do not. Assumes nothing.
use mathlib.Core.Path.{◌≡◌, refl, ap, ◌∙◌}
use Prim.Native.Nat.{ℕ, ◌-◌}
use native.Mathlib.Omega.{arith}
use mathlib.Core.Bool.{Bool, true, false, cond}
use mathlib.Core.List.{List}
use lib.IntN.{pos}
use lib.Ieee as Ieee
use lib.Ieee.{Float, fin, binary64, of_bits, of_int}
use Rattle.ieee.specs.Doubles.{one, whole}
use Rattle.fade.specs.Fade.{fade}
use Rattle.verdict.specs.declared.Verdict.TheVariants.{RelayRate}
use Rattle.flow.specs.Flow.{zeros, at, each, upto, largest, all, added, opened, fills, refilled_all, credited}
use Rattle.verdict.specs.Verdict.{want, covers, suffice, leaves, mark_of, within, above, judged}
use Rattle.verdict.proofs.Laws.{told}
use Rattle.check_cases.specs.Cases.{buckets, rate, cost, fresh_want}

pub fade_of_0 : fade 0 ≡ fin false 1 (pos 0)
unfolding fade
fade_of_0 = refl

-- the sums after a fade by f and the batch
abbrev sums : Float → List Float
sums f = each (λ (d : ℕ). Ieee.add binary64 (at (each (λ (d : ℕ). Ieee.mul binary64 (at zeros d) f) zeros) d) (at cost d)) (each (λ (d : ℕ). Ieee.mul binary64 (at zeros d) f) zeros)

unfaded : (now : ℕ) → fade (now - now) ≡ fin false 1 (pos 0)
unfaded now = let e : now - now ≡ 0 = omega arith in ap fade e ∙ fade_of_0

filled : want one (sums (fin false 1 (pos 0))) cost rate ≡ one
unfolding upto largest of_bits of_int Ieee.add Ieee.sub Ieee.mul Ieee.div Ieee.lt Ieee.eq Ieee.ne
filled = refl

pub want_is_one : (now : ℕ) → fresh_want now ≡ one
want_is_one now = ap (λ (f : Float). want one (sums f) cost rate) (unfaded now) ∙ filled

-- the credit, 4 times 10, holds the cost; the tokens, 10, do not
credit_is : (now : ℕ) → covers (credited (added now) now (fills rate rate)).credit cost ≡ true
unfolding upto all fills of_bits of_int Ieee.mul Ieee.lt Ieee.le Ieee.eq Ieee.ne
credit_is now = refl

tokens_are : suffice (refilled_all buckets 0) cost ≡ false
unfolding upto all of_bits of_int Ieee.add Ieee.mul Ieee.div Ieee.lt Ieee.le Ieee.eq Ieee.ne
tokens_are = refl

within_level : Ieee.le one one ≡ true
unfolding of_bits Ieee.le
within_level = refl

pub ten : (opened 10 0).tokens ≡ whole 10
unfolding of_bits of_int Ieee.lt Ieee.eq Ieee.ne
ten = refl

relayed : (w c t r : Bool) → w ≡ true → c ≡ true → t ≡ false → cond w (within c t) (above c t r) ≡ RelayRate
relayed w c t r e f g = rw (e, f, g)

pub is_relayed : (now : ℕ) (rank : Float) → (judged buckets (added now) now 0 cost (fills rate rate) rate rank).verdict ≡ RelayRate
is_relayed now rank =
    let w = want_is_one now in
    told buckets (added now) now 0 cost (fills rate rate) rate rank
    ∙ relayed (Ieee.le (fresh_want now) one) (covers (credited (added now) now (fills rate rate)).credit cost) (suffice (refilled_all buckets 0) cost)
    (leaves (refilled_all buckets 0) cost (mark_of (fresh_want now) rank)) (ap (λ (w : Float). Ieee.le w one) w ∙ within_level) (credit_is now) tokens_are
