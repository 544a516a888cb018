-- The trial of the paper, on the model: rates 10 and 1000, no ceiling. Three batches of one sender, all stamped 1000: of cost 5 and 100, 6 and 0, 30 and 0. Assumes nothing.
use mathlib.Core.Path.{◌≡◌, refl}
use Prim.Native.Nat.{ℕ, zero, suc}
use mathlib.Core.Bool.{Bool, true, false}
use mathlib.Core.List.{List, [], ◌∷◌}
use lib.Dec.{eqb}
use lib.Ieee as Ieee
use lib.Ieee.{Float}
use Rattle.ieee.specs.Doubles.{whole, one, half}
use Rattle.verdict.specs.declared.Verdict.{Verdict}
use Rattle.verdict.specs.declared.Verdict.TheVariants.{Admitted, OverShare, RelayRate}
use Rattle.flow.specs.Flow as flow
use Rattle.verdict.specs.Verdict as verdicts
use Rattle.fair.specs.Runs.{clock}
use Rattle.fair.specs.Demand.{Batch}
use Rattle.fair.specs.Store.{Call, Judge, verdict, store}

two : ℕ → ℕ → ℕ → ℕ
two a b zero = a
two a b (suc d) = b

both : ℕ → ℕ → List Float
both a b = whole a ∷ whole b ∷ []

abbrev never : ℕ → Bool
never u = false

abbrev C : Type 0
C = Call ℕ eqb never 256

batch : ℕ → ℕ → Float → Batch
batch a b want = record { stamp = 1000; cost = two a b; want = want; reserve = true }

judge : ℕ → ℕ → Float → C
judge a b want = Judge 7 (batch a b want) (both 10 1000) (λ i r. false) 0

answer : ℕ → ℕ → Float → List C → Verdict
answer a b want h = verdict ℕ eqb never 256 (two 10 1000) (two 0 0) 7 (batch a b want) (both 10 1000) h

-- what the batches want: alone; with the first before it; with both
want_first : Float
want_first = verdicts.want one (both 5 100) (both 5 100) (both 10 1000)

want_second : Float
want_second = verdicts.want half (both 11 100) (both 6 0) (both 10 1000)

want_third : Float
want_third = verdicts.want half (both 41 100) (both 30 0) (both 10 1000)

first : answer 5 100 want_first [] ≡ Admitted
unfolding answer judge batch two both Ieee.le flow.largest Ieee.ne Ieee.of_bits Ieee.div Ieee.add Ieee.of_int Ieee.mul Ieee.sub flow.all flow.upto store clock want_first
first = refl

second : answer 6 0 want_second (judge 5 100 want_first ∷ []) ≡ RelayRate
unfolding answer judge batch two both Ieee.le flow.largest Ieee.ne Ieee.of_bits Ieee.div Ieee.add Ieee.of_int Ieee.mul Ieee.sub flow.all flow.upto store clock want_first want_second
second = refl

third : answer 30 0 want_third (judge 6 0 want_second ∷ judge 5 100 want_first ∷ []) ≡ OverShare
unfolding answer judge batch two both Ieee.le flow.largest Ieee.ne Ieee.of_bits Ieee.div Ieee.add Ieee.of_int Ieee.mul Ieee.sub flow.all flow.upto store clock want_first want_second want_third
third = refl
