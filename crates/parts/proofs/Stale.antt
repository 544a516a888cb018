-- The test of a place as one of what stands there. Assumes nothing.
use mathlib.Core.Path.{◌≡◌, refl, sym, ap, ◌∙◌}
use mathlib.Core.Bool.{Bool, true, false, cond, not}
use mathlib.Core.List.{List, [], ◌∷◌}
use Prim.Native.Nat.{ℕ, suc, ◌+◌, ◌-◌, ◌<◌}
use native.Mathlib.Omega.{arith}
use native.Mathlib.Decide.{dec_lt}
use lib.Dec.{ltb}
use lib.ListN.{length, get_or}
use borrow.Author.Tests.{lt-ltb, le-ltb}
use Rattle.store.specs.Store.{stamp_at}
use Rattle.parts.specs.Parts.{Rows, those, stays, goes, is_stale, RETAIN_MS}
use Rattle.parts.specs.Laws.{record_at, stale, without}

old : (stamp at_ms : ℕ) → ltb RETAIN_MS (at_ms - stamp) ≡ ltb (stamp + 8000) at_ms
old stamp at_ms = elim (dec_lt (stamp + 8000) at_ms) [
  | yes h ↦ lt-ltb _ (at_ms - stamp) (omega arith) ∙ sym (lt-ltb (stamp + 8000) at_ms h)
  | no h ↦ le-ltb _ (at_ms - stamp) (omega arith) ∙ sym (le-ltb (stamp + 8000) at_ms (omega arith))
]

pub goes_at : (m : Rows) (at_ms k : ℕ) → goes m.slots m.units at_ms k ≡ stale at_ms (record_at m k)
unfolding goes is_stale stamp_at stale record_at
goes_at m at_ms k = old _ at_ms

pub stays_at : (m : Rows) (at_ms k : ℕ) → stays m.slots m.units at_ms k ≡ not (stale at_ms (record_at m k))
unfolding stays
stays_at m at_ms k = ap not (goes_at m at_ms k)

-- those at whose places p holds, where p says that q does not hold of what stands there
pub those_without : {A : Type 0} (d : A) (p : ℕ → Bool) (q : A → Bool) (i : ℕ) (xs : List A) → ((k : ℕ) → k < length xs → p (i + k) ≡ not (q (get_or xs k d))) → those p i xs ≡ without q xs
unfolding those without
those_without d p q i [] h = refl
those_without {A} d p q i (x ∷ xs) h =
    let z : i + 0 ≡ i = omega arith in
    by (p i) (q x) (ap p (sym z) ∙ h 0 (omega arith)) (those_without d p q (suc i) xs (λ k l. let y : suc i + k ≡ i + suc k = omega arith in ap p y ∙ h (suc k) (omega arith)))
  where
    by : (b c : Bool) → b ≡ not c → those p (suc i) xs ≡ without q xs → cond b (x ∷ those p (suc i) xs) (those p (suc i) xs) ≡ cond c (without q xs) (x ∷ without q xs)
    by true true e r = absurd (cc)
    by true false e r = ap (λ (l : List A). x ∷ l) r
    by false true e r = r
    by false false e r = absurd (cc)
