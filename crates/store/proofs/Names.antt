-- The words of a row, one whose use is put back. Assumes nothing.
use mathlib.Core.Path.{◌≡◌, ◌∙◌}
use Prim.Native.Nat.{ℕ, ◌<◌}
use mathlib.Core.List.{List, []}
use native.Mathlib.Omega.{arith}
use lib.ListN.{length, get_or, set}
use lib.Seq.{get_or-set_same, get_or-set_other}
pub use Rattle.sender.proofs.Reading.{name_ext, words_same, words_self}
use Rattle.flow.specs.declared.Use.{Use}
use Rattle.store.specs.Store.{unit_row, words_at, units_put}

-- a use put back leaves them
pub words_put : (units : List (List ℕ)) (i : ℕ) (u : Use) → i < length units → words_at (units_put units i u) i ≡ words_at units i
unfolding words_at units_put
words_put units i u h =
    let r = unit_row units i in
    let e : get_or (set units i (set (set r 5 u.at_ms) 6 u.fresh)) i [] ≡ set (set r 5 u.at_ms) 6 u.fresh = get_or-set_same units i _ [] h in
    let o : (k : ℕ) → k < 5 → get_or (set (set r 5 u.at_ms) 6 u.fresh) k 0 ≡ get_or r k 0 =
    λ k h. get_or-set_other (set r 5 u.at_ms) 6 k u.fresh 0 (λ q. absurd (omega arith)) ∙ get_or-set_other r 5 k u.at_ms 0 (λ q. absurd (omega arith)) in
    simp (e, o 0 (omega arith), o 1 (omega arith), o 2 (omega arith), o 3 (omega arith), o 4 (omega arith))
