-- What holds whatever bits the memory holds: behind the room the tags are as they were, the offsets are whole, and the lengths the same.
-- Assumes nothing.
use mathlib.Core.Path.{◌≡◌, sym, ap, subst, ◌∙◌}
use mathlib.Core.List.{List}
use Prim.Native.Nat.{ℕ, ◌+◌, ◌-◌, ◌<◌, ◌≤◌}
use native.Mathlib.Omega.{arith}
use lib.ListN.{length, get_or}
use Rattle.std.specs.List.{SameFrom}
use Rattle.shifting.specs.Shifting.{part, inserted}
use Rattle.shifting.specs.Offsets.{from_on, Whole}
use Rattle.shifting.proofs.Places.{inserted_beyond}
use Rattle.shifting.proofs.Whole.{whole_below}
use Rattle.parts.specs.Parts.{Rows, begin, end, those, stays, dropped}
use Rattle.parts.specs.declared.Parts.{Parts}
use Rattle.parts.specs.Held.{held, SameParts, Sized}
use Rattle.parts.proofs.Places.{squeezed_beyond}
use Rattle.parts.proofs.Closing.{tagged}
use Rattle.parts.proofs.Keeping.{from_whole}
use Rattle.parts.proofs.Slots.{counted}

-- an entry that came in at p, of n, with at least one place more
pub behind_inserted : (xs ys : List ℕ) (p n v room : ℕ) → ys ≡ inserted xs p n v → p ≤ n → n < room → room ≤ length xs → SameFrom xs ys room
behind_inserted xs ys p n v room e h l r k d g = ap (λ (x : List ℕ). get_or x k d) e ∙ inserted_beyond d xs p n v h (omega arith) k (omega arith)

module _ (m : Rows) (n t now : ℕ) (z : Sized m) (q : n ≤ length m.units) (w : Whole m.offsets n) (h : t < 64) where
  abbrev K : List ℕ
  K = those (stays m.slots m.units now) (begin m t) (part m.tags (begin m t) (end m t))

  up : begin m t ≤ end m t
  up = w.rises t h

  within : end m t ≤ n
  within = whole_below m.offsets n w (t + 1) (omega arith)

  few : length K ≤ end m t - begin m t
  few = omega (arith, counted m n t now z q up within, tagged m.tags m.slots m.offsets m.free m.units m.uses n t now up within q z.tags z.slots z.free)

  dropped_behind : (k d : ℕ) → n ≤ k → get_or (dropped m n t now).tags k d ≡ get_or m.tags k d
  unfolding dropped
  dropped_behind k d g = squeezed_beyond (stays m.slots m.units now) m.tags (begin m t) (end m t) n up within (omega (arith, z.tags)) (omega (arith, up, few)) k d g

pub behind_dropped : (m r : Rows) (n t now : ℕ) → Sized m → n ≤ length m.units → Whole m.offsets n → t < 64 → r ≡ dropped m n t now → SameFrom m.tags r.tags (length m.units)
behind_dropped m r n t now z q w h e k d g = ap (λ (x : Rows). get_or x.tags k d) e ∙ dropped_behind m n t now z q w h k d (omega arith)

-- ---- the offsets are whole then
pub whole_raised : (os os' : List ℕ) (n t : ℕ) → length os ≡ 65 → Whole os n → t < 64 → os' ≡ from_on (λ (o : ℕ). o + 1) os (t + 1) → Whole os' (n + 1)
whole_raised os os' n t l w h e = subst (λ (x : List ℕ). Whole x (n + 1)) (sym e) (from_whole (λ (o : ℕ). o + 1) (λ a b q. omega arith) os n t h l (omega (arith, w.rises t h)) w)

pub whole_lowered : (os os' : List ℕ) (n t d : ℕ) → length os ≡ 65 → Whole os n → t < 64 → get_or os t 0 + d ≤ get_or os (t + 1) 0 → os' ≡ from_on (λ (o : ℕ). o - d) os (t + 1) → Whole os' (n - d)
whole_lowered os os' n t d l w h g e = subst (λ (x : List ℕ). Whole x (n - d)) (sym e) (from_whole (λ (o : ℕ). o - d) (λ a b q. omega arith) os n t h l (omega arith) w)

-- ---- the lengths are as they were
pub sized_stays : (was is : Parts) → SameParts was is → Sized (held was) → Sized (held is)
sized_stays was is s z = record { some = omega arith; most = omega arith; tags = omega arith; slots = omega arith; free = omega arith; uses = omega arith }
