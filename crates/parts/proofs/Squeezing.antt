-- A drop by its two steps: the pass with the entries behind closed up, then the rows cleared. Assumes nothing.
use mathlib.Core.Path.{◌≡◌, refl, ap}
use mathlib.Core.List.{List}
use Prim.Native.Nat.{ℕ, ◌+◌, ◌-◌, ◌≤◌}
use lib.ListN.{length}
use Rattle.store.specs.Store.{None}
use Rattle.shifting.specs.Shifting.{closed}
use Rattle.shifting.specs.Offsets.{from_on}
use Rattle.parts.specs.Parts.{Rows, rows, begin, end, goes, sifting, sifted, Sifting, cleared_rows, dropped, left}
use Rattle.parts.specs.Held.{Sized}
use Rattle.parts.specs.Indexed.{passed}
use Rattle.parts.proofs.Passing.{some_left, some_dropped}

module _ (m : Rows) (n t now : ℕ) (z : Sized m) (r : n ≤ length m.units) (h : begin m t ≤ end m t) (l : end m t ≤ n)
    (i : ℕ) (u : begin m t ≤ i) (v : i ≤ end m t) (still : None (goes m.slots m.units now) (begin m t) i) where
  abbrev P : Sifting
  P = passed m i (end m t) n now

  -- the lists after the pass
  abbrev A : Rows
  A = rows P.tags P.slots m.offsets P.free m.units m.uses

  module _ (j : ℕ) (b c : Rows) (k : j ≡ P.count) where
    passed_at : sifting j A.tags A.slots A.free ≡ sifted m.tags m.slots m.free m.units i (end m t) (length m.units - n) now
    passed_at = ap (λ (x : ℕ). sifting x P.tags P.slots P.free) k

    pub squeezed_left : n - (end m t - j) ≡ left m n t now
    squeezed_left = some_left m n t now z r h l i u v still j A b c passed_at

    pub squeezed_dropped : (os : List ℕ) → b.tags ≡ closed P.tags j (end m t) n 0 → b.slots ≡ closed P.slots j (end m t) n 0 → b.free ≡ P.free
        → b.offsets ≡ m.offsets → b.units ≡ m.units → b.uses ≡ m.uses → c ≡ cleared_rows b (length m.units - n) (length m.units - n + (end m t - j))
        → os ≡ from_on (λ (o : ℕ). o - (end m t - j)) c.offsets (t + 1) → rows c.tags c.slots os c.free c.units c.uses ≡ dropped m n t now
    squeezed_dropped os a d e f g p q s = some_dropped m n t now z r h l i u v still j A b c passed_at os refl refl refl a d e f g p q s
