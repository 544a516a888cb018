-- The fade on the two sides of the end of the tables. Assumes nothing.
use mathlib.Core.Path.{◌≡◌}
use mathlib.Core.Bool.{false}
use Prim.Native.Nat.{ℕ, ◌/◌, ◌%◌, ◌≤◌, ◌<◌}
use borrow.Author.Tests.{lt-ltb, le-ltb}
use lib.IntN.{pos}
use lib.Ieee.{fin, binary64, mul}
use Rattle.fade.specs.Fade.{nearest, end, fade}

pub during : (d : ℕ) → d < end → fade d ≡ mul binary64 (nearest (d % 2000) 2000) (nearest (d / 2000) 1)
during d h = unfold fade in rw (lt-ltb d end h)

pub after : (d : ℕ) → end ≤ d → fade d ≡ fin false 0 (pos 0)
after d h = unfold fade in rw (le-ltb d end h)
