-- Rust's `min`, `max` and `clamp` of doubles. Definitions only.
use Rattle.std.specs.Prelude.{cond, Float}
use Rattle.std.specs.Float.Ieee.{ne, lt}

-- the smaller and the larger: of two equal values the first, of a not-a-number (the only value unequal to itself) the other
abbrev pub least : Float → Float → Float
least x y = cond (ne x x) y (cond (lt y x) y x)

abbrev pub most : Float → Float → Float
most x y = cond (ne x x) y (cond (lt x y) y x)

-- x, but `low` where x is below it; then `high` where that is above it
abbrev pub clamped : Float → Float → Float → Float
clamped x low high = let raised = cond (lt x low) low x in cond (lt high raised) high raised
