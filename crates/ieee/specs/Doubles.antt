-- Doubles in formulas: each operation rounds once (IEEE 754 binary64, to nearest, ties to even). Definitions only.
use Rattle.std.specs.Prelude.{ℕ, Bool, pos, Float}
use Rattle.std.specs.Float.Ieee as Ieee
use Rattle.std.specs.Float.{binary64}
use Rattle.std.specs.Float.Ieee.{of_bits, of_int}

infixl 70 ◌⊗◌ ◌⊘◌
infixl 65 ◌⊕◌ ◌⊖◌
infix 50 ◌⊴◌ ◌⊲◌
abbrev pub ◌⊕◌ : Float → Float → Float
x ⊕ y = Ieee.add binary64 x y

abbrev pub ◌⊖◌ : Float → Float → Float
x ⊖ y = Ieee.sub binary64 x y

abbrev pub ◌⊗◌ : Float → Float → Float
x ⊗ y = Ieee.mul binary64 x y

abbrev pub ◌⊘◌ : Float → Float → Float
x ⊘ y = Ieee.div binary64 x y

-- at most, and below; false where one is a not-a-number
abbrev pub ◌⊴◌ : Float → Float → Bool
x ⊴ y = Ieee.le x y

abbrev pub ◌⊲◌ : Float → Float → Bool
x ⊲ y = Ieee.lt x y

-- a whole number as a double, the nearest one
abbrev pub whole : ℕ → Float
whole n = of_int binary64 (pos n)

-- ---- numbers by their bits
abbrev pub nothing : Float
nothing = of_bits binary64 0

abbrev pub one : Float
one = of_bits binary64 0x3ff0_0000_0000_0000

abbrev pub half : Float
half = of_bits binary64 0x3fe0_0000_0000_0000

abbrev pub two : Float
two = of_bits binary64 0x4000_0000_0000_0000

abbrev pub four : Float
four = of_bits binary64 0x4010_0000_0000_0000

abbrev pub thousand : Float
thousand = of_bits binary64 0x408f_4000_0000_0000

abbrev pub infinity : Float
infinity = of_bits binary64 0x7ff0_0000_0000_0000
