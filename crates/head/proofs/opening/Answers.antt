use Rattle.std.proofs.Common.{◌≡◌, refl}
use Rattle.std.specs.Float.{binary64}
use Rattle.std.specs.Float.Ieee.{of_bits, div}
use Rattle.ieee.specs.Doubles.{◌⊘◌, nothing, one}
use Rattle.head.specs.Start.{opening}
use Rattle.head.proofs.opening.Goals as goal

endless : of_bits binary64 9218868437227405312 ≡ one ⊘ nothing
unfolding div of_bits
endless = refl

pub returns : goal.returns
unfolding opening
returns c = simp (c.buckets.ensures, c.first_levels.ensures, c.numbers.ensures, c.new.ensures, endless)
