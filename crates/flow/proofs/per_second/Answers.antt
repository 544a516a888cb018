-- `flow::per_second` meets its contract. The one number above 2 ^ 53 that a rate can be, 2 ^ 64 - 1, rounds to the constant 2 ^ 64: computed. Assumes nothing.
use Rattle.std.proofs.Common.{◌≡◌, sym, refl, ap, ◌∙◌}
use lib.Ieee.{binary64, of_bits, of_int}
use Rattle.ieee.specs.Doubles.{whole}
use Rattle.flow.proofs.per_second.Goals as goal

unbounded : of_bits binary64 0x43f0_0000_0000_0000 ≡ whole 18446744073709551615
unfolding of_bits of_int
unbounded = refl

pub returns-then-rate-eq-UNBOUNDED : goal.returns-then-rate-eq-UNBOUNDED
returns-then-rate-eq-UNBOUNDED c = unbounded ∙ ap whole (sym c.if-rate-eq-UNBOUNDED.true)
