-- What the contracts of the calls leave to the program: which bits a not-a-number has. Definitions only.
use Rattle.std.specs.Prelude.{◌≡◌}

-- What a call answers and leaves, r, is the definition's, x, in each of its parts. To the logic there is one not-a-number: where a double of x is a not-a-number, that of r is one too, and its sign and payload are left open.
-- Nothing else is: every other double has the bits of x's, the sign of a zero and the infinities included, and so has every whole number, bool and byte.
abbrev pub SameButNanBits : {A : Type 0} → A → A → Type 0
SameButNanBits r x = r ≡ x
