-- Addresses that RFC 5952 names, as its rules spell them; beside each the section of the rule. Statements only; proofs/Addresses proves them. Assumes nothing.
use Rattle.std.specs.Prelude.{◌≡◌, [], ◌∷◌}
use Rattle.label.specs.Rfc5952.{address}

pub record Addresses : Type 0 where
  -- 4.1: `2001:db8::1`
  pub one_digit : address (0x2001 ∷ 0xdb8 ∷ 0 ∷ 0 ∷ 0 ∷ 0 ∷ 0 ∷ 1 ∷ []) ≡ 50 ∷ 48 ∷ 48 ∷ 49 ∷ 58 ∷ 100 ∷ 98 ∷ 56 ∷ 58 ∷ 58 ∷ 49 ∷ []
  -- 4.2.1: `2001:db8::2:1`
  pub whole_run : address (0x2001 ∷ 0xdb8 ∷ 0 ∷ 0 ∷ 0 ∷ 0 ∷ 2 ∷ 1 ∷ []) ≡ 50 ∷ 48 ∷ 48 ∷ 49 ∷ 58 ∷ 100 ∷ 98 ∷ 56 ∷ 58 ∷ 58 ∷ 50 ∷ 58 ∷ 49 ∷ []
  -- 4.2.2: `2001:db8:0:1:1:1:1:1`
  pub one_field : address (0x2001 ∷ 0xdb8 ∷ 0 ∷ 1 ∷ 1 ∷ 1 ∷ 1 ∷ 1 ∷ []) ≡ 50 ∷ 48 ∷ 48 ∷ 49 ∷ 58 ∷ 100 ∷ 98 ∷ 56 ∷ 58 ∷ 48 ∷ 58 ∷ 49 ∷ 58 ∷ 49 ∷ 58 ∷ 49 ∷ 58 ∷ 49 ∷ 58 ∷ 49 ∷ []
  -- 4.2.3: `2001:0:0:1::1`
  pub longest_run : address (0x2001 ∷ 0 ∷ 0 ∷ 1 ∷ 0 ∷ 0 ∷ 0 ∷ 1 ∷ []) ≡ 50 ∷ 48 ∷ 48 ∷ 49 ∷ 58 ∷ 48 ∷ 58 ∷ 48 ∷ 58 ∷ 49 ∷ 58 ∷ 58 ∷ 49 ∷ []
  -- 4.2.3: `2001:db8::1:0:0:1`
  pub first_run : address (0x2001 ∷ 0xdb8 ∷ 0 ∷ 0 ∷ 1 ∷ 0 ∷ 0 ∷ 1 ∷ []) ≡ 50 ∷ 48 ∷ 48 ∷ 49 ∷ 58 ∷ 100 ∷ 98 ∷ 56 ∷ 58 ∷ 58 ∷ 49 ∷ 58 ∷ 48 ∷ 58 ∷ 48 ∷ 58 ∷ 49 ∷ []
  -- 4.3, of an address of 2.3: `2001:db8:aaaa:bbbb:cccc:dddd:eeee:aaaa`
  pub lower_case : address (0x2001 ∷ 0xdb8 ∷ 0xaaaa ∷ 0xbbbb ∷ 0xcccc ∷ 0xdddd ∷ 0xeeee ∷ 0xaaaa ∷ []) ≡ 50 ∷ 48 ∷ 48 ∷ 49 ∷ 58 ∷ 100 ∷ 98 ∷ 56 ∷ 58 ∷ 97 ∷ 97 ∷ 97 ∷ 97 ∷ 58 ∷ 98 ∷ 98 ∷ 98 ∷ 98 ∷ 58 ∷ 99 ∷ 99 ∷ 99 ∷ 99 ∷ 58 ∷ 100 ∷ 100 ∷ 100 ∷ 100 ∷ 58 ∷ 101 ∷ 101 ∷ 101 ∷ 101 ∷ 58 ∷ 97 ∷ 97 ∷ 97 ∷ 97 ∷ []
