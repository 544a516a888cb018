-- The addresses that RFC 5952 names, by computing. Assumes nothing.
use mathlib.Core.Path.{refl}
use Rattle.text.specs.Number.{numeral, hexadecimal}
use Rattle.label.specs.Rfc5952.{address, longest, zeros, colons, shortened}
use Rattle.label.specs.Addresses as table

pub addresses : table.Addresses
unfolding address longest zeros colons shortened hexadecimal numeral
addresses = record {
  one_digit = refl;
  whole_run = refl;
  one_field = refl;
  longest_run = refl;
  first_run = refl;
  lower_case = refl;
}
