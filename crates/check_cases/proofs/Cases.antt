-- Document 01's table of cases holds of the definitions, by computing. Assumes nothing.
use mathlib.Core.Path.{refl, ◌∙◌}
use mathlib.Core.List.{[], ◌∷◌}
use lib.Ieee.{lt, of_bits, of_int}
use Rattle.ieee.specs.Doubles.{whole}
use Rattle.fade.specs.Fade.{fade}
use Rattle.fnv.specs.Fnv.{fed, feed, fnv1a}
use Rattle.label.specs.Label.{label, v6_label, prefix_fields}
use Rattle.label.specs.Rfc5952.{address, longest, zeros, colons, shortened}
use Rattle.sender.specs.Sender.{bytes_of, hash_of, table_of_hash}
use Rattle.cut_sources.specs.Sorted.{insert, sorted}
use Rattle.cut_sources.specs.Counted.{total, totals, keep_from, above, prune, pruned}
use Rattle.text.specs.Number.{numeral, hexadecimal}
use Rattle.text.specs.Page.{joined}
use Rattle.wants.specs.Bucket.{bucket_of, reaches, largest}
use Rattle.check_cases.specs.Cases as table
use Rattle.check_cases.proofs.Levels.{level_filled, cut, both_kept, none_cut}
use Rattle.check_cases.proofs.Fresh.{fade_of_0, ten, want_is_one, is_relayed}

pub cases : table.Cases
unfolding fed feed fnv1a bytes_of hash_of table_of_hash bucket_of largest reaches lt of_bits of_int insert sorted total totals keep_from above prune pruned label v6_label prefix_fields address longest zeros colons shortened joined hexadecimal numeral fade
cases = record {
  byte_2 = refl;
  hash_2 = refl;
  byte_3 = refl;
  hash_3 = refl;
  table_2 = refl;
  table_3 = refl;
  bucket_1 = refl;
  bucket_1·5 = refl;
  bucket_2 = refl;
  bucket_2^48 = refl;
  level_2_20 = λ d h. level_filled d (whole 2 ∷ whole 20 ∷ []) h ∙ cut;
  level_2_3 = λ d h. level_filled d (whole 2 ∷ whole 3 ∷ []) h ∙ both_kept;
  level_none = λ d h. level_filled d [] h ∙ none_cut;
  totals = refl;
  totals_in_another_order = refl;
  totals_equal = refl;
  prefix_first = refl;
  prefix_zero = refl;
  prefix_second = refl;
  prefix_both = refl;
  fade_0 = fade_of_0;
  fade_1400000 = refl;
  tokens_10 = ten;
  want_1 = want_is_one;
  relay_rate = is_relayed;
}
