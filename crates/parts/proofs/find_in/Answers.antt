-- `parts::find_in` meets its contract. Assumes nothing.
use Rattle.std.proofs.Common.{◌+◌, arith}
use Rattle.shifting.proofs.Whole.{whole_below, whole_mono}
use Rattle.parts.proofs.Finding.{found_below}
use Rattle.parts.proofs.find_in.Goals as goal

pub find_within-requires-clause-to_in_bounds : goal.find_within-requires-clause-to_in_bounds
find_within-requires-clause-to_in_bounds c = let b = whole_below _ _ c.requires.whole (c.table_of_tag-table.result + 1) (omega arith) in omega arith

pub find_within-requires-clause-to_in_bounds_2 : goal.find_within-requires-clause-to_in_bounds_2
find_within-requires-clause-to_in_bounds_2 c = let b = whole_below _ _ c.requires.whole (c.table_of_tag-table.result + 1) (omega arith) in omega arith

pub returns-clause-upper_bound : goal.returns-clause-upper_bound
returns-clause-upper_bound c =
    found_below c.find_within.result _ _ (whole_mono _ _ c.requires.whole (c.table_of_tag-table.result + 1) 64 (omega arith) (omega arith)) c.find_within.ensures.upper_bound
