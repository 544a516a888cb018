-- The histogram as lent arrays: what they hold, and that the arrays are the same ones. Definitions only.
use Rattle.std.specs.Prelude.{◌≡◌}
use Rattle.wants.specs.Wants.{Hist, hist}
use Rattle.wants.specs.declared.Histogram.{Histogram}
use Rattle.wants.specs.declared.HistogramRead.{HistogramRead}

-- the counts and sums lent
abbrev pub wants_held : Histogram → Hist
wants_held h = hist h.counts.now h.sums.now

abbrev pub wants_read : HistogramRead → Hist
wants_read h = hist h.counts.now h.sums.now

-- the same arrays
pub record SameArrays (was is : Histogram) : Type 0 where
  pub counts_name : is.counts.ghost_name ≡ was.counts.ghost_name
  pub sums_name : is.sums.ghost_name ≡ was.sums.ghost_name
