-- The cases of specs/Cases.antt: computed. Assumes nothing.
use Rattle.std.proofs.Common.{refl}
use Rattle.flow.specs.Flow.{upto, all}
use Rattle.plan.specs.Plan.{minute, rates_of, holds, first_holding, planned, is_unbounded, is_bounded, window_rates, rates_held, is_span, in_range, overlap, is_apart, apart, none_unbounded, windows_asked, plan_whole}
use Rattle.plan.specs.Cases.{Cases}

pub cases : Cases
unfolding upto all minute rates_of holds first_holding planned is_unbounded is_bounded window_rates rates_held is_span in_range overlap is_apart apart none_unbounded windows_asked plan_whole
cases = record {
  none = refl;
  most = refl;
  above = refl;
  nothing = refl;
  half_unbounded = refl;
  thirty_fifth = refl;
  forty = refl;
  thirty_three = refl;
  thirty_two = refl;
  empty = refl;
  backward = refl;
  whole_week = refl;
  past_the_week = refl;
  rates_first = refl;
  range_next = refl;
  touching = refl;
  one_minute = refl;
  within = refl;
  equal = refl;
  no_neighbours = refl;
  overlap_next = refl;
  unbounded = refl;
  no_windows = refl;
  front = refl;
  behind = refl;
  too_many = refl;
  outside_unbounded = refl;
  first_inside = refl;
  end_outside = refl;
  still_inside = refl;
  past = refl;
  week_later = refl;
}
