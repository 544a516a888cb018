-- Windows at the edges of the questions, and what a plan has for a clock: cases, computed. Statements only; proofs/Cases.antt proves them.
use Rattle.std.specs.Prelude.{◌≡◌, ℕ, zero, suc, ◌+◌, ◌*◌, true, false, cond, List, [], ◌∷◌, eqb}
use Rattle.plan.specs.Plan.{planned, windows_asked, plan_whole}

-- a window of these rates; one of 5 and 50
abbrev pub window : (first end receptions bytes : ℕ) → List ℕ
window first end receptions bytes = first ∷ end ∷ receptions ∷ bytes ∷ []

abbrev pub hours : (first end : ℕ) → List ℕ
hours first end = window first end 5 50

-- n windows of a hundred minutes, the latest first; the k-th of them from the week's beginning has 0 receptions
abbrev pub hundreds : (n k : ℕ) → List (List ℕ)
hundreds zero k = []
hundreds (suc n) k = window (n * 100) (n * 100 + 100) (cond (eqb (suc n) k) 0 5) 50 ∷ hundreds n k

abbrev pub max : ℕ
max = 18446744073709551615

pub record Cases : Type 0 where
  pub none : windows_asked [] ≡ 0
  -- 1: both rates unbounded, or each 1 to 2^40
  pub most : windows_asked (window 0 10 1 1099511627776 ∷ []) ≡ 0
  pub above : windows_asked (window 0 10 1 1099511627777 ∷ []) ≡ 1
  pub nothing : windows_asked (window 0 10 0 50 ∷ []) ≡ 1
  pub half_unbounded : windows_asked (window 0 10 max 50 ∷ []) ≡ 1
  -- behind the 32nd too
  pub thirty_fifth : windows_asked (hundreds 40 35) ≡ 1
  pub forty : windows_asked (hundreds 40 0) ≡ 11
  pub thirty_three : windows_asked (hundreds 33 0) ≡ 11
  pub thirty_two : windows_asked (hundreds 32 0) ≡ 0
  -- 11: before 12 and 10
  pub empty : windows_asked (hours 10 10 ∷ []) ≡ 11
  pub backward : windows_asked (hours 10070 10 ∷ []) ≡ 11
  pub whole_week : windows_asked (hours 0 10080 ∷ []) ≡ 0
  pub past_the_week : windows_asked (hours 0 10081 ∷ []) ≡ 11
  pub rates_first : windows_asked (window 10 10 0 50 ∷ []) ≡ 1
  pub range_next : windows_asked (hours 0 10 ∷ window 0 10 max max ∷ hours 20 20 ∷ []) ≡ 11
  -- 12: touching ones do not overlap, in any order
  pub touching : windows_asked (hours 10 20 ∷ hours 0 10 ∷ []) ≡ 0
  pub one_minute : windows_asked (hours 10 20 ∷ hours 0 11 ∷ []) ≡ 12
  pub within : windows_asked (hours 0 100 ∷ hours 10 11 ∷ []) ≡ 12
  pub equal : windows_asked (hours 0 10 ∷ hours 0 10 ∷ []) ≡ 12
  pub no_neighbours : windows_asked (hours 0 10 ∷ hours 20 30 ∷ hours 9 11 ∷ []) ≡ 12
  pub overlap_next : windows_asked (hours 0 10 ∷ window 0 10 max max ∷ []) ≡ 12
  -- 10
  pub unbounded : windows_asked (hours 0 10 ∷ window 10 20 max max ∷ []) ≡ 10
  -- a relay's plan: the rows behind its windows are not asked
  pub no_windows : plan_whole (max ∷ max ∷ []) 0 (hours 10 10 ∷ []) ≡ true
  pub front : plan_whole (10 ∷ 1000 ∷ []) 1 (hours 0 10 ∷ hours 5 5 ∷ []) ≡ true
  pub behind : plan_whole (10 ∷ 1000 ∷ []) 2 (hours 0 10 ∷ hours 5 5 ∷ []) ≡ false
  pub too_many : plan_whole (10 ∷ 1000 ∷ []) 33 (hundreds 32 0) ≡ false
  pub outside_unbounded : plan_whole (max ∷ max ∷ []) 1 (hours 0 10 ∷ []) ≡ false
  -- the rates for clock 0, which is minute 4320, and for the minute before
  pub first_inside : planned (10 ∷ 1000 ∷ []) 2 (hours 0 4320 ∷ window 4320 4321 7 70 ∷ []) 0 ≡ 7 ∷ 70 ∷ []
  pub end_outside : planned (10 ∷ 1000 ∷ []) 1 (hours 0 4320 ∷ window 4320 4321 7 70 ∷ []) 0 ≡ 10 ∷ 1000 ∷ []
  pub still_inside : planned (10 ∷ 1000 ∷ []) 1 (hours 4320 4321 ∷ []) 59999 ≡ 5 ∷ 50 ∷ []
  pub past : planned (10 ∷ 1000 ∷ []) 1 (hours 4320 4321 ∷ []) 60000 ≡ 10 ∷ 1000 ∷ []
  pub week_later : planned (10 ∷ 1000 ∷ []) 1 (hours 4320 4321 ∷ []) 604800000 ≡ 5 ∷ 50 ∷ []
