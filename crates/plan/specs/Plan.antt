-- Collection hours: the minute of the week, the rates that a plan has for it, and what is asked of a plan. Definitions only.
-- A window is a list of numbers: its first minute, its end, and its rates. The first minute is inside, the end is outside.
use Rattle.std.specs.Prelude.{ℕ, zero, suc, ◌+◌, ◌/◌, ◌%◌, min, Bool, not, cond, ◌&&◌, ◌||◌, List, [], ◌∷◌, length, take, replicate, eqb, leb, ltb, get_or, ⊤, Result, Ok, Err}
use Rattle.flow.specs.Flow.{dims, upto, all, RATE_MOST, «UNBOUNDED»}
use Rattle.plan.specs.declared.Fault.{Fault}
use Rattle.plan.specs.declared.Fault.TheVariants.{Rates, Range, Overlap, Unbounded}

-- windows at most
abbrev pub «WINDOWS» : ℕ
«WINDOWS» = 32

-- milliseconds of a minute; minutes of a week; minutes from Monday to Thursday, three days
abbrev pub MINUTE_MS : ℕ
MINUTE_MS = 60000

abbrev pub WEEK : ℕ
WEEK = 10080

abbrev pub «THURSDAY» : ℕ
«THURSDAY» = 4320

-- ---- the minute of the week at a clock: minutes count from Monday 00:00 UTC, clocks from 1970-01-01 00:00 UTC, a Thursday
unfoldable pub minute : (clock : ℕ) → ℕ
minute clock = (clock / MINUTE_MS + «THURSDAY») % WEEK

-- ---- a window
abbrev pub window_at : List (List ℕ) → ℕ → List ℕ
window_at ws i = get_or ws i []

abbrev pub first_of : List ℕ → ℕ
first_of w = get_or w 0 0

abbrev pub end_of : List ℕ → ℕ
end_of w = get_or w 1 0

unfoldable pub rates_of : List ℕ → List ℕ
rates_of w = upto (λ d. get_or w (2 + d) 0) dims (replicate dims 0)

-- the minute m is inside
unfoldable pub holds : List ℕ → (m : ℕ) → Bool
holds w m = leb (first_of w) m && ltb m (end_of w)

-- ---- the rates that a plan has for a clock: those of the first of its windows that holds the minute, else those outside.
-- The plan has `windows` windows; the rows behind them are not read.
unfoldable pub first_holding : (outside : List ℕ) → List (List ℕ) → (m : ℕ) → List ℕ
first_holding outside [] m = outside
first_holding outside (w ∷ ws) m = cond (holds w m) (rates_of w) (first_holding outside ws m)

unfoldable pub planned : (outside : List ℕ) (windows : ℕ) (plan : List (List ℕ)) (clock : ℕ) → List ℕ
planned outside windows plan clock = first_holding outside (take (min windows «WINDOWS») plan) (minute clock)

-- ---- what is asked of windows, of any number
-- each of them passes the test p
abbrev pub each_window : (p : List ℕ → Bool) → List (List ℕ) → Bool
each_window p ws = all (λ i. p (window_at ws i)) (length ws)

-- rates: both u64::MAX (unbounded), or each 1 to 2^40
unfoldable pub is_unbounded : List ℕ → Bool
is_unbounded rates = all (λ d. eqb (get_or rates d 0) «UNBOUNDED») dims

unfoldable pub is_bounded : List ℕ → Bool
is_bounded rates = all (λ d. leb 1 (get_or rates d 0) && leb (get_or rates d 0) RATE_MOST) dims

unfoldable pub window_rates : List ℕ → Bool
window_rates rates = is_unbounded rates || is_bounded rates

-- 1: of each window
unfoldable pub rates_held : List (List ℕ) → Bool
rates_held ws = each_window (λ w. window_rates (rates_of w)) ws

-- 11: there are 32 at most; each begins before its end, which is in the week or at the end of it
unfoldable pub is_span : List ℕ → Bool
is_span w = ltb (first_of w) (end_of w) && leb (end_of w) WEEK

unfoldable pub in_range : List (List ℕ) → Bool
in_range ws = leb (length ws) «WINDOWS» && each_window is_span ws

-- 12: no two overlap. Two that touch, the end of one being the first minute of the other, do not
unfoldable pub overlap : List ℕ → List ℕ → Bool
overlap v w = ltb (first_of v) (end_of w) && ltb (first_of w) (end_of v)

-- the window w overlaps none of these; each overlaps none of those before it
unfoldable pub is_apart : List (List ℕ) → List ℕ → Bool
is_apart vs w = each_window (λ v. not (overlap v w)) vs

unfoldable pub apart : List (List ℕ) → Bool
apart ws = all (λ j. is_apart (take j ws) (window_at ws j)) (length ws)

-- 10: no window's rates are unbounded
unfoldable pub none_unbounded : List (List ℕ) → Bool
none_unbounded ws = each_window (λ w. not (is_unbounded (rates_of w))) ws

-- the number of the first question answered no, in the order 1, 11, 12, 10; else 0
unfoldable pub windows_asked : List (List ℕ) → ℕ
windows_asked ws = cond (rates_held ws) (cond (in_range ws) (cond (apart ws) (cond (none_unbounded ws) 0 10) 12) 11) 1

-- the number of a fault, and of an answer
unfoldable pub fault_number : Fault → ℕ
fault_number Rates = 1
fault_number Range = 11
fault_number Overlap = 12
fault_number Unbounded = 10

unfoldable pub number_of : Result ⊤ Fault → ℕ
number_of (Ok x) = 0
number_of (Err f) = fault_number f

-- ---- what is asked of a relay's plan: it has no windows, or the rates outside are bounded and its windows pass. Nothing is asked of the rows behind them
unfoldable pub plan_whole : (outside : List ℕ) (windows : ℕ) (plan : List (List ℕ)) → Bool
plan_whole outside windows plan =
    eqb windows 0 || (leb windows «WINDOWS» && (not (is_unbounded outside) && eqb (windows_asked (take windows plan)) 0))

-- ---- the quick test: at most 32 windows in ascending order, none of them unbounded, each from where the one before ended or later, the last ending in the week. It says yes
-- only of windows that pass (specs/Laws); where it says no, the questions are asked one by one
abbrev pub end_before : List (List ℕ) → ℕ → ℕ
end_before ws zero = 0
end_before ws (suc i) = end_of (window_at ws i)

unfoldable pub follows : (last : ℕ) → List ℕ → Bool
follows last w = leb last (first_of w) && (ltb (first_of w) (end_of w) && is_bounded (rates_of w))

unfoldable pub ascending : List (List ℕ) → Bool
ascending ws = leb (length ws) «WINDOWS» && (all (λ i. follows (end_before ws i) (window_at ws i)) (length ws) && leb (end_before ws (length ws)) WEEK)
