-- What holds of the minute and of windows that pass: laws on the definitions. Statements only; proofs/Laws.antt proves them. A law writes its numbers out, so that it refuses a
-- definition with a wrong one, whatever the code does.
use Rattle.std.specs.Prelude.{◌≡◌, ℕ, ◌+◌, ◌*◌, ◌^◌, ◌-◌, ◌<◌, ◌≤◌, ◌≢◌, ◌↔◌, true, List, length, take, get_or}
use Rattle.flow.specs.Flow.{dims}
use Rattle.plan.specs.Plan.{minute, window_at, first_of, end_of, rates_of, holds, planned, is_unbounded, window_rates, apart, windows_asked, plan_whole, ascending}

-- ---- the minute
-- it is one of the week's, the same a week later, and the next a minute later, but at the week's end, which is Monday 00:00
pub record Minutes (clock : ℕ) : Type 0 where
  pub held : minute clock < 10080
  pub weekly : minute (clock + 604800000) ≡ minute clock
  pub turns : minute clock ≡ 10079 → minute (clock + 60000) ≡ 0
  pub next : minute clock < 10079 → minute (clock + 60000) ≡ minute clock + 1

-- 1970-01-01 was a Thursday: that minute, the last of that week, Monday 1970-01-05 00:00, and the last stamp of all
pub record Days : Type 0 where
  pub thursday : minute 0 ≡ 3 * 1440
  pub sunday : minute 345599999 ≡ 10079
  pub monday : minute 345600000 ≡ 0
  pub last : minute (2 ^ 53 - 1) ≡ 3419

-- ---- windows that pass
pub record Passes (ws : List (List ℕ)) : Type 0 where
  pub few : length ws ≤ 32
  -- each has a minute, and ends in the week
  pub spans : (i : ℕ) → i < length ws → (first_of (window_at ws i) < end_of (window_at ws i)) × (end_of (window_at ws i) ≤ 10080)
  -- of two, one ends before the other begins
  pub apart : (i j : ℕ) → i < length ws → j < length ws → i ≢ j → first_of (window_at ws i) < end_of (window_at ws j) → end_of (window_at ws i) ≤ first_of (window_at ws j)
  -- their rates are from 1 to 2^40
  pub rates : (i d : ℕ) → i < length ws → d < 2 → (1 ≤ get_or (rates_of (window_at ws i)) d 0) × (get_or (rates_of (window_at ws i)) d 0 ≤ 2 ^ 40)

-- the tests ask just that
abbrev pub Asked : Type 0
Asked = (ws : List (List ℕ)) → (windows_asked ws ≡ 0) ↔ Passes ws

-- no two windows of the list overlap where the test of pairs says so, in whatever order they stand
abbrev pub Pairs : Type 0
Pairs = (ws : List (List ℕ)) → (apart ws ≡ true)
    ↔ ((i j : ℕ) → i < length ws → j < length ws → i ≢ j → first_of (window_at ws i) < end_of (window_at ws j) → first_of (window_at ws j) < end_of (window_at ws i) → ⊥)

-- the quick test says yes only of windows that pass
abbrev pub Quick : Type 0
Quick = (ws : List (List ℕ)) → ascending ws ≡ true → windows_asked ws ≡ 0

-- at most one of them holds a minute, so that their order does not matter: the plan has the rates of whichever window holds the clock's minute
pub record Alone (ws : List (List ℕ)) : Type 0 where
  pub single : (i j m : ℕ) → i < length ws → j < length ws → holds (window_at ws i) m ≡ true → holds (window_at ws j) m ≡ true → i ≡ j
  pub whichever : (outside : List ℕ) (clock i : ℕ) → i < length ws → holds (window_at ws i) (minute clock) ≡ true → planned outside (length ws) ws clock ≡ rates_of (window_at ws i)

abbrev pub Single : Type 0
Single = (ws : List (List ℕ)) → windows_asked ws ≡ 0 → Alone ws

-- ---- a relay whose plan passes
-- the rates that it sets are rates as at a start, and unbounded exactly if those outside are
pub record Lawful (outside rates : List ℕ) : Type 0 where
  pub held : window_rates rates ≡ true
  pub unbounded : is_unbounded rates ≡ is_unbounded outside

abbrev pub Sets : Type 0
Sets = (outside : List ℕ) (windows : ℕ) (plan : List (List ℕ)) (clock : ℕ) → window_rates outside ≡ true → plan_whole outside windows plan ≡ true → Lawful outside (planned outside windows plan clock)

-- they have a part for each dimension
abbrev pub Parts : Type 0
Parts = (outside : List ℕ) (windows : ℕ) (plan : List (List ℕ)) (clock : ℕ) → length outside ≡ dims → length (planned outside windows plan clock) ≡ dims

-- neither they nor the questions read the rows behind the windows
pub record Front (windows : ℕ) (p q : List (List ℕ)) : Type 0 where
  pub rates : (outside : List ℕ) (clock : ℕ) → planned outside windows p clock ≡ planned outside windows q clock
  pub whole : (outside : List ℕ) → plan_whole outside windows p ≡ plan_whole outside windows q

abbrev pub Behind : Type 0
Behind = (windows : ℕ) (p q : List (List ℕ)) → take windows p ≡ take windows q → Front windows p q
