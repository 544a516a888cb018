-- Document 01's questions 1 to 6 and document 02's 10, the number of the first answered no at each call, and what they show once all are answered yes. Definitions only.
-- Definitions are shut (`unfoldable`): a proof opens the one that it is about.
use Rattle.std.specs.Prelude.{ℕ, ◌+◌, ◌^◌, ◌≤◌, ◌<◌, ◌≡◌, Bool, false, not, ◌&&◌, cond, ◌||◌, List, eqb, leb, ltb, get_or}
use Rattle.flow.specs.Flow.{all, dims, «UNBOUNDED», RATE_MOST}
use Rattle.sender.specs.Sender.{«TABLES»}
use Rattle.shifting.specs.Offsets.{Whole, is_whole}
use Rattle.store.specs.declared.lent.Sizes.{Sizes}
use Rattle.head.specs.declared.Shedder.{Shedder}

-- the highest cost
abbrev pub COST_MOST : ℕ
COST_MOST = 2 ^ 40

-- stamps are below this
abbrev pub STAMP_END : ℕ
STAMP_END = 2 ^ 53

-- units tracked at most
abbrev pub UNITS_TRACKED : ℕ
UNITS_TRACKED = 2 ^ 17

-- sources whose cuts are counted at most, and the records for them: one more is spare
abbrev pub SOURCES_COUNTED : ℕ
SOURCES_COUNTED = 4096

abbrev pub SOURCE_RECORDS : ℕ
SOURCE_RECORDS = SOURCES_COUNTED + 1

-- ---- question 1: both rates u64::MAX (unbounded), or each 1 to 2^40
unfoldable pub is_rate : ℕ → Bool
is_rate r = leb 1 r && leb r RATE_MOST

unfoldable pub is_max : ℕ → Bool
is_max r = eqb r «UNBOUNDED»

unfoldable pub all_rates : List ℕ → Bool
all_rates xs = all (λ (d : ℕ). is_rate (get_or xs d 0)) dims

unfoldable pub is_unbounded : List ℕ → Bool
is_unbounded xs = all (λ (d : ℕ). is_max (get_or xs d 0)) dims

abbrev pub rates_whole : List ℕ → Bool
rates_whole rate = is_unbounded rate || all_rates rate

-- ---- question 2: 1 to 131,072 unit records, 2 to 4,097 counted records; in question 3 also: no more in use than there are, the last counted one spare
unfoldable pub rooms_whole : ℕ → ℕ → ℕ → ℕ → Bool
rooms_whole u c tracked counted =
    cond (ltb u 1) false (cond (ltb UNITS_TRACKED u) false (cond (ltb c 2) false (cond (ltb SOURCE_RECORDS c) false (cond (ltb u tracked) false (ltb counted c)))))

-- a tag for each record: those of the unit records, then those of the counted records
unfoldable pub tags_whole : Sizes → Bool
tags_whole s = eqb s.tags (s.units + s.counted)

-- of the index, of the free slots and of both rows one for each record
unfoldable pub slots_whole : Sizes → Bool
slots_whole s = eqb s.slots s.units && (eqb s.free s.units && eqb s.uses s.units)

-- by the lengths of the lent slices
unfoldable pub sizes_whole : Sizes → Bool
sizes_whole s = tags_whole s && (slots_whole s && rooms_whole s.units s.counted 0 0)

-- ---- question 3: the head is whole
-- at most 2^53 − 1
unfoldable pub is_stamp : ℕ → Bool
is_stamp t = ltb t STAMP_END

-- question 6
unfoldable pub stamp_asked : ℕ → ℕ
stamp_asked t = cond (is_stamp t) 0 6

unfoldable pub stamps_whole : ℕ → ℕ → ℕ → ℕ → Bool
stamps_whole a b c d = (is_stamp a && is_stamp b) && (is_stamp c && is_stamp d)

-- remaining + next = TABLES, or both 0
unfoldable pub tables_whole : ℕ → ℕ → Bool
tables_whole remaining next = leb remaining «TABLES» && (leb next «TABLES» && (eqb (remaining + next) «TABLES» || eqb (remaining + next) 0))

unfoldable pub head_whole : Shedder → Bool
head_whole h =
    (rates_whole h.flow.rate && stamps_whole h.flow.at_ms h.scan.at_ms h.scan.began_ms h.scan.read_ms)
    && (tables_whole h.scan.remaining h.scan.next && rooms_whole h.unit_room h.counted_room h.tracked h.counted)

-- with the offsets, which are lent beside it and count as its part: they begin at 0, never fall and end at the number of records in use
unfoldable pub whole_with : Shedder → List ℕ → Bool
whole_with h os = head_whole h && is_whole os h.tracked

-- ---- question 4: the lent slices have the capacities noted at the start
unfoldable pub memory_whole : Shedder → Sizes → Bool
memory_whole h s = tags_whole s && (slots_whole s && (eqb s.units h.unit_room && eqb s.counted h.counted_room))

-- ---- question 5: each cost is at most 2^40 (question 6 is `is_stamp` of the stamp)
unfoldable pub costs_held : List ℕ → Bool
costs_held xs = all (λ (d : ℕ). leb (get_or xs d 0) COST_MOST) dims

-- ---- question 10: the running rates and the new ones are bounded
unfoldable pub both_bounded : List ℕ → List ℕ → Bool
both_bounded running rate = not (is_unbounded running) && not (is_unbounded rate)

-- ---- the number of the first question answered no, else 0: at a start, a judgement, a cut, a call of new rates, a reading; by the lengths of the lent slices and the offsets
unfoldable pub start_asked : List ℕ → Sizes → ℕ
start_asked rate s = cond (rates_whole rate) (cond (sizes_whole s) 0 2) 1

unfoldable pub judge_asked : Shedder → Sizes → List ℕ → List ℕ → ℕ → ℕ
judge_asked h s os cost stamp = cond (whole_with h os) (cond (memory_whole h s) (cond (costs_held cost) (cond (is_stamp stamp) 0 6) 5) 4) 3

unfoldable pub cut_asked : Shedder → Sizes → List ℕ → List ℕ → ℕ
cut_asked h s os cost = cond (whole_with h os) (cond (memory_whole h s) (cond (costs_held cost) 0 5) 4) 3

unfoldable pub rates_asked : Shedder → Sizes → List ℕ → List ℕ → ℕ → ℕ
rates_asked h s os rate stamp =
    cond (whole_with h os) (cond (memory_whole h s) (cond (rates_whole rate) (cond (is_stamp stamp) (cond (both_bounded h.flow.rate rate) 0 10) 6) 1) 4) 3

unfoldable pub read_asked : Shedder → List ℕ → ℕ
read_asked h os = cond (whole_with h os) 0 3

-- ---- what the questions have shown, for the calls behind them
pub record CutReady (h : Shedder) (s : Sizes) (os : List ℕ) : Type 0 where
  pub some : 1 ≤ h.unit_room
  pub most : h.unit_room ≤ UNITS_TRACKED
  pub tags_room : s.tags ≡ h.unit_room + s.counted
  pub slots_room : s.slots ≡ h.unit_room
  pub free_room : s.free ≡ h.unit_room
  pub units_room : s.units ≡ h.unit_room
  pub uses_room : s.uses ≡ h.unit_room
  pub tracked_held : h.tracked ≤ h.unit_room
  pub counted_held : h.counted < s.counted
  pub parts : Whole os h.tracked

-- a judgement: what a cut is shown, and more
pub record Ready (h : Shedder) (s : Sizes) (os : List ℕ) (stamp : ℕ) : Type 0 where
  pub cut : CutReady h s os
  pub stamp_held : stamp < STAMP_END
  pub clock_held : h.flow.at_ms < STAMP_END
  pub began_held : h.scan.began_ms < STAMP_END
  pub tables_held : h.scan.remaining + h.scan.next ≤ «TABLES»
