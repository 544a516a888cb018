-- The counts of cuts: batches and receptions by cause, and the sources. Definitions only.
use Rattle.std.specs.Prelude.{ℕ, ◌+◌, ◌%◌, ◌^◌, cond, List, ◌++◌, take, drop, slice_index, slice_set}
use Rattle.verdict.specs.Verdict.{is_admitted}
use Rattle.verdict.specs.declared.Verdict.{Verdict}
use Rattle.verdict.specs.declared.Verdict.TheVariants as verdict
use Rattle.sender.specs.declared.Name.{Name}
use Rattle.cut_sources.specs.Counted as counts
use Rattle.head.specs.declared.Shedder.{Shedder}

-- the place of a verdict's cause among the counts (of no use for an admission)
unfoldable pub cause_of : Verdict → ℕ
cause_of verdict.Admitted = 0
cause_of verdict.OverShare = 1
cause_of verdict.RelayRate = 2

-- one count more by so many, modulo 2^64
unfoldable pub upped : List ℕ → ℕ → ℕ → List ℕ
upped xs k by = slice_set xs k ((slice_index xs k + by) % 2 ^ 64)

-- the head with n counted sources, and one batch and so many receptions more for a cause
unfoldable pub added : Shedder → ℕ → ℕ → ℕ → Shedder
added h n cause receptions = record {
  flow = h.flow;
  overflow = h.overflow;
  scan = h.scan;
  visits = h.visits;
  level = h.level;
  batches = upped h.batches cause 1;
  receptions = upped h.receptions cause receptions;
  tracked = h.tracked;
  counted = n;
  unit_room = h.unit_room;
  counted_room = h.counted_room;
}

-- the head, the tags of all records, and the rows of the counted sources
pub record Tally : Type 0 where
  pub head : Shedder
  pub tags : List ℕ
  pub counted : List (List ℕ)

abbrev pub tally : Shedder → List ℕ → List (List ℕ) → Tally
tally h tags rows = record { head = h; tags = tags; counted = rows }

-- the tags of the counted sources stand behind those of the unit records, which stay
abbrev pub source_tags : Tally → List ℕ
source_tags t = drop t.head.unit_room t.tags

-- the counted sources: how many, the tags of all records, the rows
pub record Sourced : Type 0 where
  pub count : ℕ
  pub tags : List ℕ
  pub rows : List (List ℕ)

abbrev pub sources : ℕ → List ℕ → List (List ℕ) → Sourced
sources n tags rows = record { count = n; tags = tags; rows = rows }

abbrev pub sourced_with : List ℕ → List ℕ → counts.Sources → Sourced
sourced_with front own n = sources (counts.pruned n).count (front ++ counts.pruned_tags n own) (counts.pruned n).rows

-- one cut more of the unit named; then the least counted go where the spare row was taken
abbrev pub sourced : ℕ → List ℕ → List (List ℕ) → ℕ → Name → ℕ → Sourced
sourced room tags rows had name cause =
    sourced_with (take room tags) (counts.count_tags (drop room tags) rows had name) (counts.count (drop room tags) rows had name cause)

abbrev pub tallied_by : Tally → ℕ → ℕ → Sourced → Tally
tallied_by t cause receptions s = tally (added t.head s.count cause receptions) s.tags s.rows

-- a cut is counted: in the head under its cause, among the sources under the unit named
unfoldable pub tallied : Tally → Name → ℕ → ℕ → Tally
tallied t name cause receptions =
    tallied_by t cause receptions (sourced t.head.unit_room t.tags t.counted t.head.counted name cause)

-- a verdict that cuts is counted
unfoldable pub count_verdict : Tally → Name → Verdict → List ℕ → Tally
count_verdict t name v cost = cond (is_admitted v) t (tallied t name (cause_of v) (slice_index cost 0))
