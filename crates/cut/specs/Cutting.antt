-- A cut made elsewhere: counted, and handed back where it was for the receiver's ceiling. No refill, fade, clock or scan. Definitions only.
use Rattle.std.specs.Prelude.{ℕ, Bool, false, cond, List, eqb, get_or, Float, ⊤, Result, Ok}
use Rattle.ieee.specs.Doubles.{◌⊖◌, nothing}
use Rattle.ieee.specs.Extremes.{most}
use Rattle.flow.specs.Flow as flow
use Rattle.flow.specs.Flow.{at, upto, zeros, dims}
use Rattle.sender.specs.declared.Unit as unit
use Rattle.sender.specs.declared.Name.{Name}
use Rattle.sender.specs.Sender as sender
use Rattle.store.specs.Store.{Rows, with_tags}
use Rattle.store.specs.Held.{sizes_of}
use Rattle.head.specs.declared.Flow.{Flow}
use Rattle.head.specs.declared.Shedder.{Shedder}
use Rattle.store.specs.declared.Cause.{Cause}
use Rattle.head.specs.declared.Refusal.{Refusal}
use Rattle.head.specs.Answers.{refused}
use Rattle.cut.specs.declared.Cutting.{Cutting}
use Rattle.head.specs.Questions.{is_unbounded, cut_asked}
use Rattle.head.specs.Readings.{index_of}
use Rattle.store_entry.specs.Entering.{Entered, entry, used_at, Back, put_back}
use Rattle.head.specs.Headed.{headed}
use Rattle.cut_counts.specs.Counting.{Tally, tally, tallied}

-- a bounded relay hands back a cut for the receiver's ceiling
unfoldable pub hands_back : List ℕ → Cause → Bool
hands_back rate c = cond (is_unbounded rate) false (eqb (index_of c) 0)

-- what was admitted, less this cost, down to 0
unfoldable pub lowered : List Float → List Float → List Float
lowered xs cost = upto (λ (d : ℕ). most (at xs d ⊖ at cost d) nothing) dims zeros

-- tokens go back up to the burst; the clock stays
unfoldable pub flowed_back : Flow → List Float → Flow
flowed_back f cost = record { rate = f.rate; ceiling = f.ceiling; buckets = flow.returned_all f.buckets cost; at_ms = f.at_ms; admitted = lowered f.admitted cost }

-- the head and the unit records
pub record KeptBy : Type 0 where
  pub head : Shedder
  pub rows : Rows

abbrev pub kept_by : Shedder → Rows → KeptBy
kept_by h m = record { head = h; rows = m }

abbrev pub handed_with : Shedder → List Float → Entered → Back → KeptBy
handed_with h cost e b = kept_by (headed h (flowed_back h.flow cost) b.overflow e.place.tracked) b.rows

abbrev pub handed_at : Shedder → List Float → Entered → KeptBy
handed_at h cost e =
    handed_with h cost e (put_back e.rows h.overflow e.place.at (flow.handed_back (used_at e.rows h.overflow e.place.at) cost))

-- all of a batch is handed back: tokens, attempted and credit of the record that the cut uses, a new one stamped with the clock
unfoldable pub handed_back : KeptBy → unit.Unit → List Float → KeptBy
handed_back s u cost = handed_at s.head cost (entry s.rows s.head.tracked s.head.unit_room u s.head.flow.at_ms)

-- an answer, the head, the unit records and the counted records
pub record Cut : Type 0 where
  pub answer : Result ⊤ Refusal
  pub head : Shedder
  pub rows : Rows
  pub counted : List (List ℕ)

abbrev pub cutting : Cutting → Rows → List (List ℕ) → Cut
cutting c m k = record { answer = c.answer; head = c.head; rows = m; counted = k }

abbrev pub cut_ends : Result ⊤ Refusal → Shedder → Rows → List (List ℕ) → Cut
cut_ends a h m k = record { answer = a; head = h; rows = m; counted = k }

-- an answer, the head, the tags of all records and the counted records
pub record Noted : Type 0 where
  pub answer : Result ⊤ Refusal
  pub head : Shedder
  pub tags : List ℕ
  pub counted : List (List ℕ)

abbrev pub noting : Cutting → List ℕ → List (List ℕ) → Noted
noting c tags k = record { answer = c.answer; head = c.head; tags = tags; counted = k }

abbrev pub noted_as : Tally → Noted
noted_as t = record { answer = Ok tt; head = t.head; tags = t.tags; counted = t.counted }

-- the cut counted, under the unit named
unfoldable pub noted : Tally → Name → Cause → List ℕ → Noted
noted t name c cost = noted_as (tallied t name (index_of c) (get_or cost 0 0))

abbrev pub cut_noted : Rows → Noted → Cut
cut_noted m n = cut_ends n.answer n.head (with_tags m n.tags) n.counted

abbrev pub cut_after : List (List ℕ) → unit.Unit → Cause → List ℕ → KeptBy → Cut
cut_after k u c cost s = cut_noted s.rows (noted (tally s.head s.rows.tags k) (sender.name_of u) c cost)

-- THE CUT: the first question answered no gives its number and nothing changes
unfoldable pub cut : Shedder → Rows → List (List ℕ) → unit.Unit → Cause → List ℕ → Cut
cut h m k u c cost =
    cond (eqb (cut_asked h (sizes_of m k) m.offsets cost) 0)
    (cond (hands_back h.flow.rate c) (cut_after k u c cost (handed_back (kept_by h m) u (flow.numbers cost))) (cut_after k u c cost (kept_by h m)))
    (cut_ends (refused (cut_asked h (sizes_of m k) m.offsets cost)) h m k)
