-- The start: the head that it makes. Definitions only.
use Rattle.std.specs.Prelude.{cond, ℕ, ⊤, List, eqb, length, get_or, replicate, Float, Result, Ok}
use Rattle.std.specs.Float.{binary64}
use Rattle.std.specs.Float.Ieee.{of_bits}
use Rattle.ieee.specs.Doubles.{◌⊘◌, nothing, one}
use Rattle.flow.specs.Flow as flow
use Rattle.flow.specs.Flow.{at, upto, zeros, numbers, dims}
use Rattle.ieee.specs.Extremes.{least}
use Rattle.flow.specs.declared.Bucket.{Bucket}
use Rattle.store.specs.Store.{«CAUSES», Rows}
use Rattle.store.specs.Held.{sizes_of}
use Rattle.parts.specs.Parts.{started}
use Rattle.wants.specs.Wants as wants
use Rattle.wants.specs.Wants.{Hist}
use Rattle.head.specs.declared.Shedder.{Shedder}
use Rattle.head.specs.declared.Refusal.{Refusal}
use Rattle.head.specs.declared.Starting.{Starting}
use Rattle.head.specs.Answers.{refused}
use Rattle.head.specs.Questions.{start_asked}

unfoldable pub buckets : List ℕ → List ℕ → List Bucket
buckets rate ceiling = upto (λ (d : ℕ). flow.opened (get_or rate d 0) (get_or ceiling d 0)) dims (replicate dims (record { tokens = nothing; burst = nothing; rate_per_ms = nothing }))

-- the highest level before the first scan, 10^15
abbrev pub LEVEL_MOST : Float
LEVEL_MOST = of_bits binary64 0x430c_6bf5_2634_0000

unfoldable pub first_levels : List Float → List Float
first_levels rate = upto (λ (d : ℕ). least (at rate d) LEVEL_MOST) dims zeros

unfoldable pub opening : List ℕ → List ℕ → ℕ → ℕ → Shedder
opening rate ceiling units counted = record {
  flow = record { rate = rate; ceiling = ceiling; buckets = buckets rate ceiling; at_ms = 0; admitted = zeros };
  overflow = flow.added 0;
  scan = record {
    remaining = 0;
    next = 0;
    at_ms = 0;
    began_ms = 0;
    trim = replicate dims one;
    «open» = replicate dims (one ⊘ nothing);
    read_ms = 0;
    read_admitted = zeros;
  };
  visits = 0;
  level = first_levels (numbers rate);
  batches = replicate «CAUSES» 0;
  receptions = replicate «CAUSES» 0;
  tracked = 0;
  counted = 0;
  unit_room = units;
  counted_room = counted;
}

-- an answer, the head, the unit records and the histogram
pub record Beginning : Type 0 where
  pub answer : Result ⊤ Refusal
  pub head : Shedder
  pub rows : Rows
  pub hist : Hist

abbrev pub beginning : Starting → Rows → Hist → Beginning
beginning s m g = record { answer = s.answer; head = s.head; rows = m; hist = g }

abbrev pub start_ends : Result ⊤ Refusal → Shedder → Rows → Hist → Beginning
start_ends b h m g = record { answer = b; head = h; rows = m; hist = g }

-- THE START: every part is empty and every slot free, no record is written; a refused one leaves all as it was
unfoldable pub start : Shedder → Rows → List (List ℕ) → Hist → List ℕ → List ℕ → Beginning
start h m counted g rate ceiling =
    cond (eqb (start_asked rate (sizes_of m counted)) 0) (start_ends (Ok tt) (opening rate ceiling (length m.units) (length counted)) (started m) wants.cleared)
    (start_ends (refused (start_asked rate (sizes_of m counted))) h m g)
