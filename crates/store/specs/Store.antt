-- Rows of lent memory: where a record's parts lie, and places found. Definitions only.
use Rattle.std.specs.Prelude.{ℕ, zero, suc, ◌+◌, ◌-◌, ◌<◌, ◌≤◌, ◌≡◌, Bool, false, cond, List, [], eqb, ltb, get_or, set, replicate, Float}
use Rattle.ieee.specs.Doubles.{nothing}
use Rattle.flow.specs.Flow.{at, upto, dims}
use Rattle.flow.specs.declared.Use.{Use}
use Rattle.sender.specs.declared.Name.{Name}
use Rattle.sender.specs.declared.Unit.{Unit}
use Rattle.sender.specs.declared.Words.{Words}
use Rattle.sender.specs.Sender as sender
unfoldable pub use Rattle.sender.specs.Sender.{same}

-- causes of a cut
abbrev pub «CAUSES» : ℕ
«CAUSES» = 3

-- the lent lists of the unit records. Their order is that of an index, the first entries of tags and slots, table by table; the part of a table begins and ends at
-- its offsets. A record's rows stay in its slot; the slots that no entry names are the first of free, the next one last. Behind the room the tags go on
pub record Rows : Type 0 where
  pub tags : List ℕ
  pub slots : List ℕ
  pub offsets : List ℕ
  pub free : List ℕ
  pub units : List (List ℕ)
  pub uses : List (List Float)

abbrev pub rows : List ℕ → List ℕ → List ℕ → List ℕ → List (List ℕ) → List (List Float) → Rows
rows tags slots offsets free units uses = record { tags = tags; slots = slots; offsets = offsets; free = free; units = units; uses = uses }

-- the same with other tags
abbrev pub with_tags : Rows → List ℕ → Rows
with_tags m tags = rows tags m.slots m.offsets m.free m.units m.uses

-- a record: its tag, and its rows. The words are the kind, four words of the unit, the stamp, the fresh mark
pub record Record : Type 0 where
  pub tag : ℕ
  pub words : List ℕ
  pub floats : List Float

-- ---- a use as floats
unfoldable pub part : List Float → ℕ → List Float
part row from = upto (λ (d : ℕ). at row (from + d)) dims (replicate dims nothing)

unfoldable pub picked : List Float → List Float → ℕ → Float
picked a b i = cond (ltb i dims) (at a i) (at b (i - dims))

unfoldable pub joined : List Float → List Float → List Float
joined a b = upto (picked a b) (dims + dims) (replicate (dims + dims) nothing)

-- ---- a record
abbrev pub unit_row : List (List ℕ) → ℕ → List ℕ
unit_row units i = get_or units i []

-- the unit that a row names by its first five words; a counted source's row begins so too
unfoldable pub words_at : List (List ℕ) → ℕ → Words
words_at units i = record {
  kind = get_or (unit_row units i) 0 0;
  a = get_or (unit_row units i) 1 0;
  b = get_or (unit_row units i) 2 0;
  c = get_or (unit_row units i) 3 0;
  d = get_or (unit_row units i) 4 0;
}

-- the name that the tag and the row at i make: a counted record's, whose row stands at its tag's place
abbrev pub name_at : List ℕ → List (List ℕ) → ℕ → Name
name_at tags units i = record { tag = get_or tags i 0; words = words_at units i }

-- the unit that it reads as
unfoldable pub unit_at : List ℕ → List (List ℕ) → ℕ → Unit
unit_at tags units i = sender.reads (name_at tags units i)

unfoldable pub stamp_at : List (List ℕ) → ℕ → ℕ
stamp_at units i = get_or (unit_row units i) 5 0

unfoldable pub use_at : List (List ℕ) → List (List Float) → ℕ → Use
use_at units uses i = record {
  attempted = part (get_or uses i []) 0;
  credit = part (get_or uses i []) dims;
  at_ms = get_or (unit_row units i) 5 0;
  fresh = get_or (unit_row units i) 6 0;
}

-- the use put into the rows at i, whose unit stays
unfoldable pub units_put : List (List ℕ) → ℕ → Use → List (List ℕ)
units_put units i u = set units i (set (set (unit_row units i) 5 u.at_ms) 6 u.fresh)

unfoldable pub uses_put : List (List Float) → ℕ → Use → List (List Float)
uses_put uses i u = set uses i (joined u.attempted u.credit)

-- ---- find
-- the first of n at which p holds, else n
unfoldable pub first : (ℕ → Bool) → ℕ → ℕ
first p zero = zero
first p (suc n) = cond (ltb (first p n) n) (first p n) (cond (p n) n (suc n))

-- p holds at none of the places from i up to j
abbrev pub None : (ℕ → Bool) → ℕ → ℕ → Type 0
None p i j = (k : ℕ) → i ≤ k → k < j → p k ≡ false

unfoldable pub has_tag : List ℕ → ℕ → ℕ → Bool
has_tag tags tag i = eqb (get_or tags i 0) tag
