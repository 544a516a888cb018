-- The unit records table by table in order of arrival. The order is that of an index: an entry is a tag and a slot. A record's rows stay in
-- the slot where they were put. Definitions only.
use Rattle.std.specs.Prelude.{ℕ, suc, ◌+◌, ◌-◌, ◌*◌, Bool, cond, not, ◌&&◌, List, [], ◌∷◌, ◌++◌, Option, ltb, length, get_or, set, replicate, Float}
use Rattle.ieee.specs.Doubles.{nothing}
use Rattle.flow.specs.Flow.{dims, WINDOW_MS}
use Rattle.flow.specs.declared.Use.{Use}
use Rattle.sender.specs.declared.Name.{Name}
use Rattle.sender.specs.declared.Words.{Words}
use Rattle.sender.specs.Sender.{table_of_tag}
use Rattle.store.specs.Store.{same, words_at, has_tag, stamp_at, use_at, units_put, uses_put, joined, first}
pub use Rattle.store.specs.Store.{Rows, rows}
use Rattle.store.specs.Found.{found}
use Rattle.shifting.specs.Shifting.{over, part, inserted, down}
use Rattle.shifting.specs.Offsets.{from_on, «PARTS»}

-- where the part of a table begins, and where it ends
abbrev pub begin : Rows → ℕ → ℕ
begin m table = get_or m.offsets table 0

abbrev pub end : Rows → ℕ → ℕ
end m table = get_or m.offsets (table + 1) 0

-- the slot that an entry names; one that there is not reads as slot 0
abbrev pub slot_of : ℕ → ℕ → ℕ
slot_of entry room = cond (ltb entry room) entry 0

abbrev pub slot_at : Rows → ℕ → ℕ
slot_at m i = slot_of (get_or m.slots i 0) (length m.units)

-- ---- a use
unfoldable pub use_of : Rows → ℕ → Use
use_of m i = use_at m.units m.uses (slot_at m i)

unfoldable pub stamp_of : Rows → ℕ → ℕ
stamp_of m i = stamp_at m.units (slot_at m i)

-- the use put into the record at i
unfoldable pub put : Rows → ℕ → Use → Rows
put m i u = record {
  tags = m.tags;
  slots = m.slots;
  offsets = m.offsets;
  free = m.free;
  units = units_put m.units (slot_at m i) u;
  uses = uses_put m.uses (slot_at m i) u;
}

-- ---- find
-- the record of the entry at i has these words
abbrev pub has_words : List ℕ → List (List ℕ) → Words → ℕ → Bool
has_words slots units words i = same (words_at units (slot_of (get_or slots i 0) (length units))) words

-- the record at i is the unit's: tag and words
unfoldable pub is_at : Rows → Name → ℕ → Bool
is_at m name i = has_tag m.tags name.tag i && has_words m.slots m.units name.words i

-- of entries that have these tags, and whose slots begin at `from`, the first that is the unit's
unfoldable pub find_among : List ℕ → List ℕ → List (List ℕ) → ℕ → Name → Option ℕ
find_among tags slots units from name =
    found (length tags) (first (λ (k : ℕ). has_tag tags name.tag k && has_words slots units name.words (from + k)) (length tags))

-- the first entry from `from` up to `to` that is the unit's
unfoldable pub find_within : List ℕ → List ℕ → List (List ℕ) → ℕ → ℕ → Name → Option ℕ
find_within tags slots units from to name =
    found to (from + first (λ (k : ℕ). has_tag tags name.tag (from + k) && has_words slots units name.words (from + k)) (to - from))

-- the unit's record in the part of its table
unfoldable pub find : Rows → Name → Option ℕ
find m name = find_within m.tags m.slots m.units (begin m (table_of_tag name.tag)) (end m (table_of_tag name.tag)) name

-- ---- a record comes in
-- the slot that is taken next, with n entries
abbrev pub top : Rows → ℕ → ℕ
top m n = get_or m.free (length m.units - n - 1) 0

-- the rows of a record
abbrev pub words_of : Name → Use → List ℕ
words_of name u = name.words.kind ∷ name.words.a ∷ name.words.b ∷ name.words.c ∷ name.words.d ∷ u.at_ms ∷ u.fresh ∷ []

abbrev pub floats_of : Use → List Float
floats_of u = joined u.attempted u.credit

-- they are written to a slot
abbrev pub written : Rows → ℕ → Name → Use → Rows
written m slot name u = record {
  tags = m.tags;
  slots = m.slots;
  offsets = m.offsets;
  free = m.free;
  units = set m.units slot (words_of name u);
  uses = set m.uses slot (floats_of u);
}

-- the record of a unit comes in at the end of the part of its table, in the slot that is taken next; there were n
unfoldable pub added : Rows → ℕ → Name → Use → Rows
added m n name u = record {
  tags = inserted m.tags (end m (table_of_tag name.tag)) n name.tag;
  slots = inserted m.slots (end m (table_of_tag name.tag)) n (top m n);
  offsets = from_on (λ (o : ℕ). o + 1) m.offsets (table_of_tag name.tag + 1);
  free = m.free;
  units = set m.units (slot_of (top m n) (length m.units)) (words_of name u);
  uses = set m.uses (slot_of (top m n) (length m.units)) (floats_of u);
}

-- ---- stale records leave
-- how long a unit that sends nothing stays tracked
abbrev pub RETAIN_MS : ℕ
RETAIN_MS = 4 * WINDOW_MS

-- the record that an entry names is older than that
unfoldable pub is_stale : List (List ℕ) → ℕ → ℕ → Bool
is_stale units at_ms entry = ltb RETAIN_MS (at_ms - stamp_at units (slot_of entry (length units)))

-- the entry at i goes, or stays
unfoldable pub goes : List ℕ → List (List ℕ) → ℕ → ℕ → Bool
goes slots units at_ms i = is_stale units at_ms (get_or slots i 0)

unfoldable pub stays : List ℕ → List (List ℕ) → ℕ → ℕ → Bool
stays slots units at_ms i = not (goes slots units at_ms i)

-- of xs, which stand from place i on, those at whose place p holds
unfoldable pub those : {A : Type 0} → (ℕ → Bool) → ℕ → List A → List A
those p i [] = []
those p i (x ∷ xs) = cond (p i) (x ∷ those p (suc i) xs) (those p (suc i) xs)

-- the slots of a part whose records are stale
unfoldable pub gone : Rows → ℕ → ℕ → List ℕ
gone m table at_ms = those (goes m.slots m.units at_ms) (begin m table) (part m.slots (begin m table) (end m table))

-- what stands at a place of the index that becomes free
abbrev pub no_entry : ℕ
no_entry = 0

-- of the entries from `from` to `to` those stay at which p holds, those up to n come down behind them, and the places that are then free
-- hold no entry
unfoldable pub squeezed : (ℕ → Bool) → List ℕ → ℕ → ℕ → ℕ → List ℕ
squeezed p xs from to n =
    over xs from (those p from (part xs from to) ++ part xs to n ++ replicate (to - (from + length (those p from (part xs from to)))) no_entry)

-- the rows in the slots that the entries name become z, one after the other
unfoldable pub cleared : {A : Type 0} → A → List A → List ℕ → List A
cleared z rows [] = rows
cleared z rows (e ∷ es) = cleared z (set rows (slot_of e (length rows)) z) es

abbrev pub no_words : List ℕ
no_words = replicate 7 0

abbrev pub no_floats : List Float
no_floats = replicate (dims + dims) nothing

-- the stale records of a part are dropped: their slots are free, the last of the part taken next, and zero bits; there were n
unfoldable pub dropped : Rows → ℕ → ℕ → ℕ → Rows
dropped m n table at_ms = record {
  tags = squeezed (stays m.slots m.units at_ms) m.tags (begin m table) (end m table) n;
  slots = squeezed (stays m.slots m.units at_ms) m.slots (begin m table) (end m table) n;
  offsets = from_on (λ (o : ℕ). o - length (gone m table at_ms)) m.offsets (table + 1);
  free = over m.free (length m.units - n) (gone m table at_ms);
  units = cleared no_words m.units (gone m table at_ms);
  uses = cleared no_floats m.uses (gone m table at_ms);
}

-- how many are left of n
abbrev pub left : Rows → ℕ → ℕ → ℕ → ℕ
left m n table at_ms = n - length (gone m table at_ms)

-- ---- one turn of the pass that drops
pub record Sifting : Type 0 where
  pub count : ℕ
  pub tags : List ℕ
  pub slots : List ℕ
  pub free : List ℕ

abbrev pub sifting : ℕ → List ℕ → List ℕ → List ℕ → Sifting
sifting n ts xs fs = record { count = n; tags = ts; slots = xs; free = fs }

-- the entry at i: its slot to the free ones behind f where its record is stale, else down to the end of those that stay
unfoldable pub sift_one : Sifting → List (List ℕ) → ℕ → ℕ → ℕ → Sifting
sift_one s units i f at_ms =
    cond (is_stale units at_ms (get_or s.slots i 0)) (sifting s.count s.tags s.slots (set s.free (f + (i - s.count)) (get_or s.slots i 0)))
    (sifting (s.count + 1) (set s.tags s.count (get_or s.tags i 0)) (set s.slots s.count (get_or s.slots i 0)) s.free)

abbrev pub laid : (ℕ → Bool) → List ℕ → ℕ → ℕ → List ℕ
laid p xs from to = over xs from (those p from (part xs from to))

-- the entries from `from` to `to`
unfoldable pub sifted : List ℕ → List ℕ → List ℕ → List (List ℕ) → ℕ → ℕ → ℕ → ℕ → Sifting
sifted ts xs fs units from to f at_ms =
    sifting (from + length (those (stays xs units at_ms) from (part xs from to))) (laid (stays xs units at_ms) ts from to) (laid (stays xs units at_ms) xs from to)
    (over fs f (those (goes xs units at_ms) from (part xs from to)))

-- the rows in the slot that the free place k names are zero bits
abbrev pub cleared_one : Rows → ℕ → Rows
cleared_one m k = record {
  tags = m.tags;
  slots = m.slots;
  offsets = m.offsets;
  free = m.free;
  units = set m.units (slot_of (get_or m.free k 0) (length m.units)) no_words;
  uses = set m.uses (slot_of (get_or m.free k 0) (length m.units)) no_floats;
}

-- those of the free places from a up to b
unfoldable pub cleared_rows : Rows → ℕ → ℕ → Rows
cleared_rows m a b = record {
  tags = m.tags;
  slots = m.slots;
  offsets = m.offsets;
  free = m.free;
  units = cleared no_words m.units (part m.free a b);
  uses = cleared no_floats m.uses (part m.free a b);
}

-- ---- a start
-- the offsets of parts that are all empty
abbrev pub none_begun : List ℕ
none_begun = replicate («PARTS» + 1) 0

-- every slot is free, the lowest taken first; no record is written
unfoldable pub started : Rows → Rows
started m = record { tags = m.tags; slots = m.slots; offsets = none_begun; free = down (length m.free); units = m.units; uses = m.uses }
