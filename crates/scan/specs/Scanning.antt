-- A scan: when it begins, its visits, two tables a judgement, and its end. Definitions only.
use Rattle.std.specs.Prelude.{ℕ, ◌+◌, ◌-◌, ◌/◌, ◌%◌, ◌^◌, Bool, false, cond, ◌==◌, nat_le, nat_lt}
use Rattle.sender.specs.Sender.{«TABLES»}
use Rattle.parts.specs.Parts.{Rows, dropped, left}
use Rattle.wants.specs.Wants as wants
use Rattle.wants.specs.Wants.{Hist}
use Rattle.head.specs.declared.Shedder.{Shedder}
use Rattle.scan_visit.specs.Visiting.{visit_with}
use Rattle.scan_trim.specs.Trimming.{scan_then, trimmed}

-- how often the level is found again: a scan begins every quarter of this
abbrev pub ACTIVE_MS : ℕ
ACTIVE_MS = 2000

abbrev pub SCAN_MS : ℕ
SCAN_MS = ACTIVE_MS / 4

-- what a scan works on
pub record Scanning : Type 0 where
  pub head : Shedder
  pub rows : Rows
  pub hist : Hist

abbrev pub scanning : Shedder → Rows → Hist → Scanning
scanning h m g = record { head = h; rows = m; hist = g }

-- a table more was visited, and n records are left; `visited` counts modulo 2^64
unfoldable pub visited : Shedder → ℕ → Shedder
visited h n = scan_then h (record {
  remaining = h.scan.remaining - 1;
  next = h.scan.next + 1;
  at_ms = h.scan.at_ms;
  began_ms = h.scan.began_ms;
  trim = h.scan.trim;
  «open» = h.scan.«open»;
  read_ms = h.scan.read_ms;
  read_admitted = h.scan.read_admitted;
}) n ((h.visits + 1) % 2 ^ 64) h.level

-- with so many records left, and the rows
abbrev pub visit_to : Scanning → ℕ → Rows → Scanning
visit_to s n m = scanning (visited s.head n) m (visit_with m s.head.overflow s.head.scan.next s.head.scan.at_ms s.hist)

-- a visit of the next table: the stale records of its part are dropped; overflow's want is added first at table 0, then the wants of those kept
unfoldable pub visit : Scanning → Scanning
visit s =
    visit_to s (left s.rows s.head.tracked s.head.scan.next s.head.scan.at_ms)
    (dropped s.rows s.head.tracked s.head.scan.next s.head.scan.at_ms)

-- the second visit of a judgement, where a table remains
unfoldable pub again : Scanning → Scanning
again s = cond (nat_le 1 s.head.scan.remaining) (visit s) s

-- the last table was visited: the level is set
unfoldable pub ended : Shedder → Hist → Shedder
ended h g = cond (h.scan.remaining == 0) (trimmed h g) h

-- a scan begins at the clock
unfoldable pub opened : Shedder → ℕ → Shedder
opened h clock = scan_then h (record {
  remaining = «TABLES»;
  next = 0;
  at_ms = clock;
  began_ms = clock;
  trim = h.scan.trim;
  «open» = h.scan.«open»;
  read_ms = h.scan.read_ms;
  read_admitted = h.scan.read_admitted;
}) h.tracked h.visits h.level

pub record Started : Type 0 where
  pub head : Shedder
  pub hist : Hist

abbrev pub started : Shedder → Hist → Started
started h g = record { head = h; hist = g }

-- none runs, and none is due
unfoldable pub is_idle : Shedder → ℕ → Bool
is_idle h clock = cond (nat_le 1 h.scan.remaining) false (nat_lt clock (h.scan.began_ms + SCAN_MS))

-- none runs, and so long has passed since the last began
unfoldable pub begun : Shedder → Hist → ℕ → Started
begun h g clock = cond (nat_le 1 h.scan.remaining) (started h g) (cond (nat_lt clock (h.scan.began_ms + SCAN_MS)) (started h g) (started (opened h clock) wants.cleared))

abbrev pub ended_at : Scanning → Scanning
ended_at s = scanning (ended s.head s.hist) s.rows s.hist

abbrev pub scanned_from : Rows → Started → Scanning
scanned_from m b = cond (nat_le 1 b.head.scan.remaining) (ended_at (again (visit (scanning b.head m b.hist)))) (scanning b.head m b.hist)

-- what a judgement does of a scan: it begins one that is due, and visits two tables of one that runs
unfoldable pub scanned : Scanning → ℕ → Scanning
scanned s clock = scanned_from s.rows (begun s.head s.hist clock)
