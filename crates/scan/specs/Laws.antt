-- Document 01 on a scan: it ends with its 32nd judgement, and no judgement leaves a trim or a level outside. Laws on the definitions. Statements only; proofs/Laws.antt proves them.
-- They refuse a definition that visits other tables, or sets the level at another judgement, whatever the code does. Crate `scan_trim` has the laws of the trim and of the level stored.
use Rattle.std.specs.Prelude.{◌≡◌, ℕ, zero, suc, ◌+◌, ◌*◌, ◌%◌, ◌^◌, ◌<◌, ◌≤◌, cond, ◌==◌}
use Rattle.flow.specs.Flow.{numbers}
use Rattle.flow.specs.declared.Use.{Use}
use Rattle.parts.specs.Parts.{Rows, dropped, left}
use Rattle.wants.specs.Wants.{Hist, cleared}
use Rattle.head.specs.declared.Scan.{Scan}
use Rattle.head.specs.declared.Shedder.{Shedder}
use Rattle.scan_visit.specs.Visiting.{visit_with}
use Rattle.scan_trim.specs.Trimming.{levels, opens, trims_at}
use Rattle.scan_trim.specs.Laws.{Rates, Trims, Levels}
use Rattle.scan.specs.Scanning.{Scanning, scanned}

-- ---- what stays over a judgement: trims in 0.5 to 1, of a head whose rates are u64; levels of at least 1
pub record Stays : Type 0 where
  pub trims : (s : Scanning) (clock : ℕ) → Rates s.head → Trims s.head.scan.trim → Trims (scanned s clock).head.scan.trim
  pub levels : (s : Scanning) (clock : ℕ) → Levels s.head.level → Levels (scanned s clock).head.level

-- ---- the judgements of a scan

-- Judgement t k got left: the scan begun at the clock t has had k judgements; the next one gets `got` and leaves `left`. Between two of them
-- all may change but the scan's part of the head.
pub data Judgement (t : ℕ) : ℕ → Scanning → Scanning → Type 0 where
  begins : (s : Scanning) → s.head.scan.remaining ≡ 0 → s.head.scan.began_ms + 500 ≤ t → Judgement t 0 s (scanned s t)
  goes_on : {k : ℕ} {got left : Scanning} → Judgement t k got left → suc k < 32 → (s : Scanning) → s.head.scan ≡ left.head.scan → (clock : ℕ) → Judgement t (suc k) s (scanned s clock)

-- what a visit of a table works on
pub record Swept : Type 0 where
  pub rows : Rows
  pub tracked : ℕ
  pub hist : Hist

abbrev pub held : Shedder → Rows → Hist → Swept
held h m g = record { rows = m; tracked = h.tracked; hist = g }

-- a table visited at the scan's stamp t: the stale of its part are dropped; overflow's want is added first, then the wants of those kept
abbrev pub sweep : Use → ℕ → ℕ → Swept → Swept
sweep overflow t table w =
    let m = dropped w.rows w.tracked table t in
    record { rows = m; tracked = left w.rows w.tracked table t; hist = visit_with m overflow table t w.hist }

-- the histogram is cleared as the scan begins
abbrev pub begins_with : ℕ → Hist → Hist
begins_with zero g = cleared
begins_with (suc k) g = g

-- the level is left as it was
pub record Keeps (got left : Shedder) : Type 0 where
  pub level : left.level ≡ got.level
  pub trim : left.scan.trim ≡ got.scan.trim
  pub «open» : left.scan.«open» ≡ got.scan.«open»
  pub read : left.scan.read_ms ≡ got.scan.read_ms
  pub admitted : left.scan.read_admitted ≡ got.scan.read_admitted

-- the level is found from the histogram, trimmed and stored; clock and amount admitted are noted as read
pub record Stores (got left : Shedder) (g : Hist) : Type 0 where
  pub «open» : left.scan.«open» ≡ opens g (numbers got.flow.rate)
  pub trim : left.scan.trim ≡ trims_at got g
  pub level : left.level ≡ levels left.scan.«open» left.scan.trim
  pub read : left.scan.read_ms ≡ got.flow.at_ms
  pub admitted : left.scan.read_admitted ≡ got.flow.admitted

-- after k judgements of the scan begun at t
pub record Place (t k : ℕ) (s : Scan) : Type 0 where
  pub remaining : s.remaining + 2 * k ≡ 64
  pub next : s.next ≡ 2 * k
  pub stamp : s.at_ms ≡ t
  pub began : s.began_ms ≡ t

-- two tables, 2k and then 2k + 1; the level is stored with the 32nd judgement only, and then no table remains
pub record Visits (t k : ℕ) (got left : Scanning) : Type 0 where
  pub place : Place t (suc k) left.head.scan
  pub visits : left.head.visits ≡ (got.head.visits + 2) % 2 ^ 64
  pub tables : held left.head left.rows left.hist
      ≡ sweep got.head.overflow t (2 * k + 1) (sweep got.head.overflow t (2 * k) (held got.head got.rows (begins_with k got.hist)))
  pub before : suc k < 32 → Keeps got.head left.head
  pub last : suc k ≡ 32 → Stores got.head left.head left.hist

pub record Scans : Type 0 where
  pub visits : {t k : ℕ} {got left : Scanning} → Judgement t k got left → Visits t k got left
  -- no table is visited where no scan runs and none is due
  pub rests : (s : Scanning) (clock : ℕ) → s.head.scan.remaining ≡ 0 → clock < s.head.scan.began_ms + 500 → scanned s clock ≡ s
