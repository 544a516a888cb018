-- Document 01 on the end of a scan: trim stays in 0.5 to 1, the level stored is at least 1. Laws on the definitions. Statements only; proofs/Laws.antt proves them.
-- They refuse a definition that trims outside or stores a lower level, whatever the code does.
use Rattle.std.specs.Prelude.{◌≡◌, ◌⊎◌, Bool, true, List, ℕ, ◌^◌, ◌<◌, T, ℤ, get_or, Float}
use Rattle.std.specs.Float.{nan, fin, binary64}
use Rattle.std.specs.Float.Ieee.{fits}
use Rattle.ieee.specs.Doubles.{◌⊗◌, ◌⊴◌, half, one}
use Rattle.ieee.specs.Extremes.{most}
use Rattle.flow.specs.Flow.{at, dims}
use Rattle.wants.specs.Wants.{Hist}
use Rattle.head.specs.declared.Shedder.{Shedder}
use Rattle.scan_trim.specs.Trimming.{trim_of, levels, trimmed}

-- ---- the trim: 0.5 ≤ x ≤ 1, written out, so that another TRIM_FLOOR is refused. A not-a-number is none, since it compares with nothing
pub record Trim (x : Float) : Type 0 where
  pub least : half ⊴ x ≡ true
  pub most : x ⊴ one ≡ true

abbrev pub Trims : List Float → Type 0
Trims xs = (d : ℕ) → d < dims → Trim (at xs d)

-- every rate is a u64
abbrev pub Rates : Shedder → Type 0
Rates h = (d : ℕ) → d < dims → get_or h.flow.rate d 0 < 2 ^ 64

pub record TrimStays : Type 0 where
  -- for a finite rate (`fin s m e`) and any double as the span, whatever was found and gained
  pub each : (found trim gain span : Float) (s : Bool) (m : ℕ) (e : ℤ) → T (fits binary64 span) → Trim trim → Trim (trim_of found trim (fin s m e) gain span)
  -- for any five values: in 0.5 to 1, or the trim before, or a not-a-number
  pub any : (found trim rate gain span : Float) → Trim (trim_of found trim rate gain span) ⊎ ((trim_of found trim rate gain span ≡ trim) ⊎ (trim_of found trim rate gain span ≡ nan))
  pub ended : (h : Shedder) (g : Hist) → Rates h → Trims h.scan.trim → Trims (trimmed h g).scan.trim

-- ---- the level stored: open × trim, but at least 1, so never a not-a-number; what a scan stores is, of any values
abbrev pub Levels : List Float → Type 0
Levels xs = (d : ℕ) → d < dims → one ⊴ at xs d ≡ true

pub record LevelStays : Type 0 where
  pub is : (found trim : List Float) (d : ℕ) → d < dims → at (levels found trim) d ≡ most (at found d ⊗ at trim d) one
  pub each : (found trim : List Float) → Levels (levels found trim)
  pub ended : (h : Shedder) (g : Hist) → Levels (trimmed h g).level
