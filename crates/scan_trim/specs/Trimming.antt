-- The level that a scan found, trimmed: the trim follows the rate admitted since the last reading, and stays in 0.5 to 1. Definitions only.
use Rattle.std.specs.Prelude.{ℕ, ◌-◌, Bool, cond, ◌&&◌, List, Float}
use Rattle.std.specs.Float.Ieee as Ieee
use Rattle.std.specs.Float.{binary64}
use Rattle.std.specs.Float.Ieee.{of_bits}
use Rattle.ieee.specs.Doubles.{◌⊕◌, ◌⊖◌, ◌⊗◌, ◌⊘◌, ◌⊲◌, nothing, one, half}
use Rattle.ieee.specs.Extremes.{most, clamped}
use Rattle.flow.specs.Flow as flow
use Rattle.flow.specs.Flow.{at, upto, zeros, numbers, dims}
use Rattle.wants.specs.Wants as wants
use Rattle.wants.specs.Wants.{Hist}
use Rattle.head.specs.declared.Scan.{Scan}
use Rattle.head.specs.declared.Shedder.{Shedder}

-- the head with another scan, number of records, number of visits, and level
abbrev pub scan_then : Shedder → Scan → ℕ → ℕ → List Float → Shedder
scan_then h s tracked visits level = record {
  flow = h.flow;
  overflow = h.overflow;
  scan = s;
  visits = visits;
  level = level;
  batches = h.batches;
  receptions = h.receptions;
  tracked = tracked;
  counted = h.counted;
  unit_room = h.unit_room;
  counted_room = h.counted_room;
}

-- below +infinity (1 / 0) and above −infinity
unfoldable pub is_finite : Float → Bool
is_finite x = x ⊲ one ⊘ nothing && Ieee.neg one ⊘ nothing ⊲ x

-- 0.05: the most that the trim moves the level in one scan
abbrev pub TRIM_STEP : Float
TRIM_STEP = of_bits binary64 0x3fa9_9999_9999_999a

-- the least that it leaves of it
abbrev pub TRIM_FLOOR : Float
TRIM_FLOOR = half

-- the seconds in which it closes the gap between the rate admitted and the relay's
abbrev pub TRIM_SECS : Float
TRIM_SECS = one

-- 1 + span × (rate / gained − 1), in 0.95 to 1.05
unfoldable pub step_of : Float → Float → Float → Float
step_of rate gained span =
    clamped (one ⊕ span ⊘ TRIM_SECS ⊗ (rate ⊘ gained ⊖ one)) (one ⊖ TRIM_STEP) (one ⊕ TRIM_STEP)

-- 1 where the level found is not finite; else a step from the trim before, but the trim before where no time passed or nothing was gained
unfoldable pub trim_of : Float → Float → Float → Float → Float → Float
trim_of found trim rate gain span =
    cond (is_finite found)
    (cond (nothing ⊲ span) (cond (nothing ⊲ gain ⊘ span) (clamped (trim ⊗ step_of rate (gain ⊘ span) span) TRIM_FLOOR one) trim) trim)
    one

-- the level found, for each dimension
unfoldable pub opens : Hist → List Float → List Float
opens g rate = upto (λ (d : ℕ). wants.level g d (at rate d)) dims zeros

unfoldable pub trims : List Float → List Float → List Float → List Float → List Float → Float → List Float
trims found trim rate admitted read span = upto (λ (d : ℕ). trim_of (at found d) (at trim d) (at rate d) (at admitted d ⊖ at read d) span) dims zeros

-- the level stored: max(1, open × trim)
unfoldable pub levels : List Float → List Float → List Float
levels found trim = upto (λ (d : ℕ). most (at found d ⊗ at trim d) one) dims zeros

-- the seconds since the last reading
unfoldable pub span_of : ℕ → ℕ → Float
span_of clock t = flow.seconds (clock - t)

abbrev pub trims_at : Shedder → Hist → List Float
trims_at h g =
    trims (opens g (numbers h.flow.rate)) h.scan.trim (numbers h.flow.rate) h.flow.admitted h.scan.read_admitted (span_of h.flow.at_ms h.scan.read_ms)

-- open, trim and level anew; what was admitted, and when, is noted as read
unfoldable pub trimmed : Shedder → Hist → Shedder
trimmed h g = scan_then h (record {
  remaining = h.scan.remaining;
  next = h.scan.next;
  at_ms = h.scan.at_ms;
  began_ms = h.scan.began_ms;
  trim = trims_at h g;
  «open» = opens g (numbers h.flow.rate);
  read_ms = h.flow.at_ms;
  read_admitted = h.flow.admitted;
}) h.tracked h.visits (levels (opens g (numbers h.flow.rate)) (trims_at h g))
