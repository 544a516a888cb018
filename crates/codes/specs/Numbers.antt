-- The numbers by which readings answer, and by which a call takes a cause or a dimension. A start and a cut answer the refusal's number or 0 (head/specs/Answers), a judgement
-- as specs/Decisions has it. Definitions only.
use Rattle.std.specs.Prelude.{cond, ℕ, Bool, true, false, eqb, Float, Option, Some, None, Result, Ok, Err}
use Rattle.std.specs.Float.{binary64}
use Rattle.std.specs.Float.Ieee.{of_bits}
use Rattle.flow.specs.declared.Dim.{Dim}
use Rattle.flow.specs.Flow.{«UNBOUNDED», dim_at}
use Rattle.store.specs.declared.Cause.{Cause}
use Rattle.store.specs.declared.Cause.TheVariants as cause
use Rattle.head.specs.declared.Refusal.{Refusal}
use Rattle.head.specs.Answers.{number_of}
use Rattle.codes.specs.declared.Count.{Count}
use Rattle.codes.specs.declared.Level.{Level}

-- ---- a cause: 0 receiver-ceiling, 1 over-share, 2 and any other number relay-rate
unfoldable pub cause_of : ℕ → Cause
cause_of n = cond (eqb n 0) cause.ReceiverCeiling (cond (eqb n 1) cause.OverShare cause.RelayRate)

-- ---- a dimension: 0 receptions, 1 and any other number bytes
unfoldable pub dim_of : ℕ → Dim
dim_of n = dim_at n

-- ---- what is read: the refusal's number and 0, or 0 and the value
abbrev pub count : ℕ → ℕ → Count
count refusal value = record { refusal = refusal; value = value }

unfoldable pub read_count : Result ℕ Refusal → Count
read_count (Ok x) = count 0 x
read_count (Err r) = count (number_of r) 0

unfoldable pub read_level : Result Float Refusal → Level
read_level (Ok x) = record { refusal = 0; value = x }
read_level (Err r) = record { refusal = number_of r; value = of_bits binary64 0 }

-- no limit is the number that a start takes for it
unfoldable pub read_rate : Result (Option ℕ) Refusal → Count
read_rate (Ok None) = count 0 «UNBOUNDED»
read_rate (Ok (Some x)) = count 0 x
read_rate (Err r) = count (number_of r) 0

-- 1 for a bounded relay
unfoldable pub read_bounded : Result Bool Refusal → Count
read_bounded (Ok true) = count 0 1
read_bounded (Ok false) = count 0 0
read_bounded (Err r) = count (number_of r) 0

-- the bytes written
unfoldable pub read_written : Result ℕ Refusal → Count
read_written (Ok n) = count 0 n
read_written (Err r) = count (number_of r) 0
