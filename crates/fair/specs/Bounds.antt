-- The numbers of demand 3, each of them once. Times are in milliseconds.
use Rattle.std.specs.Prelude.{ℕ}

-- a record is dropped only where its stamp is more than this before the clock
abbrev pub stale_after : ℕ
stale_after = 8000

-- the depth of the bound on what is admitted on a record, (4 + T) * highest fill: 4 s
abbrev pub most_depth : ℕ
most_depth = 4000

-- the depth of the condition of the last claim, (4 + T) * lowest fill: 4 s
abbrev pub least_depth : ℕ
least_depth = 4000

-- a run of n calls may be off by n / parts
abbrev pub parts : ℕ
parts = 256
