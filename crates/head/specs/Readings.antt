-- The readings, each through question 3, which asks of the offsets too: the tables visited, the batches cut for a cause, a level, a rate, whether the relay is bounded. Definitions only.
use Rattle.std.specs.Prelude.{cond, not, ℕ, Bool, List, Float, get_or, Option, Some, None, Result, Ok, Err}
use Rattle.std.specs.Float.Ieee as Ieee
use Rattle.flow.specs.declared.Dim.{Dim}
use Rattle.flow.specs.Flow.{dim_of}
use Rattle.head.specs.declared.Shedder.{Shedder}
use Rattle.store.specs.declared.Cause.{Cause}
unfoldable pub use Rattle.store.specs.Causes.{index_of}
use Rattle.head.specs.declared.Refusal.{Refusal}
use Rattle.head.specs.declared.Refusal.TheVariants.{Head}
use Rattle.head.specs.Questions.{is_unbounded, whole_with}

unfoldable pub visited : Shedder → List ℕ → Result ℕ Refusal
visited h os = cond (whole_with h os) (Ok h.visits) (Err Head)

unfoldable pub cut_batches : Shedder → List ℕ → Cause → Result ℕ Refusal
cut_batches h os c = cond (whole_with h os) (Ok (get_or h.batches (index_of c) 0)) (Err Head)

unfoldable pub level_read : Shedder → List ℕ → Dim → Result Float Refusal
level_read h os d = cond (whole_with h os) (Ok (get_or h.level (dim_of d) Ieee.nan)) (Err Head)

-- none for an unbounded relay
unfoldable pub rate_read : Shedder → List ℕ → Dim → Result (Option ℕ) Refusal
rate_read h os d = cond (whole_with h os) (Ok (cond (is_unbounded h.flow.rate) None (Some (get_or h.flow.rate (dim_of d) 0)))) (Err Head)

unfoldable pub is_bounded : Shedder → List ℕ → Result Bool Refusal
is_bounded h os = cond (whole_with h os) (Ok (not (is_unbounded h.flow.rate))) (Err Head)
