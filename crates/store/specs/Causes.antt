-- The causes of a cut. Definitions only.
use Rattle.std.specs.Prelude.{ℕ}
use Rattle.store.specs.declared.Cause.{Cause}
use Rattle.store.specs.declared.Cause.TheVariants as cause

-- a cause's place among the counts
unfoldable pub index_of : Cause → ℕ
index_of cause.ReceiverCeiling = 0
index_of cause.OverShare = 1
index_of cause.RelayRate = 2
