-- `cut_sources::Sources::find_shared` meets its contract: none of those passed reads as overflow. Assumes nothing.
use Rattle.std.proofs.Common.{◌≡◌, ◌<◌, ℕ, false}
use Rattle.cut_sources.proofs.Reading.{shared_at}
use Rattle.cut_sources.proofs.Sources.find_shared.Given as goal

abbrev pub invariant-loop-i : goal.invariant-loop-i
invariant-loop-i l = (k : ℕ) → k < l.i → shared_at l.self.tags.now l.self.counted.now k ≡ false
