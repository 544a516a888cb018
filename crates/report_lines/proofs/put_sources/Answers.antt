-- `report_lines::put_sources` meets its contract: no source stands after the last one. Assumes nothing.
use Rattle.report_lines.proofs.Writing.{sources_none}
use Rattle.report_ranking.specs.Sources.{SOURCES_REPORTED}
use Rattle.std.specs.Option.{unwrap_or}
use native.Mathlib.Omega.{arith}
use Prim.Native.Nat.{◌-◌}
use mathlib.Core.Path.{sym, ◌∙◌}
use Rattle.report_lines.proofs.put_sources.Goals as goal

pub returns-in_default-clause-value : goal.returns-in_default-clause-value
returns-in_default-clause-value c =
    sources_none c.args.sources.now.tags.now c.args.sources.now.counted.now c.args.n (SOURCES_REPORTED - c.loop.counter) (SOURCES_REPORTED - 1 - c.loop.counter) (unwrap_or c.loop.last c.args.n)
    (omega arith) _ (sym c.in_default.is ∙ c.first_after.ensures.value) ∙ sym c.loop.invariant.2
