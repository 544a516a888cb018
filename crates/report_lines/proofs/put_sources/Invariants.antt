-- `report_lines::put_sources` meets its contract: the loop has the sources after the last one still to write. Assumes nothing.
use Rattle.report_lines.specs.Lines.{source_lines}
use Rattle.report_ranking.specs.Sources.{SOURCES_REPORTED, named, reported}
use Rattle.text.specs.Page.{writes}
use Rattle.text.specs.Pages.{seen}
use Prim.Native.Nat.{◌<◌, ◌-◌}
use mathlib.Core.Path.{◌≡◌}
use Rattle.std.specs.Option.{IfSome, unwrap_or}
use Rattle.report_lines.proofs.put_sources.Given as goal

abbrev pub invariant-loop : goal.invariant-loop
invariant-loop l =
    IfSome l.last (λ q. q < l.n)
    × (l.out.out.ghost_name ≡ l.initial.out.out.ghost_name)
    × (writes (seen l.initial.out) (source_lines l.sources.tags.now l.sources.counted.now (reported l.sources.tags.now l.sources.counted.now l.n)) ≡ writes (seen l.out) (source_lines l.sources.tags.now l.sources.counted.now (named l.sources.tags.now l.sources.counted.now l.n (SOURCES_REPORTED - l.counter) (unwrap_or l.last l.n))))
