-- `report_lines::put_numbers` meets its contract: the loop has the numbers from the x-index-th on still to write. Assumes nothing.
use Rattle.report_lines.specs.Lines.{numbers}
use Rattle.text.specs.Page.{writes}
use Rattle.text.specs.Pages.{seen}
use lib.ListN.{drop}
use mathlib.Core.Path.{◌≡◌}
use Rattle.report_lines.proofs.put_numbers.Given as goal

abbrev pub invariant-loop-x : goal.invariant-loop-x
invariant-loop-x l =
    (l.out.out.ghost_name ≡ l.initial.out.out.ghost_name)
    × (writes (seen l.initial.out) (numbers l.xs) ≡ writes (seen l.out) (numbers (drop l.x-index l.xs)))
