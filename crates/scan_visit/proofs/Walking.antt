-- The wants of a use added, dimension by dimension. Assumes nothing.
use Rattle.std.proofs.Common.{◌≡◌, ℕ, ◌+◌, List, refl, add-one}
use lib.Ieee.{Float}
use Rattle.flow.specs.Flow.{at}
use Rattle.wants.specs.Wants.{Hist}
use Rattle.wants.specs.Wants as wants
use Rattle.scan_visit.specs.Walking.{adds}

pub adds_none : (want : List Float) (g : Hist) → adds want 0 g ≡ g
unfolding adds
adds_none want g = refl

pub adds_next : (want : List Float) (d : ℕ) (g : Hist) → adds want (d + 1) g ≡ wants.added (adds want d g) d (at want d)
unfolding adds
adds_next want d g = rw add-one
