-- The laws of the trim and of the level stored (specs/Laws.antt). Assumes nothing.
use Rattle.wants.specs.Wants.{Hist}
use Rattle.head.specs.declared.Shedder.{Shedder}
use Rattle.scan_trim.specs.Trimming.{trims_at, trimmed}
use Rattle.scan_trim.specs.Laws.{Rates, Trims, TrimStays, Levels, LevelStays}
use Rattle.scan_trim.proofs.Ranges.{trim_stays, trim_any, trims_stay, levels_are, levels_least}

ended_trim : (h : Shedder) (g : Hist) → Rates h → Trims h.scan.trim → Trims (trimmed h g).scan.trim
unfolding trimmed
ended_trim h g r t = trims_stay h g r t

pub trim_law : TrimStays
trim_law = record { each = trim_stays; any = trim_any; ended = ended_trim }

ended_level : (h : Shedder) (g : Hist) → Levels (trimmed h g).level
unfolding trimmed
ended_level h g = levels_least _ (trims_at h g)

pub level_law : LevelStays
level_law = record { is = levels_are; each = levels_least; ended = ended_level }
