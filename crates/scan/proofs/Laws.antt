-- The laws of a scan (specs/Laws.antt). Assumes nothing.
use Rattle.std.proofs.Common.{ℕ, ◌+◌, Bool, true, false, cond, ltb, leb}
use Rattle.parts.specs.Parts.{left}
use Rattle.wants.specs.Wants.{Hist, cleared}
use Rattle.head.specs.declared.Shedder.{Shedder}
use Rattle.scan_trim.specs.Trimming.{trimmed}
use Rattle.scan_trim.specs.Laws.{Rates, Trims, Levels}
use Rattle.scan_trim.proofs.Laws.{trim_law, level_law}
use Rattle.scan.specs.Scanning.{Scanning, Started, scanning, visited, visit, again, ended_at, opened, started, begun, scanned, scanned_from}
use Rattle.scan.specs.Laws.{Stays, Scans}
use Rattle.scan.proofs.Judgements.{ended_by, visits_two, rests}

-- ---- what a visit, a beginning and an end keep, a judgement keeps
module _ (P : Shedder → Type 0) (at_visit : (h : Shedder) (n : ℕ) → P h → P (visited h n)) (at_begin : (h : Shedder) (t : ℕ) → P h → P (opened h t)) (at-end : (h : Shedder) (g : Hist) → P h → P (trimmed h g)) where
  visit_keeps : (s : Scanning) → P s.head → P (visit s).head
  unfolding visit
  visit_keeps s p = at_visit s.head (left s.rows s.head.tracked s.head.scan.next s.head.scan.at_ms) p

  again_keeps : (s : Scanning) → P s.head → P (again s).head
  unfolding again
  again_keeps s p = go (leb _ s.head.scan.remaining)
    where
      go : (b : Bool) → P (cond b (visit s) s).head
      go true = visit_keeps s p
      go false = p

  begun_keeps : (h : Shedder) (g : Hist) (t : ℕ) → P h → P (begun h g t).head
  unfolding begun
  begun_keeps h g t p = go (leb 1 h.scan.remaining) (ltb t (h.scan.began_ms + 500))
    where
      go : (b c : Bool) → P (cond b (started h g) (cond c (started h g) (started (opened h t) cleared))).head
      go true c = p
      go false true = p
      go false false = at_begin h t p

  keeps : (s : Scanning) (clock : ℕ) → P s.head → P (scanned s clock).head
  unfolding scanned
  keeps s clock p = go (begun s.head s.hist clock) (begun_keeps s.head s.hist clock p)
    where
      by : (b : Scanning) → P b.head → (c : Bool) → P (cond c (ended_at (again (visit b))) b).head
      by b q true = ended_by (again (visit b)).head (again (visit b)).hist P (at-end _ _ r) r
        where
          r : P (again (visit b)).head
          r = again_keeps (visit b) (visit_keeps b q)
      by b q false = q

      go : (b : Started) → P b.head → P (scanned_from s.rows b).head
      go b q = by (scanning b.head s.rows b.hist) q (leb 1 b.head.scan.remaining)

-- ---- the trim
abbrev Trimmed : Shedder → Type 0
Trimmed h = Rates h × Trims h.scan.trim

visited_trim : (h : Shedder) (n : ℕ) → Trimmed h → Trimmed (visited h n)
unfolding visited
visited_trim h n p = p

opened_trim : (h : Shedder) (t : ℕ) → Trimmed h → Trimmed (opened h t)
unfolding opened
opened_trim h t p = p

ended_trim : (h : Shedder) (g : Hist) → Trimmed h → Trimmed (trimmed h g)
ended_trim h g p = (ended_rates h g p.0, trim_law.ended h g p.0 p.1)
  where
    ended_rates : (h : Shedder) (g : Hist) → Rates h → Rates (trimmed h g)
    ended_rates h g r = unfold trimmed in r

-- ---- the level
visited_level : (h : Shedder) (n : ℕ) → Levels h.level → Levels (visited h n).level
unfolding visited
visited_level h n p = p

opened_level : (h : Shedder) (t : ℕ) → Levels h.level → Levels (opened h t).level
unfolding opened
opened_level h t p = p

pub stays : Stays
stays = record {
  trims = λ s clock r t. (keeps Trimmed visited_trim opened_trim ended_trim s clock (r, t)).1;
  levels = keeps (λ (h : Shedder). Levels h.level) visited_level opened_level (λ h g p. level_law.ended h g);
}

-- ---- the judgements of a scan
pub scan_law : Scans
scan_law = record { visits = visits_two; rests = rests }
