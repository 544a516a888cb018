-- The page's scan is that of the crate scan. Assumes nothing.
use mathlib.Core.Path.{◌≡◌, refl, sym}
use mathlib.Core.Bool.{Bool, true, false, cond, not, ◌&&◌}
use Prim.Native.Nat.{ℕ, ◌+◌}
use native.Mathlib.Omega.{arith}
use native.Mathlib.Decide.{dec_le}
use lib.Dec.{eqb, leb}
use lib.Ieee.{Float, lt}
use borrow.Author.Tests.{eq-eqb, ne_eqb, le-leb, lt-leb}
use Rattle.ieee.specs.Doubles.{nothing, one}
use Rattle.flow.specs.Flow.{is_fresh}
use Rattle.flow.specs.declared.Use.{Use}
use Rattle.wants.specs.Wants as wants
use Rattle.wants.specs.Wants.{Hist}
use Rattle.scan_visit.specs.Walking as walking
use Rattle.scan_visit.specs.Visiting.{visit_with}
use Rattle.scan_trim.specs.Trimming as trimming
use Rattle.scan.specs.Scanning as scans
use Rattle.meaning.specs.State.{State, with_head, with_hist}
use Rattle.meaning.specs.Page as page
use Rattle.meaning.proofs.Asked.{ltb_not}

-- what the scan works on, of a state; and a state after it
abbrev pub of : State → scans.Scanning
of s = scans.scanning s.head s.rows s.hist

abbrev pub put : State → scans.Scanning → State
put s g = record { head = g.head; rows = g.rows; hist = g.hist; counted = s.counted }

-- ---- begun
begun_put : State → scans.Started → State
begun_put s b = with_hist (with_head s b.head) b.hist

none_runs : (n : ℕ) → eqb n 0 ≡ not (leb 1 n)
none_runs n = elim (dec_le 1 n) [ yes h ↦ rw (ne_eqb n 0 (λ e. omega (arith, h, e)), le-leb 1 n h) refl | no h ↦ rw (eq-eqb n 0 (omega (arith, h)), lt-leb 1 n (omega (arith, h))) refl ]

begun_is : (s : State) (clock : ℕ) → page.begun s clock ≡ begun_put s (scans.begun s.head s.hist clock)
unfolding page.begun begun_put scans.begun scans.opened
begun_is s clock = rw (none_runs s.head.scan.remaining, ltb_not (s.head.scan.began_ms + 500) clock) (go (leb 1 s.head.scan.remaining) (leb (s.head.scan.began_ms + 500) clock))
  where
    later : State
    later = begun_put s (scans.started (scans.opened s.head clock) wants.cleared)

    go : (a b : Bool) → cond (not a && b) later s ≡ begun_put s (cond a (scans.started s.head s.hist) (cond (not b) (scans.started s.head s.hist) (scans.started (scans.opened s.head clock) wants.cleared)))
    go true b = refl
    go false true = refl
    go false false = refl

-- ---- a visit
overflow_is : (o : Use) (table t : ℕ) (g : Hist) → cond (eqb table 0 && not (is_fresh o.fresh)) (walking.walk_use o t g) g ≡ walking.walk_overflow o table t g
unfolding walking.walk_overflow
overflow_is o table t g = go (eqb table 0) (is_fresh o.fresh)
  where
    go : (a b : Bool) → cond (a && not b) (walking.walk_use o t g) g ≡ cond a (cond b g (walking.walk_use o t g)) g
    go true true = refl
    go true false = refl
    go false b = refl

visit_is : (s : State) → page.visit s ≡ put s (scans.visit (of s))
unfolding page.visit scans.visit scans.visited visit_with
visit_is s = rw (overflow_is s.head.overflow s.head.scan.next s.head.scan.at_ms s.hist) refl

-- ---- the end
trim_is : («open» trim rate gain span : Float) → page.trim_of «open» trim rate gain span ≡ trimming.trim_of «open» trim rate gain span
unfolding page.trim_of trimming.trim_of trimming.step_of
trim_is «open» trim rate gain span = go (trimming.is_finite «open») (lt nothing span) _ _
  where
    go : (a b c : Bool) (x : Float) → cond (not a) one (cond (b && c) x trim) ≡ cond a (cond b (cond c x trim) trim) one
    go true true c x = refl
    go true false c x = refl
    go false b c x = refl

trimmed_is : (s : State) → page.trimmed s ≡ with_head s (trimming.trimmed s.head s.hist)
unfolding page.trimmed trimming.trimmed trimming.trims trimming.opens trimming.levels trimming.span_of
trimmed_is s = simp trim_is

-- ---- two visits
again_is : (s : State) → cond (page.runs s) (page.visit s) s ≡ put s (scans.again (of s))
unfolding page.runs scans.again
again_is s = go (leb 1 s.head.scan.remaining)
  where
    go : (a : Bool) → cond a (page.visit s) s ≡ put s (cond a (scans.visit (of s)) (of s))
    go true = visit_is s
    go false = refl

ended_is : (s : State) → cond (page.runs s) s (page.trimmed s) ≡ put s (scans.ended_at (of s))
unfolding page.runs scans.ended
ended_is s = rw (none_runs s.head.scan.remaining) (go (leb 1 s.head.scan.remaining))
  where
    go : (a : Bool) → cond a s (page.trimmed s) ≡ with_head s (cond (not a) (trimming.trimmed s.head s.hist) s.head)
    go true = refl
    go false = trimmed_is s

runs_is : (s : State) → page.runs s ≡ leb 1 s.head.scan.remaining
unfolding page.runs
runs_is s = refl

begin : (s t : State) (a : Bool) (x y : scans.Scanning) → put s y ≡ t → cond a (put s x) t ≡ put s (cond a x y)
begin s t true x y e = refl
begin s t false x y e = sym e

pub scanned_is : (s : State) (clock : ℕ) → page.scanned s clock ≡ put s (scans.scanned (of s) clock)
unfolding page.scanned scans.scanned begun_put
scanned_is s clock =
    let t = begun_put s (scans.begun s.head s.hist clock) in
    let once = page.visit t in
    rw (begun_is s clock, again_is once, ended_is (put once (scans.again (of once))), visit_is t, runs_is t)
    (begin s t (leb 1 t.head.scan.remaining) (scans.ended_at (scans.again (scans.visit (of t)))) (of t) refl)
