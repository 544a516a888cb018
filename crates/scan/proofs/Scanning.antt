-- The scan from its parts. Assumes nothing.
use Rattle.std.proofs.Common.{◌≡◌, ℕ, ◌+◌, ◌-◌, ◌<◌, ◌≤◌, Bool, true, false, cond, ltb, leb, sym, refl, ap, ◌∙◌, subst, true≢false, arith}
use Rattle.parts.specs.Parts.{Rows, dropped, left}
use Rattle.wants.specs.Wants.{Hist, cleared}
use Rattle.head.specs.declared.Shedder.{Shedder}
use Rattle.scan.specs.Scanning.{scanning, visited, visit, visit_to, again, ended, ended_at, opened, started, is_idle, begun, scanned, scanned_from}
use Rattle.scan_visit.specs.Visiting.{visit_with}

pub moved_on : (r n : ℕ) → 1 ≤ r → r + n ≤ 64 → r - 1 + (n + 1) ≤ 64
moved_on r n p q = omega arith

-- a table that remains is one of the 64
pub next_low : (r n : ℕ) → 1 ≤ r → r + n ≤ 64 → n < 64
next_low r n p q = omega arith

module _ (h : Shedder) (m : Rows) (g : Hist) where
  pub visit_is : (n : ℕ) (m1 : Rows) (g1 : Hist) (r : Shedder)
      → n ≡ left m h.tracked h.scan.next h.scan.at_ms
      → m1 ≡ dropped m h.tracked h.scan.next h.scan.at_ms
      → g1 ≡ visit_with m1 h.overflow h.scan.next h.scan.at_ms g
      → r ≡ visited h n
      → scanning r m1 g1 ≡ visit (scanning h m g)
  unfolding visit
  visit_is n m1 g1 r eN eM eG eR =
      ap (λ (r : Shedder). scanning r m1 g1) eR ∙ ap (scanning (visited h n) m1) eG
      ∙ ap (λ (n : ℕ). visit_to (scanning h m g) n m1) eN
      ∙ ap (visit_to (scanning h m g) (left m h.tracked h.scan.next h.scan.at_ms)) eM

  pub scanned_on : (clock : ℕ) (b : Shedder) (g1 : Hist) (v : Shedder) (m1 : Rows) (g2 : Hist) (w : Shedder) (m2 : Rows) (g3 : Hist) (r : Shedder)
      → started b g1 ≡ begun h g clock → leb 1 b.scan.remaining ≡ true
      → scanning v m1 g2 ≡ visit (scanning b m g1)
      → scanning w m2 g3 ≡ again (scanning v m1 g2)
      → r ≡ ended w g3
      → scanning r m2 g3 ≡ scanned (scanning h m g) clock
  unfolding scanned
  scanned_on clock b g1 v m1 g2 w m2 g3 r eB t eV eW eR =
      ap (λ (r : Shedder). scanning r m2 g3) eR ∙ ap ended_at (eW ∙ ap again eV)
      ∙ ap (λ (x : Bool). cond x (ended_at (again (visit (scanning b m g1)))) (scanning b m g1)) (sym t)
      ∙ ap (scanned_from m) eB

  pub scanned_off : (clock : ℕ) (b : Shedder) (g1 : Hist)
      → started b g1 ≡ begun h g clock → leb 1 b.scan.remaining ≡ false
      → scanning b m g1 ≡ scanned (scanning h m g) clock
  unfolding scanned
  scanned_off clock b g1 eB t =
      ap (λ (x : Bool). cond x (ended_at (again (visit (scanning b m g1)))) (scanning b m g1)) (sym t) ∙ ap (scanned_from m) eB

  -- where it is idle all stays
  idle : (clock : ℕ) → is_idle h clock ≡ true → (leb 1 h.scan.remaining ≡ false) × (started h g ≡ begun h g clock)
  unfolding is_idle begun
  idle clock e = go (leb 1 h.scan.remaining) (ltb clock (h.scan.began_ms + 500)) e
    where
      go : (b c : Bool) → cond b false c ≡ true → (b ≡ false) × (started h g ≡ cond b (started h g) (cond c (started h g) (started (opened h clock) cleared)))
      go true c e = absurd (true≢false (sym e))
      go false true e = (refl, refl)
      go false false e = absurd (true≢false (sym e))

  pub scanned_idle : (clock : ℕ) → is_idle h clock ≡ true → scanning h m g ≡ scanned (scanning h m g) clock
  scanned_idle clock e = scanned_off clock h g (idle clock e).1 (idle clock e).0
