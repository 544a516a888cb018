-- The judgements of a scan: two tables each, the level with the 32nd (specs/Laws.antt). Assumes nothing.
use Rattle.std.proofs.Common.{◌≡◌, ℕ, suc, ◌+◌, ◌-◌, ◌*◌, ◌%◌, ◌^◌, ◌<◌, ◌≤◌, Bool, true, false, cond, eqb, leb, sym, refl, ap, ◌∙◌, subst, arith, le-ltb, lt-ltb, eq-eqb, ne_eqb, le-leb}
use native.Mathlib.Nat.{mod-add-mod}
use borrow.Author.Tests.{lt-leb}
use Rattle.wants.specs.Wants.{Hist, cleared}
use Rattle.head.specs.declared.Shedder.{Shedder}
use Rattle.scan_trim.specs.Trimming.{trimmed}
use Rattle.scan.specs.Scanning.{Scanning, scanning, visited, visit, again, ended, ended_at, opened, begun, scanned, is_idle}
use Rattle.scan.specs.Laws.{Judgement, begins, goes_on, held, sweep, begins_with, Keeps, Stores, Place, Visits}
use Rattle.scan.proofs.Scanning.{scanned_idle}

-- ---- a choice by a test of numbers
tested : {A : Type 0} (m n : ℕ) (a b : A) → m ≤ n → cond (leb m n) a b ≡ a
tested m n a b l = simp (le-leb m n l)

equals : {A : Type 0} (m n : ℕ) (a b : A) → m ≡ n → cond (eqb m n) a b ≡ a
equals m n a b e = simp (eq-eqb m n e)

differs : {A : Type 0} (m n : ℕ) (a b : A) → (m ≡ n → ⊥) → cond (eqb m n) a b ≡ b
differs m n a b e = simp (ne_eqb m n e)

-- ---- the two visits of a judgement
running : (s : Scanning) (clock : ℕ) → leb 1 s.head.scan.remaining ≡ true → scanned s clock ≡ ended_at (again (visit s))
unfolding scanned begun
running s clock e = simp e

beginning : (s : Scanning) (t : ℕ) → s.head.scan.remaining ≡ 0 → s.head.scan.began_ms + 500 ≤ t
    → scanned s t ≡ ended_at (again (visit (scanning (opened s.head t) s.rows cleared)))
unfolding scanned begun opened
beginning s t z d = simp (lt-leb 1 s.head.scan.remaining (omega arith), le-ltb t (s.head.scan.began_ms + 500) d)

-- the test is read off the definition
both : (s : Scanning) → 2 ≤ s.head.scan.remaining → again (visit s) ≡ visit (visit s)
unfolding again visit visited
both s l = tested _ (s.head.scan.remaining - 1) (visit (visit s)) (visit s) (omega arith)

place_twice : (t k : ℕ) (s : Scanning) → k < 32 → Place t k s.head.scan → Place t (suc k) (visit (visit s)).head.scan
unfolding visit visited
place_twice t k s l p = record { remaining = omega (arith, p.remaining); next = omega (arith, p.next); stamp = p.stamp; began = p.began }

visits_twice : (s : Scanning) → (visit (visit s)).head.visits ≡ (s.head.visits + 2) % 2 ^ 64
unfolding visit visited
visits_twice s = mod-add-mod (s.head.visits + 1) (2 ^ 64) 1 ∙ ap (λ (n : ℕ). n % 2 ^ 64) (omega arith)

tables_twice : (s : Scanning)
    → held (visit (visit s)).head (visit (visit s)).rows (visit (visit s)).hist
    ≡ sweep s.head.overflow s.head.scan.at_ms (s.head.scan.next + 1) (sweep s.head.overflow s.head.scan.at_ms s.head.scan.next (held s.head s.rows s.hist))
unfolding visit visited
tables_twice s = refl

-- ---- the end of a judgement: the level is stored where no table remains
module _ (h : Shedder) (g : Hist) where
  pub ended_by : (P : Shedder → Type 0) → P (trimmed h g) → P h → P (ended h g)
  unfolding ended
  ended_by P p q = go (eqb h.scan.remaining _)
    where
      go : (b : Bool) → P (cond b (trimmed h g) h)
      go true = p
      go false = q

  ended_place : (t k : ℕ) → Place t k h.scan → Place t k (ended h g).scan
  unfolding trimmed
  ended_place t k p = ended_by (λ (r : Shedder). Place t k r.scan) (record { remaining = p.remaining; next = p.next; stamp = p.stamp; began = p.began }) p

  ended_visits : (ended h g).visits ≡ h.visits
  unfolding trimmed
  ended_visits = ended_by (λ (r : Shedder). r.visits ≡ h.visits) refl refl

  ended_tracked : (ended h g).tracked ≡ h.tracked
  unfolding trimmed
  ended_tracked = ended_by (λ (r : Shedder). r.tracked ≡ h.tracked) refl refl

  -- while a judgement more is to come, and after the last
  not_ended : 2 ≤ h.scan.remaining → ended h g ≡ h
  unfolding ended
  not_ended l = differs h.scan.remaining _ (trimmed h g) h (λ e. omega arith)

  is_ended : h.scan.remaining ≡ 0 → ended h g ≡ trimmed h g
  unfolding ended
  is_ended e = equals h.scan.remaining _ (trimmed h g) h (omega arith)

-- ---- a judgement of a scan that runs: what it leaves. The histogram is the one that it got, or cleared where the scan begins
abbrev twice : Scanning → Scanning
twice s = visit (visit s)

module _ (t k : ℕ) (s : Scanning) (l : k < 32) (p : Place t k s.head.scan) where
  turn_tables : held (ended_at (twice s)).head (ended_at (twice s)).rows (ended_at (twice s)).hist
      ≡ sweep s.head.overflow t (2 * k + 1) (sweep s.head.overflow t (2 * k) (held s.head s.rows s.hist))
  turn_tables =
      ap (λ (n : ℕ). record { rows = (twice s).rows; tracked = n; hist = (twice s).hist }) (ended_tracked (twice s).head (twice s).hist)
      ∙ tables_twice s
      ∙ ap (λ (n : ℕ). sweep s.head.overflow n (s.head.scan.next + 1) (sweep s.head.overflow n s.head.scan.next (held s.head s.rows s.hist))) p.stamp
      ∙ ap (λ (n : ℕ). sweep s.head.overflow t (n + 1) (sweep s.head.overflow t n (held s.head s.rows s.hist))) p.next

  turn_before : suc k < 32 → Keeps s.head (ended (twice s).head (twice s).hist)
  turn_before m = subst (Keeps s.head) (sym (not_ended (twice s).head (twice s).hist (omega (arith, (place_twice t k s l p).remaining)))) kept
    where
      kept : Keeps s.head (twice s).head
      kept = unfold visit visited in record { level = refl; trim = refl; «open» = refl; read = refl; admitted = refl }

  turn_last : suc k ≡ 32 → Stores s.head (ended (twice s).head (twice s).hist) (twice s).hist
  turn_last m = subst (λ (h : Shedder). Stores s.head h (twice s).hist) (sym (is_ended (twice s).head (twice s).hist (omega (arith, (place_twice t k s l p).remaining)))) (stored (twice s).hist)
    where
      stored : (g : Hist) → Stores s.head (trimmed (twice s).head g) g
      stored g = unfold visit visited trimmed in record { «open» = refl; trim = refl; level = refl; read = refl; admitted = refl }

  turn : (g : Hist) → s.hist ≡ begins_with k g → Visits t k (scanning s.head s.rows g) (ended_at (again (visit s)))
  turn g e =
      subst (λ (r : Scanning). Visits t k (scanning s.head s.rows g) (ended_at r)) (sym (both s (omega (arith, p.remaining))))
      (record {
        place = ended_place (twice s).head (twice s).hist t (suc k) (place_twice t k s l p);
        visits = ended_visits (twice s).head (twice s).hist ∙ visits_twice s;
        tables = turn_tables ∙ ap (λ (g : Hist). sweep s.head.overflow t (2 * k + 1) (sweep s.head.overflow t (2 * k) (held s.head s.rows g))) e;
        before = turn_before;
        last = turn_last;
      })

-- ---- every judgement of a scan
opened_place : (h : Shedder) (t : ℕ) → Place t 0 (opened h t).scan
unfolding opened
opened_place h t = record { remaining = refl; next = refl; stamp = refl; began = refl }

-- opening a scan changes no more than the scan's place
from_opened : (t : ℕ) (s left : Scanning) → Visits t 0 (scanning (opened s.head t) s.rows s.hist) left → Visits t 0 s left
unfolding opened
from_opened t s left v = record {
  place = v.place;
  visits = v.visits;
  tables = v.tables;
  before = λ m. let b = v.before m in record { level = b.level; trim = b.trim; «open» = b.«open»; read = b.read; admitted = b.admitted };
  last = λ m. let b = v.last m in record { «open» = b.«open»; trim = b.trim; level = b.level; read = b.read; admitted = b.admitted };
}

pub visits_two : {t k : ℕ} {got left : Scanning} → Judgement t k got left → Visits t k got left
visits_two {t} (begins s z d) =
    subst (Visits t 0 s) (sym (beginning s t z d))
    (from_opened t s _ (turn t 0 (scanning (opened s.head t) s.rows cleared) (omega arith) (opened_place s.head t) s.hist refl))
visits_two {t} (goes_on {k} j l s e clock) =
    let p : Place t (suc k) s.head.scan = subst (Place t (suc k)) (sym e) (visits_two j).place in
    subst (Visits t (suc k) s) (sym (running s clock (le-leb 1 s.head.scan.remaining (omega (arith, p.remaining)))))
    (turn t (suc k) s l p s.hist refl)

pub rests : (s : Scanning) (clock : ℕ) → s.head.scan.remaining ≡ 0 → clock < s.head.scan.began_ms + 500 → scanned s clock ≡ s
rests s clock z d = sym (scanned_idle s.head s.rows s.hist clock idle)
  where
    idle : is_idle s.head clock ≡ true
    idle = unfold is_idle in simp (lt-leb 1 s.head.scan.remaining (omega arith), lt-ltb clock (s.head.scan.began_ms + 500) d)
