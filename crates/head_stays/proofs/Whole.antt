-- A start and a scan leave the head whole, and the offsets. Assumes nothing.
use mathlib.Core.Path.{◌≡◌, refl}
use mathlib.Core.Bool.{Bool, true, false, ◌&&◌, cond}
use mathlib.Core.List.{List}
use Prim.Native.Nat.{ℕ, ◌+◌, ◌-◌, ◌≤◌, ◌<◌}
use native.Mathlib.Omega.{arith}
use lib.Dec.{eqb, leb, ltb}
use lib.ListN.{length}
use borrow.Author.Tests.{eqb-true, eq-eqb, leb-true}
use Rattle.store.specs.declared.lent.Sizes.{Sizes}
use Rattle.store.specs.Store.{Rows}
use Rattle.store.specs.Held.{sizes_of}
use Rattle.wants.specs.Wants.{Hist}
use Rattle.wants.specs.Wants as wants
use Rattle.head.specs.declared.Shedder.{Shedder}
use Rattle.head.specs.Questions.{rates_whole, is_stamp, tables_whole, rooms_whole, stamps_whole, head_whole, whole_with, tags_whole, slots_whole, memory_whole, sizes_whole, start_asked, judge_asked, cut_asked}
use Rattle.std.proofs.lemmas.Bool.{and_parts}
use Rattle.head.proofs.Tests.{zero_yes, both}
use Rattle.head.proofs.Whole.{Whole, tables-is, tables_sum}
use Rattle.head.proofs.Asked.{memory_of, with_is}
use Rattle.head.specs.Start.{Beginning, opening, start}
use Rattle.shifting.specs.Offsets as offsets
use Rattle.shifting.specs.Offsets.{rising, is_whole}
use Rattle.shifting.proofs.Whole.{whole_true}
use Rattle.parts.specs.Parts as parts
use Rattle.head_stays.specs.Whole.{begun_whole}
use Rattle.head_stays.proofs.Parts.{Fit, fit_dropped}
use Rattle.scan_trim.specs.Trimming.{trimmed}
use Rattle.scan.specs.Scanning.{Scanning, scanning, visited, visit, again, ended, opened, Started, started, begun, scanned, scanned_from}

-- ---- the memory has the capacities noted
pub judge_memory : (h : Shedder) (s : Sizes) (os cost : List ℕ) (stamp : ℕ) → judge_asked h s os cost stamp ≡ 0 → memory_whole h s ≡ true
unfolding judge_asked
judge_memory h s os cost stamp e =
    let a = zero_yes (whole_with h os) _ 2 e in
    (zero_yes (memory_whole h s) _ 3 a.1).0

pub cut_memory : (h : Shedder) (s : Sizes) (os cost : List ℕ) → cut_asked h s os cost ≡ 0 → memory_whole h s ≡ true
unfolding cut_asked
cut_memory h s os cost e =
    let a = zero_yes (whole_with h os) _ 2 e in
    (zero_yes (memory_whole h s) _ 3 a.1).0

pub memory_counted : (h : Shedder) (s : Sizes) → memory_whole h s ≡ true → s.counted ≡ h.counted_room
memory_counted h s e = (memory_of h s e).counted

-- ---- a start
pub opening_whole : (rate ceiling : List ℕ) (s : Sizes) → start_asked rate s ≡ 0 → head_whole (opening rate ceiling s.units s.counted) ≡ true
unfolding start_asked sizes_whole opening head_whole stamps_whole is_stamp tables_whole
opening_whole rate ceiling s e =
    let a = zero_yes (rates_whole rate) _ 0 e in
    let b = zero_yes (sizes_whole s) 0 1 a.1 in
    let d = and_parts (tags_whole s) _ b.0 in
    let f = and_parts (slots_whole s) _ d.1 in
    both (rates_whole rate && true) (true && rooms_whole s.units s.counted 0 0) (both (rates_whole rate) true a.0 refl) f.1

start_case : (b : Bool) (x y : Beginning) (P : Beginning → Type 0) → (b ≡ true → P x) → P y → P (cond b x y)
start_case true x y P p q = p refl
start_case false x y P p q = q

-- every part is empty
none_whole : (m : Rows) → offsets.Whole (parts.started m).offsets 0
unfolding parts.started is_whole rising
none_whole m = whole_true (parts.started m).offsets 0 refl

fresh : (m : Rows) (k : List (List ℕ)) (rate ceiling : List ℕ) → start_asked rate (sizes_of m k) ≡ 0 → whole_with (opening rate ceiling (length m.units) (length k)) (parts.started m).offsets ≡ true
fresh m k rate ceiling e =
    with_is (opening rate ceiling (length m.units) (length k)) (parts.started m).offsets (opening_whole rate ceiling (sizes_of m k) e)
    (unfold opening in none_whole m)

pub start_whole : (h : Shedder) (m : Rows) (k : List (List ℕ)) (g : Hist) (rate ceiling : List ℕ) → start_asked rate (sizes_of m k) ≡ 0 → begun_whole (start h m k g rate ceiling)
unfolding start
start_whole h m k g rate ceiling e = rw (eq-eqb (start_asked rate (sizes_of m k)) 0 e) (fresh m k rate ceiling e)

pub start_keeps : (h : Shedder) (m : Rows) (k : List (List ℕ)) (g : Hist) (rate ceiling : List ℕ) → whole_with h m.offsets ≡ true → begun_whole (start h m k g rate ceiling)
unfolding start
start_keeps h m k g rate ceiling w =
    start_case (eqb (start_asked rate (sizes_of m k)) 0) _ _ begun_whole (λ e. fresh m k rate ceiling (eqb-true (start_asked rate (sizes_of m k)) 0 e)) w

-- ---- the steps of a scan
pub visited_whole : (h : Shedder) (n : ℕ) → Whole h → 1 ≤ h.scan.remaining → n ≤ h.tracked → Whole (visited h n)
unfolding visited
visited_whole h n w p q =
    let s : h.scan.remaining + h.scan.next ≡ 64 = tables_sum h.scan.remaining h.scan.next w.tables p in
    record {
      rates = w.rates;
      clock = w.clock;
      at = w.at;
      began = w.began;
      read = w.read;
      tables = tables-is (h.scan.remaining - 1) (h.scan.next + 1) (omega (arith, s, p));
      units_least = w.units_least;
      units_most = w.units_most;
      counted_least = w.counted_least;
      counted_most = w.counted_most;
      tracked_held = omega (arith, q, w.tracked_held);
      counted_held = w.counted_held;
    }

-- a whole head, whose lists have the lengths of its room, and whose offsets are whole
pub record Kept (h : Shedder) (m : Rows) : Type 0 where
  pub head : Whole h
  pub rows : Fit m h.tracked h.unit_room

cond_kept : (b : Bool) (x y : Shedder) (m : Rows) → Kept x m → Kept y m → Kept (cond b x y) m
cond_kept true x y m p q = p
cond_kept false x y m p q = q

abbrev Keeps : Scanning → Type 0
Keeps s = Kept s.head s.rows

visit_kept : (s : Scanning) → Keeps s → 1 ≤ s.head.scan.remaining → Keeps (visit s)
unfolding visit
visit_kept s w p = record { head = visited_whole s.head _ w.head p (omega arith); rows = rows }
  where
    next : s.head.scan.next < 64
    next = omega (arith, tables_sum s.head.scan.remaining s.head.scan.next w.head.tables p, p)

    rows : Fit (parts.dropped s.rows s.head.tracked s.head.scan.next s.head.scan.at_ms) (visited s.head (parts.left s.rows s.head.tracked s.head.scan.next s.head.scan.at_ms)).tracked (visited s.head (parts.left s.rows s.head.tracked s.head.scan.next s.head.scan.at_ms)).unit_room
    rows = unfold visited in fit_dropped s.rows s.head.tracked s.head.unit_room s.head.scan.next s.head.scan.at_ms w.rows next

cond_scanning : (b : Bool) (x y : Scanning) → (b ≡ true → Keeps x) → Keeps y → Keeps (cond b x y)
cond_scanning true x y p q = p refl
cond_scanning false x y p q = q

again_kept : (s : Scanning) → Keeps s → Keeps (again s)
unfolding again
again_kept s w = cond_scanning (leb 1 s.head.scan.remaining) (visit s) s (λ e. visit_kept s w (leb-true 1 s.head.scan.remaining e)) w

pub trimmed_whole : (h : Shedder) (g : Hist) → Whole h → Whole (trimmed h g)
unfolding trimmed
trimmed_whole h g w = record {
  rates = w.rates;
  clock = w.clock;
  at = w.at;
  began = w.began;
  read = w.clock;
  tables = w.tables;
  units_least = w.units_least;
  units_most = w.units_most;
  counted_least = w.counted_least;
  counted_most = w.counted_most;
  tracked_held = w.tracked_held;
  counted_held = w.counted_held;
}

trimmed_kept : (h : Shedder) (g : Hist) (m : Rows) → Kept h m → Kept (trimmed h g) m
trimmed_kept h g m w = record { head = trimmed_whole h g w.head; rows = unfold trimmed in w.rows }

ended_kept : (h : Shedder) (g : Hist) (m : Rows) → Kept h m → Kept (ended h g) m
unfolding ended
ended_kept h g m w = cond_kept (eqb h.scan.remaining 0) (trimmed h g) h m (trimmed_kept h g m w) w

pub opened_whole : (h : Shedder) (clock : ℕ) → Whole h → clock < 9007199254740992 → Whole (opened h clock)
unfolding opened
opened_whole h clock w p = record {
  rates = w.rates;
  clock = w.clock;
  at = p;
  began = p;
  read = w.read;
  tables = tables-is 64 0 refl;
  units_least = w.units_least;
  units_most = w.units_most;
  counted_least = w.counted_least;
  counted_most = w.counted_most;
  tracked_held = w.tracked_held;
  counted_held = w.counted_held;
}

opened_kept : (h : Shedder) (clock : ℕ) (m : Rows) → Kept h m → clock < 9007199254740992 → Kept (opened h clock) m
opened_kept h clock m w p = record { head = opened_whole h clock w.head p; rows = unfold opened in w.rows }

cond_started : (b : Bool) (x y : Started) (m : Rows) → Kept x.head m → Kept y.head m → Kept (cond b x y).head m
cond_started true x y m p q = p
cond_started false x y m p q = q

begun_kept : (h : Shedder) (g : Hist) (clock : ℕ) (m : Rows) → Kept h m → clock < 9007199254740992 → Kept (begun h g clock).head m
unfolding begun
begun_kept h g clock m w p =
    cond_started (leb 1 h.scan.remaining) (started h g) _ m w
    (cond_started (ltb clock (h.scan.began_ms + 500)) (started h g) (started (opened h clock) wants.cleared) m w (opened_kept h clock m w p))

scanned_case : (m : Rows) (b : Started) → Kept b.head m → Keeps (scanned_from m b)
scanned_case m b w =
    cond_scanning (leb 1 b.head.scan.remaining) _ (scanning b.head m b.hist)
    (λ e. ended_kept (again (visit (scanning b.head m b.hist))).head _ _ (again_kept (visit (scanning b.head m b.hist)) (visit_kept (scanning b.head m b.hist) w (leb-true 1 b.head.scan.remaining e)))) w

pub scanned_kept : (s : Scanning) (clock : ℕ) → Keeps s → clock < 9007199254740992 → Keeps (scanned s clock)
unfolding scanned
scanned_kept s clock w p = scanned_case s.rows (begun s.head s.hist clock) (begun_kept s.head s.hist clock s.rows w p)
