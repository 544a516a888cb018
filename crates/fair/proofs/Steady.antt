-- What the questions ask of head and memory stays so: stamps, tables, counts and lengths, at each step of a judgement and a cut. Assumes nothing.
use mathlib.Core.Path.{◌≡◌, refl, ap, ◌∙◌, subst}
use Prim.Native.Nat.{ℕ, zero, suc, ◌+◌, ◌-◌, ◌≤◌, ◌<◌, max}
use native.Mathlib.Nat.{le_refl, le_of_eq, le_trans}
use native.Mathlib.Numerals.{add-one}
use native.Mathlib.Omega.{arith}
use mathlib.Core.Bool.{Bool, true, false, cond}
use mathlib.Core.List.{List}
use lib.Dec.{eqb, leb, ltb}
use lib.ListN.{length, get_or, set, length-set, replicate}
use lib.Ieee.{Float}
use borrow.Author.Tests.{ltb-true, ltb-false, leb-true}
use Rattle.verdict.specs.Verdict.{is_admitted}
use Rattle.verdict.specs.declared.Verdict.{Verdict}
use Rattle.sender.specs.declared.Unit as unit
use Rattle.sender.specs.declared.Words.{Words}
use Rattle.sender.specs.declared.Name.{Name}
use Rattle.sender.specs.Sender as sender
use Rattle.cut_sources.specs.Counted as counts
use Rattle.store.specs.Store.{Rows, with_tags}
use Rattle.cut_sources.specs.Counted.{Sources, sources}
use Rattle.cut_sources.proofs.Pruning.{prune_none, prune_next, frees_so}
use Rattle.wants.specs.Wants as wants
use Rattle.wants.specs.Wants.{Hist}
use Rattle.head.specs.declared.Shedder.{Shedder}
use Rattle.store.specs.declared.Cause.{Cause}
use Rattle.fair.specs.Given as goal
use Rattle.fair.specs.Given.{Memory, memory}
use Rattle.fair.proofs.Changing.{turned_head}

-- ---- counted sources
up_long : (rows : List (List ℕ)) (i c : ℕ) → length (counts.counted_up rows i c) ≡ length rows
unfolding counts.counted_up
up_long rows i c = length-set rows i _

add_long : (rows : List (List ℕ)) (i : ℕ) (w : Words) → length (counts.counted_add rows i w) ≡ length rows
unfolding counts.counted_add
add_long rows i w = length-set rows i _

pub record Kept (size : ℕ) (s : Sources) : Type 0 where
  pub long : length s.rows ≡ size
  pub few : s.count ≤ size

count_kept : (tags : List ℕ) (rows : List (List ℕ)) (n : ℕ) (w : Name) (c : ℕ) → n < length rows → Kept (length rows) (counts.count tags rows n w c)
unfolding counts.count
count_kept tags rows n w c h = go (ltb (counts.counted_find tags rows w n) n)
  where
    go : (b : Bool) → Kept (length rows) (cond b (sources n (counts.counted_up rows (counts.counted_find tags rows w n) c)) (sources (n + 1) (counts.counted_up (counts.counted_add rows n w.words) n c)))
    go true = record { long = up_long rows (counts.counted_find tags rows w n) c; few = omega arith }
    go false = record { long = up_long (counts.counted_add rows n w.words) n c ∙ add_long rows n w.words; few = omega arith }

one_long : (s : Sources) (k i : ℕ) → length (counts.prune_one s k i).rows ≡ length s.rows
unfolding counts.prune_one
one_long s k i = go (ltb k (counts.total_at s.rows i))
  where
    go : (b : Bool) → length (cond b (sources (s.count + 1) (set (set s.rows i (replicate 8 0)) s.count (counts.counted_row s.rows i))) (sources s.count (set s.rows i (replicate 8 0)))).rows ≡ length s.rows
    go true = length-set (set s.rows i (replicate 8 0)) s.count _ ∙ length-set s.rows i _
    go false = length-set s.rows i _

prune_long : (rows : List (List ℕ)) (k n : ℕ) → n ≤ length rows → length (counts.prune rows k n).rows ≡ length rows
prune_long rows k zero h = ap (λ (s : Sources). length s.rows) (prune_none rows k)
prune_long rows k (suc n) h =
    let e : counts.prune rows k (suc n) ≡ counts.prune_one (counts.prune rows k n) k n = rw add-one at (prune_next rows k n (omega arith)) in
    ap (λ (s : Sources). length s.rows) e ∙ one_long (counts.prune rows k n) k n ∙ prune_long rows k n (omega arith)

pub record Freed (size : ℕ) (s : Sources) : Type 0 where
  pub long : length s.rows ≡ size
  pub few : s.count < size

pruned_freed : (size : ℕ) (s : Sources) → 0 < size → Kept size s → Freed size (counts.pruned s)
unfolding counts.pruned
pruned_freed size s z k = go (ltb s.count (length s.rows)) refl
  where
    go : (b : Bool) → ltb s.count (length s.rows) ≡ b → Freed size (cond b s (counts.prune s.rows (counts.keep_from (counts.totals s.rows s.count)) s.count))
    go true e = record { long = k.long; few = omega (arith, ltb-true s.count (length s.rows) e, k.long) }
    go false e =
        let l : length s.rows ≤ s.count = ltb-false s.count (length s.rows) e in
        let p = counts.prune s.rows (counts.keep_from (counts.totals s.rows s.count)) s.count in
        let m : s.count ≤ length s.rows = omega (arith, k.few, k.long) in
        record {
          long = prune_long s.rows (counts.keep_from (counts.totals s.rows s.count)) s.count m ∙ k.long;
          few = omega (arith, frees_so s.rows p.rows s.count (counts.keep_from (counts.totals s.rows s.count)) p.count refl refl (omega (arith, k.long)) m, k.few);
        }

-- ---- the head: its stamps are not past the clock, its tables add up, a counted row is free
pub data Tables (remaining next : ℕ) : Type 0 where
  running : remaining + next ≡ 64 → Tables remaining next
  none : remaining ≡ 0 → next ≡ 0 → Tables remaining next

pub record Fine (size : ℕ) (h : Shedder) (clk : ℕ) : Type 0 where
  pub clock : h.flow.at_ms ≡ clk
  pub at : h.scan.at_ms ≤ clk
  pub began : h.scan.began_ms ≤ clk
  pub read : h.scan.read_ms ≤ clk
  pub tables : Tables h.scan.remaining h.scan.next
  pub room : h.counted_room ≡ size
  pub few : h.counted < size

next_tables : (r n : ℕ) → 1 ≤ r → Tables r n → Tables (r - 1) (n + 1)
next_tables r n l (running e) = running (omega arith)
next_tables r n l (none e f) = absurd (omega arith)

module _ (size : ℕ) where
  visit_fine : (h : Shedder) (m : Rows) (g : Hist) (clk : ℕ) → 1 ≤ h.scan.remaining → Fine size h clk → Fine size (goal.visit (goal.scanning h m g)).head clk
  unfolding goal.visit goal.visited
  visit_fine h m g clk l f = record { clock = f.clock; at = f.at; began = f.began; read = f.read; tables = next_tables h.scan.remaining h.scan.next l f.tables; room = f.room; few = f.few }

  again_fine : (s : goal.Scanning) (clk : ℕ) → Fine size s.head clk → Fine size (goal.again s).head clk
  unfolding goal.again
  again_fine s clk f = go (leb 1 s.head.scan.remaining) refl
    where
      go : (b : Bool) → leb 1 s.head.scan.remaining ≡ b → Fine size (cond b (goal.visit s) s).head clk
      go true e = visit_fine s.head s.rows s.hist clk (leb-true 1 s.head.scan.remaining e) f
      go false e = f

  trimmed_fine : (h : Shedder) (g : Hist) (clk : ℕ) → Fine size h clk → Fine size (goal.trimmed h g) clk
  unfolding goal.trimmed
  trimmed_fine h g clk f = record { clock = f.clock; at = f.at; began = f.began; read = le_of_eq f.clock; tables = f.tables; room = f.room; few = f.few }

  ended_fine : (h : Shedder) (g : Hist) (clk : ℕ) → Fine size h clk → Fine size (goal.ended h g) clk
  unfolding goal.ended
  ended_fine h g clk f = go (eqb h.scan.remaining 0)
    where
      go : (b : Bool) → Fine size (cond b (goal.trimmed h g) h) clk
      go true = trimmed_fine h g clk f
      go false = f

  opened_fine : (h : Shedder) (clk : ℕ) → Fine size h clk → Fine size (goal.opened h clk) clk
  unfolding goal.opened
  opened_fine h clk f = record { clock = f.clock; at = le_refl clk; began = le_refl clk; read = f.read; tables = running refl; room = f.room; few = f.few }

  begun_fine : (h : Shedder) (g : Hist) (clk : ℕ) → Fine size h clk → Fine size (goal.begun h g clk).head clk
  unfolding goal.begun
  begun_fine h g clk f = go (leb 1 h.scan.remaining) (ltb clk (h.scan.began_ms + 500))
    where
      go : (c d : Bool) → Fine size (cond c (goal.started h g) (cond d (goal.started h g) (goal.started (goal.opened h clk) wants.cleared))).head clk
      go true d = f
      go false true = f
      go false false = opened_fine h clk f

  pub scanned_fine : (h : Shedder) (m : Rows) (g : Hist) (clk : ℕ) → Fine size h clk → Fine size (goal.scanned (goal.scanning h m g) clk).head clk
  unfolding goal.scanned
  scanned_fine h m g clk f = go (goal.begun h g clk) (begun_fine h g clk f)
    where
      by : (s : goal.Started) → Fine size s.head clk → (c : Bool) → leb 1 s.head.scan.remaining ≡ c
          → Fine size (cond c (goal.ended_at (goal.again (goal.visit (goal.scanning s.head m s.hist)))) (goal.scanning s.head m s.hist)).head clk
      by s b true e =
          let v = goal.visit (goal.scanning s.head m s.hist) in
          ended_fine (goal.again v).head (goal.again v).hist clk (again_fine v clk (visit_fine s.head m s.hist clk (leb-true 1 s.head.scan.remaining e) b))
      by s b false e = b

      go : (s : goal.Started) → Fine size s.head clk → Fine size (goal.scanned_from m s).head clk
      go s b = by s b (leb 1 s.head.scan.remaining) refl

  -- ---- the judgement before counting
  pub judged_fine : (h : Shedder) (m : Rows) (u : unit.Unit) (cost : List Float) (clk now : ℕ) → clk ≤ now → Fine size h clk → Fine size (goal.judged h m u cost now).head now
  unfolding goal.judged goal.flowed
  judged_fine h m u cost clk now l f =
      record { clock = refl; at = le_trans f.at l; began = le_trans f.began l; read = le_trans f.read l; tables = f.tables; room = f.room; few = f.few }

  pub handed_fine : (h : Shedder) (m : Rows) (u : unit.Unit) (cost : List Float) (clk : ℕ) → Fine size h clk → Fine size (goal.handed_back (goal.kept_by h m) u cost).head clk
  unfolding goal.handed_back goal.flowed_back
  handed_fine h m u cost clk f = record { clock = f.clock; at = f.at; began = f.began; read = f.read; tables = f.tables; room = f.room; few = f.few }

  -- ---- new rates
  pub turned_fine : (h : Shedder) (rate ceiling : List ℕ) (t : ℕ) → Fine size h h.flow.at_ms → Fine size (turned_head h rate ceiling t) (max t h.flow.at_ms)
  unfolding goal.turned
  turned_fine h rate ceiling t f =
      let l : h.flow.at_ms ≤ max t h.flow.at_ms = omega arith in
      record { clock = refl; at = le_trans f.at l; began = le_trans f.began l; read = le_trans f.read l; tables = f.tables; room = f.room; few = f.few }

  -- ---- counting
  pub record Tallied (t : goal.Tally) (clk : ℕ) : Type 0 where
    pub fine : Fine size t.head clk
    pub long : length t.counted ≡ size

  pub tallied_fine : (h : Shedder) (i : List ℕ) (k : List (List ℕ)) (w : Name) (c r : ℕ) (clk : ℕ) → Fine size h clk → length k ≡ size → Tallied (goal.tallied (goal.tally h i k) w c r) clk
  unfolding goal.tallied goal.added
  tallied_fine h i k w c r clk f l =
      let own : List ℕ = goal.source_tags (goal.tally h i k) in
      let p : Freed size (counts.pruned (counts.count own k h.counted w c)) =
      pruned_freed size (counts.count own k h.counted w c) (omega (arith, f.few)) (subst (λ (n : ℕ). Kept n (counts.count own k h.counted w c)) l (count_kept own k h.counted w c (omega (arith, f.few)))) in
      record { fine = record { clock = f.clock; at = f.at; began = f.began; read = f.read; tables = f.tables; room = f.room; few = p.few }; long = p.long }

  pub counted_fine : (h : Shedder) (i : List ℕ) (k : List (List ℕ)) (w : Name) (v : Verdict) (cost : List ℕ) (clk : ℕ) → Fine size h clk → length k ≡ size → Tallied (goal.count_verdict (goal.tally h i k) w v cost) clk
  unfolding goal.count_verdict
  counted_fine h i k w v cost clk f l = go (is_admitted v)
    where
      go : (c : Bool) → Tallied (cond c (goal.tally h i k) (goal.tallied (goal.tally h i k) w (goal.cause_of v) (get_or cost 0 0))) clk
      go true = record { fine = f; long = l }
      go false = tallied_fine h i k w (goal.cause_of v) (get_or cost 0 0) clk f l

  -- ---- THE JUDGEMENT and THE CUT
  pub record Lasts (h : Shedder) (k : List (List ℕ)) (clk : ℕ) : Type 0 where
    pub fine : Fine size h clk
    pub long : length k ≡ size

  pub bounded_lasts : (h : Shedder) (m : Memory) (u : unit.Unit) (cost : List ℕ) (t : ℕ) → Lasts h m.counted h.flow.at_ms → Lasts (goal.bounded h m u cost t).head (goal.bounded h m u cost t).memory.counted (max t h.flow.at_ms)
  unfolding goal.bounded
  bounded_lasts h m u cost t b =
      let now = max t h.flow.at_ms in
      let l : h.flow.at_ms ≤ max t h.flow.at_ms = omega arith in
      let p = goal.judged h m.rows u (goal.numbers cost) now in
      let t = goal.count_verdict (goal.tally p.head p.rows.tags m.counted) (sender.name_of u) p.verdict cost in
      let q = counted_fine p.head p.rows.tags m.counted (sender.name_of u) p.verdict cost now (judged_fine h m.rows u (goal.numbers cost) h.flow.at_ms now l b.fine) b.long in
      record { fine = scanned_fine t.head (with_tags p.rows t.tags) m.hist now q.fine; long = q.long }

  pub noted_lasts : (h : Shedder) (i : List ℕ) (k : List (List ℕ)) (u : unit.Unit) (c : Cause) (cost : List ℕ) (clk : ℕ) → Lasts h k clk → Lasts (goal.noted (goal.tally h i k) (sender.name_of u) c cost).head (goal.noted (goal.tally h i k) (sender.name_of u) c cost).counted clk
  unfolding goal.noted
  noted_lasts h i k u c cost clk b = let q = tallied_fine h i k (sender.name_of u) (goal.index_of c) (get_or cost 0 0) clk b.fine b.long in record { fine = q.fine; long = q.long }
