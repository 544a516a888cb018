-- How the real state and the model's store are tied at the rates in force, and that a scan keeps them so: its visits are one sweep. Assumes nothing.
use mathlib.Core.Path.{◌≡◌, refl, sym, ap, ◌∙◌, subst}
use Prim.Native.Nat.{ℕ, ◌+◌, ◌-◌, ◌≤◌, ◌<◌}
use native.Mathlib.Nat.{le_refl}
use native.Mathlib.Omega.{arith}
use mathlib.Core.Bool.{Bool, true, false, cond}
use mathlib.Core.List.{List}
use lib.Dec.{eqb, leb, ltb}
use lib.ListN.{length, get_or, length-replicate}
use lib.Ieee as Ieee
use lib.Ieee.{Float, binary64, nan}
use lib.Ieee.Fits.{mul-fits}
use borrow.Author.Tests.{leb-true}
use Rattle.ieee.specs.Doubles.{one, nothing}
use Rattle.ieee.specs.Extremes.{most}
use Rattle.flow.specs.Flow.{dims, at, bucket_at}
use Rattle.flow.proofs.Parts.{upto_at}
use Rattle.parts.specs.Parts.{Rows}
use Rattle.wants.specs.Wants as wants
use Rattle.wants.specs.Wants.{Hist}
use Rattle.head.specs.declared.Shedder.{Shedder}
use Rattle.fair.specs.Given as goal
use Rattle.fair.specs.Tokens.{pot_of}
use Rattle.fair.specs.Store as model
use Rattle.fair.proofs.Level.{Level, level_is}
use Rattle.fair.proofs.View.{Name, same, shares, R, listed}
use Rattle.fair.proofs.Back.{Whole}
use Rattle.fair.proofs.Entry as entry
use Rattle.fair.proofs.Stored.{Held, held_dropped}
use Rattle.fair.proofs.Scanned as scanning
use Rattle.fair.proofs.Scanned.{Counted, visits, listed_scanned}

module _ (room : ℕ) where
  -- ---- the tie
  pub record Tied (rate ceiling : List ℕ) (h : Shedder) (m : Rows) (st : entry.S room) (clk : ℕ) : Type 0 where
    pub rate_is : h.flow.rate ≡ rate
    pub ceiling_is : h.flow.ceiling ≡ ceiling
    pub room_is : h.unit_room ≡ room
    pub clock_is : h.flow.at_ms ≡ clk
    pub long : length h.flow.buckets ≡ dims
    pub pot_is : (d : ℕ) → d < dims → pot_of (bucket_at h.flow.buckets d) (get_or rate d 0) (get_or ceiling d 0) ≡ st.pot d
    pub rows_is : listed room m h.tracked ≡ st.rows
    pub overflow_is : h.overflow ≡ st.overflow
    pub whole : Whole h.overflow
    pub level_is : (d : ℕ) → d < dims → Level (at h.level d)
    pub scan_is : h.scan.at_ms ≤ clk
    pub tables_is : h.scan.remaining + h.scan.next ≤ 64
    pub held : Held room m h.tracked

  -- the store with other rows
  abbrev with_rows : entry.S room → List (R room) → entry.S room
  with_rows st xs = record { pot = st.pot; rows = xs; overflow = st.overflow }

  -- with those that the memory holds
  abbrev read : entry.S room → Shedder → Rows → entry.S room
  read st h m = with_rows st (listed room m h.tracked)

  module _ (rate ceiling : List ℕ) where
    re_rows : (h : Shedder) (m : Rows) (st : entry.S room) (clk : ℕ) (xs : List (R room)) → st.rows ≡ xs → Tied rate ceiling h m st clk → Tied rate ceiling h m (with_rows st xs) clk
    re_rows h m st clk xs e b = subst (λ (ys : List (R room)). Tied rate ceiling h m (with_rows st ys) clk) e b

    -- ---- visits
    visit_tied : (h : Shedder) (m : Rows) (g : Hist) (st : entry.S room) (clk : ℕ) → 1 ≤ h.scan.remaining → Tied rate ceiling h m st clk
        → Tied rate ceiling (goal.visit (goal.scanning h m g)).head (goal.visit (goal.scanning h m g)).rows
        (read st (goal.visit (goal.scanning h m g)).head (goal.visit (goal.scanning h m g)).rows) clk
    unfolding goal.visit goal.visited
    visit_tied h m g st clk l b = record {
      rate_is = b.rate_is;
      ceiling_is = b.ceiling_is;
      room_is = b.room_is;
      clock_is = b.clock_is;
      long = b.long;
      pot_is = b.pot_is;
      rows_is = refl;
      overflow_is = b.overflow_is;
      whole = b.whole;
      level_is = b.level_is;
      scan_is = b.scan_is;
      tables_is = omega (arith, l, b.tables_is);
      held = held_dropped room m h.tracked h.scan.next h.scan.at_ms b.held (omega (arith, l, b.tables_is));
    }

    -- a second one, if a table is left
    again_tied : (s : goal.Scanning) (st : entry.S room) (clk : ℕ) → Tied rate ceiling s.head s.rows st clk
        → Tied rate ceiling (goal.again s).head (goal.again s).rows (read st (goal.again s).head (goal.again s).rows) clk
    unfolding goal.again
    again_tied s st clk b = go (leb 1 s.head.scan.remaining) refl
      where
        go : (c : Bool) → leb 1 s.head.scan.remaining ≡ c
            → Tied rate ceiling (cond c (goal.visit s) s).head (cond c (goal.visit s) s).rows (read st (cond c (goal.visit s) s).head (cond c (goal.visit s) s).rows) clk
        go true e = visit_tied s.head s.rows s.hist st clk (leb-true 1 s.head.scan.remaining e) b
        go false e = re_rows s.head s.rows st clk (listed room s.rows s.head.tracked) (sym b.rows_is) b

    -- ---- the level
    levels_lawful : (gap trim : List Float) (d : ℕ) → d < dims → Level (at (goal.levels gap trim) d)
    unfolding goal.levels
    levels_lawful gap trim d small =
        subst Level (sym (upto_at nan (λ (d : ℕ). most (Ieee.mul binary64 (at gap d) (at trim d)) one) dims goal.zeros d small (omega (arith, length-replicate dims nothing))))
        (level_is (Ieee.mul binary64 (at gap d) (at trim d)) (mul-fits binary64 (at gap d) (at trim d)))

    trimmed_tied : (h : Shedder) (m : Rows) (g : Hist) (st : entry.S room) (clk : ℕ) → Tied rate ceiling h m st clk → Tied rate ceiling (goal.trimmed h g) m st clk
    unfolding goal.trimmed
    trimmed_tied h m g st clk b = record {
      rate_is = b.rate_is;
      ceiling_is = b.ceiling_is;
      room_is = b.room_is;
      clock_is = b.clock_is;
      long = b.long;
      pot_is = b.pot_is;
      rows_is = b.rows_is;
      overflow_is = b.overflow_is;
      whole = b.whole;
      level_is = levels_lawful (goal.opens g (goal.numbers h.flow.rate)) (goal.trims_at h g);
      scan_is = b.scan_is;
      tables_is = b.tables_is;
      held = b.held;
    }

    ended_tied : (h : Shedder) (m : Rows) (g : Hist) (st : entry.S room) (clk : ℕ) → Tied rate ceiling h m st clk → Tied rate ceiling (goal.ended h g) m st clk
    unfolding goal.ended
    ended_tied h m g st clk b = go (eqb h.scan.remaining 0)
      where
        go : (c : Bool) → Tied rate ceiling (cond c (goal.trimmed h g) h) m st clk
        go true = trimmed_tied h m g st clk b
        go false = b

    ended_count : (h : Shedder) (g : Hist) → (goal.ended h g).tracked ≡ h.tracked
    unfolding goal.ended goal.trimmed
    ended_count h g = go (eqb h.scan.remaining 0)
      where
        go : (c : Bool) → (cond c (goal.trimmed h g) h).tracked ≡ h.tracked
        go true = refl
        go false = refl

    -- ---- a scan begins
    opened_tied : (h : Shedder) (m : Rows) (st : entry.S room) (clk : ℕ) → Tied rate ceiling h m st clk → Tied rate ceiling (goal.opened h clk) m st clk
    unfolding goal.opened
    opened_tied h m st clk b = record {
      rate_is = b.rate_is;
      ceiling_is = b.ceiling_is;
      room_is = b.room_is;
      clock_is = b.clock_is;
      long = b.long;
      pot_is = b.pot_is;
      rows_is = b.rows_is;
      overflow_is = b.overflow_is;
      whole = b.whole;
      level_is = b.level_is;
      scan_is = le_refl clk;
      tables_is = le_refl 64;
      held = b.held;
    }

    pub begun_tied : (h : Shedder) (m : Rows) (g : Hist) (st : entry.S room) (clk : ℕ) → Tied rate ceiling h m st clk → Tied rate ceiling (goal.begun h g clk).head m st clk
    unfolding goal.begun
    begun_tied h m g st clk b = go (leb 1 h.scan.remaining) (ltb clk (h.scan.began_ms + 500))
      where
        go : (c d : Bool) → Tied rate ceiling (cond c (goal.started h g) (cond d (goal.started h g) (goal.started (goal.opened h clk) wants.cleared))).head m st clk
        go true d = b
        go false true = b
        go false false = opened_tied h m st clk b

    -- ---- THE SCAN of a judgement: one sweep of the rows in the parts of the tables that it visits, and more than 8 s old at its stamp
    -- the rows that it comes by, told by their places
    abbrev came_from : Rows → Shedder → ℕ → R room → Bool
    came_from m b = scanning.came room (leb 1 b.scan.remaining) (leb 1 (b.scan.remaining - 1)) m b.scan.next b.scan.at_ms

    abbrev pub came : Shedder → Rows → Hist → ℕ → ℕ → R room → Bool
    came h m g clk = came_from m (goal.begun h g clk).head

    abbrev stale : (ℕ → R room → Bool) → ℕ → ℕ → R room → Bool
    stale p clk = model.stale Name same shares room p clk

    abbrev counted : goal.Scanning → Counted
    counted s = record { rows = s.rows; count = s.head.tracked }

    module _ (m : Rows) (s : goal.Started) where
      abbrev first : goal.Scanning
      first = goal.scanning s.head m s.hist

      abbrev last : goal.Scanning
      last = goal.scanned_from m s

      pub visits_are : counted last
          ≡ visits (leb 1 s.head.scan.remaining) (leb 1 (s.head.scan.remaining - 1)) (counted first) s.head.scan.next s.head.scan.at_ms
      unfolding goal.visit goal.visited goal.again
      visits_are = by (leb 1 s.head.scan.remaining) (leb 1 (s.head.scan.remaining - 1))
        where
          by : (c d : Bool) → counted (cond c (goal.ended_at (cond d (goal.visit (goal.visit first)) (goal.visit first))) first)
              ≡ visits c d (counted first) s.head.scan.next s.head.scan.at_ms
          by true true =
              let v = goal.visit (goal.visit first) in
              ap (λ (n : ℕ). record { rows = v.rows; count = n }) (ended_count v.head v.hist)
          by true false =
              let v = goal.visit first in
              ap (λ (n : ℕ). record { rows = v.rows; count = n }) (ended_count v.head v.hist)
          by false d = refl

      module _ (st : entry.S room) (clk : ℕ) (b : Tied rate ceiling s.head m st clk) where
        left_tied : Tied rate ceiling last.head last.rows (read st last.head last.rows) clk
        left_tied = by (leb 1 s.head.scan.remaining) refl
          where
            by : (c : Bool) → leb 1 s.head.scan.remaining ≡ c
                → Tied rate ceiling (cond c (goal.ended_at (goal.again (goal.visit first))) first).head (cond c (goal.ended_at (goal.again (goal.visit first))) first).rows
                (read st (cond c (goal.ended_at (goal.again (goal.visit first))) first).head (cond c (goal.ended_at (goal.again (goal.visit first))) first).rows) clk
            by true e =
                let v = goal.visit first in
                let w = goal.again v in
                let x = read st v.head v.rows in
                let y = read st w.head w.rows in
                let a : Tied rate ceiling (goal.ended w.head w.hist) w.rows y clk =
                ended_tied w.head w.rows w.hist y clk (again_tied v x clk (visit_tied s.head m s.hist st clk (leb-true 1 s.head.scan.remaining e) b)) in
                re_rows (goal.ended w.head w.hist) w.rows y clk (listed room w.rows (goal.ended w.head w.hist).tracked) (sym a.rows_is) a
            by false e = re_rows s.head m st clk (listed room m s.head.tracked) (sym b.rows_is) b

        left_list : listed room last.rows last.head.tracked ≡ model.sweep Name same shares room (stale (came_from m s.head) clk) st.rows
        left_list =
            ap (λ (c : Counted). listed room c.rows c.count) visits_are
            ∙ listed_scanned room m s.head.tracked s.head.scan.next s.head.scan.at_ms (leb 1 s.head.scan.remaining) (leb 1 (s.head.scan.remaining - 1)) b.held.well.sound
            (λ e. omega (arith, leb-true 1 s.head.scan.remaining e, b.tables_is)) (λ e. omega (arith, leb-true 1 (s.head.scan.remaining - 1) e, b.tables_is)) clk b.scan_is
            ∙ ap (λ (rs : List (R room)). model.sweep Name same shares room (stale (came_from m s.head) clk) rs) b.rows_is

    pub scanned_tied : (h : Shedder) (m : Rows) (g : Hist) (st : entry.S room) (clk : ℕ) → Tied rate ceiling h m st clk
        → Tied rate ceiling (goal.scanned (goal.scanning h m g) clk).head (goal.scanned (goal.scanning h m g) clk).rows
        (model.swept Name same shares room (stale (came h m g clk) clk) st) clk
    unfolding goal.scanned
    scanned_tied h m g st clk b =
        let s = goal.begun h g clk in
        let a = begun_tied h m g st clk b in
        let z = goal.scanned_from m s in
        re_rows z.head z.rows (read st z.head z.rows) clk _ (left_list m s st clk a) (left_tied m s st clk a)
