-- The visits of a judgement's scan, two tables, one or none, are one sweep of the rows that the model calls stale. Assumes nothing.
use mathlib.Core.Path.{◌≡◌, refl, sym, ◌∙◌}
use mathlib.Core.Bool.{Bool, true, false, ◌&&◌, cond}
use mathlib.Core.List.{List}
use Prim.Native.Nat.{ℕ, ◌+◌, ◌≤◌, ◌<◌}
use native.Mathlib.Omega.{arith}
use lib.Dec.{leb, ltb}
use borrow.Author.Tests.{ltb-true, lt-ltb}
use Rattle.shifting.specs.Offsets.{«PARTS»}
use Rattle.parts.specs.Parts.{Rows, begin, end, dropped, left}
use Rattle.parts.specs.Laws.{Sound}
use Rattle.fair.specs.Store as model
use Rattle.fair.specs.Bounds.{stale_after}
use Rattle.fair.proofs.Places as places
use Rattle.fair.proofs.View.{Name, same, shares, R, listed}
use Rattle.fair.proofs.Stored.{Held, held_dropped}
use Rattle.fair.proofs.Dropped.{old, old_within, listed_dropped, listed_twice}

-- the rows, and how many records they hold
pub record Counted : Type 0 where
  pub rows : Rows
  pub count : ℕ

-- a visit of a table drops its stale records
abbrev pub visit : Counted → ℕ → ℕ → Counted
visit c table at_ms = record { rows = dropped c.rows c.count table at_ms; count = left c.rows c.count table at_ms }

-- of the table t, where `one`, and then of the next, where `two`
abbrev pub visits : Bool → Bool → Counted → ℕ → ℕ → Counted
visits one two c t at_ms = cond one (cond two (visit (visit c t at_ms) (t + 1) at_ms) (visit c t at_ms)) c

module _ (room : ℕ) where
  abbrev sweep : (ℕ → R room → Bool) → List (R room) → List (R room)
  sweep p rs = model.sweep Name same shares room p rs

  -- the rows that they come by: those of the tables' parts that are old, where the first visit finds them
  abbrev pub came : Bool → Bool → Rows → ℕ → ℕ → ℕ → R room → Bool
  came one two m t at_ms i r = cond one (old_within room at_ms (begin m t) (cond two (end m (t + 1)) (end m t)) i r) false

  -- the model's stale rows among them, by the clock
  abbrev pub stale : (ℕ → R room → Bool) → ℕ → ℕ → R room → Bool
  stale scanned clock = model.stale Name same shares room scanned clock

  -- what is old by the stamp is so by the clock
  old_later : (at_ms clock : ℕ) → at_ms ≤ clock → (x : Bool) (r : R room)
      → x && old room at_ms r ≡ (x && old room at_ms r) && ltb (r.used.at_ms + stale_after) clock
  old_later at_ms clock l false r = refl
  old_later at_ms clock l true r = by (old room at_ms r) refl
    where
      by : (b : Bool) → old room at_ms r ≡ b → b ≡ b && ltb (r.used.at_ms + stale_after) clock
      by false e = refl
      by true e = sym (lt-ltb (r.used.at_ms + stale_after) clock (omega (arith, ltb-true (r.used.at_ms + 8000) at_ms e)))

  came_stale : (one two : Bool) (m : Rows) (t at_ms clock : ℕ) → at_ms ≤ clock → (i : ℕ) (r : R room)
      → came one two m t at_ms i r ≡ stale (came one two m t at_ms) clock i r
  came_stale false two m t at_ms clock l i r = refl
  came_stale true two m t at_ms clock l i r = old_later at_ms clock l (leb (begin m t) i && ltb i (cond two (end m (t + 1)) (end m t))) r

  module _ (m : Rows) (n t at_ms : ℕ) where
    abbrev now : Counted
    now = record { rows = m; count = n }

    swept : (one two : Bool) → Sound m n → (one ≡ true → t < «PARTS») → (two ≡ true → t + 1 < «PARTS»)
        → listed room (visits one two now t at_ms).rows (visits one two now t at_ms).count ≡ sweep (came one two m t at_ms) (listed room m n)
    swept false two s f g = sym (places.all_stay Name same shares room (listed room m n))
    swept true false s f g = listed_dropped room m n t at_ms s (f refl)
    swept true true s f g = listed_twice room m n t at_ms s (g refl)

    -- THE SCAN of a judgement
    pub listed_scanned : (one two : Bool) → Sound m n → (one ≡ true → t < «PARTS») → (two ≡ true → t + 1 < «PARTS») → (clock : ℕ) → at_ms ≤ clock
        → listed room (visits one two now t at_ms).rows (visits one two now t at_ms).count ≡ sweep (stale (came one two m t at_ms) clock) (listed room m n)
    listed_scanned one two s f g clock l =
        let p = came one two m t at_ms in
        swept one two s f g ∙ places.swept_same Name same shares room p (stale p clock) (listed room m n) (λ i r k. came_stale one two m t at_ms clock l i r)

    pub held_scanned : (one two : Bool) → Held room m n → (one ≡ true → t < «PARTS») → (two ≡ true → t + 1 < «PARTS»)
        → Held room (visits one two now t at_ms).rows (visits one two now t at_ms).count
    held_scanned false two h f g = h
    held_scanned true false h f g = held_dropped room m n t at_ms h (f refl)
    held_scanned true true h f g =
        held_dropped room (dropped m n t at_ms) (left m n t at_ms) (t + 1) at_ms (held_dropped room m n t at_ms h (f refl)) (g refl)
