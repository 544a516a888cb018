-- What the rows have to hold for the model, from a start on: it holds after a use was put, a newcomer and a visit. Assumes nothing.
use mathlib.Core.Path.{◌≡◌, refl, ◌∙◌}
use Prim.Native.Nat.{ℕ, ◌+◌, ◌<◌}
use native.Mathlib.Omega.{arith}
use lib.ListN.{length, set, length-set}
use Rattle.flow.specs.declared.Use.{Use}
use Rattle.sender.specs.declared.Name.{Name}
use Rattle.sender.specs.Sender.{table_of_tag}
use Rattle.store.specs.Store.{Record}
use Rattle.shifting.specs.Offsets.{«PARTS»}
use Rattle.parts.specs.Parts.{Rows, put, added, dropped, left, gone, started, top, slot_of, words_of, no_words}
use Rattle.parts.specs.Held.{Sized}
use Rattle.parts.specs.Laws as laws
use Rattle.parts.specs.Laws.{Well, Every, with_use}
use Rattle.parts.proofs.Laws.{comes, puts, leave}
use Rattle.parts.proofs.Begun.{starts, units_long}
use Rattle.parts.proofs.Clearing.{length_cleared}

-- a record's row of words is 7 wide
abbrev pub Seven : Record → Type 0
Seven r = length r.words ≡ 7

abbrev pub Wide : Rows → ℕ → Type 0
Wide m n = Every Seven m n

seven_with : (r : Record) (x : Use) → Seven r → Seven (with_use r x)
unfolding with_use
seven_with r x e = length-set (set r.words 5 x.at_ms) 6 x.fresh ∙ length-set r.words 5 x.at_ms ∙ e

module _ (room : ℕ) where
  -- a store of n records that has this room, each record's row of words 7 wide
  pub record Held (m : Rows) (n : ℕ) : Type 0 where
    pub well : Well m n
    pub room_is : length m.units ≡ room
    pub wide : Wide m n

  -- any bits may stand in the rows at a start
  pub held_started : (m : Rows) → Sized m → length m.units ≡ room → Held (started m) 0
  unfolding started
  held_started m z e = record { well = (starts m z).well; room_is = e; wide = λ k h. absurd (omega arith) }

  pub held_put : (m : Rows) (n k : ℕ) (x : Use) → Held m n → k < n → Held (put m k x) n
  unfolding put
  held_put m n k x h l =
      let s = h.well.sound in
      let p = puts m n k x s l in
      record { well = p.well h.well.homed; room_is = units_long m n k x s ∙ h.room_is; wide = p.every Seven (seven_with (laws.record_at m k) x (h.wide k l)) h.wide }

  pub held_added : (m : Rows) (n : ℕ) (w : Name) (x : Use) → Held m n → n < room → table_of_tag w.tag < «PARTS» → Held (added m n w x) (n + 1)
  held_added m n w x h l t =
      let a = comes m n w x h.well.sound (omega (arith, h.room_is)) t in
      record { well = a.well h.well.homed; room_is = added_room ∙ h.room_is; wide = a.every Seven refl h.wide }
    where
      added_room : length (added m n w x).units ≡ length m.units
      added_room = unfold added in length-set m.units (slot_of (top m n) (length m.units)) (words_of w x)

  pub held_dropped : (m : Rows) (n table at_ms : ℕ) → Held m n → table < «PARTS» → Held (dropped m n table at_ms) (left m n table at_ms)
  held_dropped m n table at_ms h t =
      let d = leave m n table at_ms h.well.sound t in
      record { well = d.well h.well.homed; room_is = dropped_room ∙ h.room_is; wide = d.every Seven h.wide }
    where
      dropped_room : length (dropped m n table at_ms).units ≡ length m.units
      dropped_room = unfold dropped in length_cleared no_words m.units (gone m table at_ms)
