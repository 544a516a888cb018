-- Other tags behind those of the unit records leave the model's list, and what the rows hold. Assumes nothing.
use mathlib.Core.Path.{◌≡◌, refl, ap, ◌∙◌}
use mathlib.Core.List.{List, ◌++◌}
use Prim.Native.Nat.{ℕ, zero, suc, ◌+◌, ◌<◌, ◌≤◌}
use native.Mathlib.Omega.{arith}
use lib.ListN.{length, get_or, take, length-append, get_or-append}
use lib.Seq.{length-take-le, get_or-take}
use Rattle.sender.specs.Sender.{table_of_tag}
use Rattle.store.specs.Store.{Record, use_at}
use Rattle.shifting.proofs.Whole.{whole_below}
use Rattle.parts.specs.Parts.{Rows, rows, use_of}
use Rattle.parts.specs.Laws as laws
use Rattle.fair.proofs.View.{record_at, listed}
use Rattle.fair.proofs.Stored.{Held}

abbrev pub with_tags : Rows → List ℕ → Rows
with_tags m tags = rows tags m.slots m.offsets m.free m.units m.uses

module _ (room : ℕ) (m : Rows) (n : ℕ) (h : Held room m n) (ts : List ℕ) where
  abbrev B : Rows
  B = with_tags m (take room m.tags ++ ts)

  long : room ≤ length m.tags
  long = let s = h.well.sound.sized in omega (arith, h.room_is, s.tags)

  few : n ≤ room
  few = omega (arith, h.room_is, h.well.sound.room)

  tags_long : length m.units ≤ length B.tags
  tags_long = omega (arith, h.room_is, length-append (take room m.tags) ts, length-take-le room m.tags long)

  tag_same : (k : ℕ) → k < room → get_or B.tags k 0 ≡ get_or m.tags k 0
  tag_same k l = get_or-append (take room m.tags) ts 0 k (omega (arith, length-take-le room m.tags long)) ∙ get_or-take room m.tags k 0 l

  row_same : (k : ℕ) → k < room → record_at room B k ≡ record_at room m k
  unfolding record_at use_of use_at
  row_same k l = rw (tag_same k l) refl

  pub listed_behind : (k : ℕ) → k ≤ room → listed room B k ≡ listed room m k
  unfolding listed
  listed_behind zero l = refl
  listed_behind (suc k) l = simp (listed_behind k (omega arith), row_same k (omega arith))

  record_same : (k : ℕ) → k < room → laws.record_at B k ≡ laws.record_at m k
  unfolding laws.record_at
  record_same k l = rw (tag_same k l) refl

  pub held_behind : Held room B n
  held_behind =
      let w = h.well in
      let s = w.sound in
      let z = s.sized in
      record {
        well = record {
          sound = record {
            sized = record { some = z.some; most = z.most; tags = tags_long; slots = z.slots; free = z.free; uses = z.uses };
            room = s.room;
            offsets = s.offsets;
            whole = s.whole;
            once = s.once;
          };
          homed = λ table k l p q.
              let b = whole_below m.offsets n s.whole (table + 1) (omega arith) in
              ap table_of_tag (tag_same k (omega (arith, few, q, b))) ∙ w.homed table k l p q;
        };
        room_is = h.room_is;
        wide = λ k l. ap (λ (r : Record). length r.words) (record_same k (omega (arith, few))) ∙ h.wide k l;
      }
