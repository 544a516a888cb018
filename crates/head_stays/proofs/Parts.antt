-- A record found or added, a use put back and the stale records dropped leave the lists as long as they were and the offsets whole, whatever bits the memory holds. Assumes nothing.
use mathlib.Core.Path.{◌≡◌, refl, sym, ◌∙◌}
use mathlib.Core.Bool.{Bool, true, false, cond}
use mathlib.Core.List.{List}
use Prim.Native.Nat.{ℕ, ◌+◌, ◌-◌, ◌≤◌, ◌<◌}
use native.Mathlib.Omega.{arith}
use lib.Dec.{ltb}
use lib.ListN.{length, set, length-set}
use borrow.Author.Tests.{ltb-true}
use Rattle.flow.specs.Flow as flow
use Rattle.flow.specs.declared.Use.{Use}
use Rattle.sender.specs.declared.Unit.{Unit}
use Rattle.sender.specs.declared.Name.{Name}
use Rattle.sender.specs.Sender.{name_of, is_overflow, table_of_tag}
use Rattle.shifting.specs.Offsets.{Whole}
use Rattle.shifting.proofs.Laying.{length_over}
use Rattle.shifting.proofs.Places.{length_inserted}
use Rattle.shifting.proofs.Whole.{whole_below, length_from_on}
use Rattle.store.specs.Store.{with_tags, units_put, uses_put, unit_row}
use Rattle.parts.specs.Parts.{Rows, begin, end, stays, slot_of, slot_at, top, words_of, floats_of, no_words, no_floats, put, gone, added, dropped, left}
use Rattle.parts.specs.Held.{Sized}
use Rattle.parts.proofs.Behind.{whole_raised, whole_lowered}
use Rattle.parts.proofs.Clearing.{length_cleared}
use Rattle.parts.proofs.Closing.{tagged}
use Rattle.parts.proofs.Keeping.{length_squeezed}
use Rattle.parts.proofs.Slots.{counted}
use Rattle.store_entry.specs.Entering.{Entered, entry, found_at, back, put_back}
use Rattle.store_entry.proofs.Own.{table_below}

-- the lists have the lengths of a room, the offsets are whole, and n records are in use
pub record Fit (m : Rows) (n room : ℕ) : Type 0 where
  pub sized : Sized m
  pub units : length m.units ≡ room
  pub used : n ≤ room
  pub long : length m.offsets ≡ 65
  pub whole : Whole m.offsets n

-- ---- a record comes in
fit_added : (m : Rows) (n room : ℕ) (name : Name) (u : Use) → Fit m n room → n < room → table_of_tag name.tag < 64 → Fit (added m n name u) (n + 1) room
fit_added m n room name u f l h = record { sized = sized; units = units; used = omega arith; long = long; whole = whole }
  where
    whole : Whole (added m n name u).offsets (n + 1)
    whole = unfold added in whole_raised m.offsets _ n (table_of_tag name.tag) f.long f.whole h refl

    under : end m (table_of_tag name.tag) ≤ n
    under = whole_below m.offsets n f.whole (table_of_tag name.tag + 1) (omega arith)

    units : length (added m n name u).units ≡ room
    units = unfold added in length-set m.units (slot_of (top m n) (length m.units)) (words_of name u) ∙ f.units

    long : length (added m n name u).offsets ≡ 65
    long = unfold added in (let z = f.long in length_from_on (λ (o : ℕ). o + 1) m.offsets (table_of_tag name.tag + 1) (omega arith) ∙ z)

    sized : Sized (added m n name u)
    sized = unfold added in (
        let z = f.sized in
        let z0 = z.some in
        let z1 = z.tags in
        let z2 = z.slots in
        let z3 = z.most in
        let z4 = f.units in
        let v = length-set m.units (slot_of (top m n) (length m.units)) (words_of name u) in
        record {
          some = omega arith;
          most = omega arith;
          tags = omega (arith, length_inserted 0 m.tags (end m (table_of_tag name.tag)) n name.tag under (omega arith));
          slots = length_inserted 0 m.slots (end m (table_of_tag name.tag)) n (top m n) under (omega arith) ∙ omega arith;
          free = z.free ∙ sym v;
          uses = length-set m.uses (slot_of (top m n) (length m.units)) (floats_of u) ∙ z.uses ∙ sym v;
        })

-- ---- the record that a call uses
cond_entered : (b : Bool) (x y : Entered) (P : Entered → Type 0) → (b ≡ true → P x) → P y → P (cond b x y)
cond_entered true x y P p q = p refl
cond_entered false x y P p q = q

abbrev Enters : ℕ → Entered → Type 0
Enters room e = Fit e.rows e.place.tracked room

pub fit_entry : (m : Rows) (n room : ℕ) (u : Unit) (now : ℕ) → Fit m n room → Fit (entry m n room u now).rows (entry m n room u now).place.tracked room
unfolding entry
fit_entry m n room u now f =
    cond_entered (is_overflow u) _ _ (Enters room) (λ e. f)
    (cond_entered (ltb (found_at m room (name_of u)) room) _ _ (Enters room) (λ e. f)
    (cond_entered (ltb n room) _ _ (Enters room) (λ e. fit_added m n room (name_of u) (flow.added now) f (ltb-true n room e) (table_below u)) f))

-- no more records than the room, whatever the lists are
abbrev Within : ℕ → Entered → Type 0
Within room e = e.place.tracked ≤ room

pub used_entry : (m : Rows) (n room : ℕ) (u : Unit) (now : ℕ) → n ≤ room → (entry m n room u now).place.tracked ≤ room
unfolding entry
used_entry m n room u now p =
    cond_entered (is_overflow u) _ _ (Within room) (λ e. p)
    (cond_entered (ltb (found_at m room (name_of u)) room) _ _ (Within room) (λ e. p)
    (cond_entered (ltb n room) _ _ (Within room) (λ e. omega (arith, ltb-true n room e)) p))

-- ---- a use put back
fit_put : (m : Rows) (n room i : ℕ) (u : Use) → Fit m n room → Fit (put m i u) n room
unfolding put units_put uses_put
fit_put m n room i u f =
    let z = f.sized in
    let z0 = z.some in
    let z1 = z.most in
    let z2 = z.tags in
    let v = length-set m.units (slot_at m i) (set (set (unit_row m.units (slot_at m i)) 5 u.at_ms) 6 u.fresh) in
    let w = length-set m.uses (slot_at m i) (floats_of u) in
    record {
      sized = record { some = omega arith; most = omega arith; tags = omega arith; slots = z.slots ∙ sym v; free = z.free ∙ sym v; uses = w ∙ z.uses ∙ sym v };
      units = v ∙ f.units;
      used = f.used;
      long = f.long;
      whole = f.whole;
    }

pub fit_back : (m : Rows) (o : Use) (n room i : ℕ) (u : Use) → Fit m n room → Fit (put_back m o i u).rows n room
unfolding put_back
fit_back m o n room i u f = go (ltb i (length m.units))
  where
    go : (b : Bool) → Fit (cond b (back o (put m i u)) (back u m)).rows n room
    go true = fit_put m n room i u f
    go false = f

-- ---- other tags
pub fit_tags : (m : Rows) (tags : List ℕ) (n room : ℕ) → Fit m n room → room ≤ length tags → Fit (with_tags m tags) n room
fit_tags m tags n room f l =
    let z = f.sized in
    record {
      sized = record { some = z.some; most = z.most; tags = omega (arith, f.units); slots = z.slots; free = z.free; uses = z.uses };
      units = f.units;
      used = f.used;
      long = f.long;
      whole = f.whole;
    }

-- ---- the stale records of a part leave
module _ (m : Rows) (n room t now : ℕ) (f : Fit m n room) (h : t < 64) where
  low : begin m t ≤ end m t
  low = f.whole.rises t h

  inside : end m t ≤ n
  inside = whole_below m.offsets n f.whole (t + 1) (omega arith)

  held : n ≤ length m.units
  held = let u = f.units in omega (arith, f.used)

  units : length (dropped m n t now).units ≡ length m.units
  units = unfold dropped in length_cleared no_words m.units (gone m t now)

  long : length (dropped m n t now).offsets ≡ 65
  long = unfold dropped in (let z = f.long in length_from_on (λ (o : ℕ). o - length (gone m t now)) m.offsets (t + 1) (omega arith) ∙ z)

  sized : Sized (dropped m n t now)
  unfolding dropped
  sized =
      let z = f.sized in
      let z0 = z.some in
      let z1 = z.tags in
      let z2 = z.slots in
      let z3 = z.free in
      let z4 = z.most in
      let q = held in
      let r = low in
      let i = inside in
      let c = counted m n t now z held low inside in
      let g = tagged m.tags m.slots m.offsets m.free m.units m.uses n t now low inside held z.tags z.slots z.free in
      let u = length_cleared no_words m.units (gone m t now) in
      record {
        some = omega arith;
        most = omega arith;
        tags = omega (arith, length_squeezed (stays m.slots m.units now) m.tags (begin m t) (end m t) n low inside (omega arith) (omega arith));
        slots = length_squeezed (stays m.slots m.units now) m.slots (begin m t) (end m t) n low inside (omega arith) (omega arith) ∙ omega arith;
        free = length_over m.free (length m.units - n) (gone m t now) (omega arith) ∙ omega arith;
        uses = length_cleared no_floats m.uses (gone m t now) ∙ z.uses ∙ sym u;
      }

  whole : Whole (dropped m n t now).offsets (left m n t now)
  unfolding dropped
  whole = whole_lowered m.offsets _ n t (length (gone m t now)) f.long f.whole h (omega (arith, low, counted m n t now f.sized held low inside)) refl

  pub fit_dropped : Fit (dropped m n t now) (left m n t now) room
  fit_dropped = record {
    sized = sized;
    units = units ∙ f.units;
    used = let u = f.used in omega arith;
    long = long;
    whole = whole;
  }
