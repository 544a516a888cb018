-- What a start leaves is well, and a use put changes nothing of it. Assumes nothing.
use mathlib.Core.Path.{◌≡◌, refl, sym, ap, subst, ◌∙◌}
use mathlib.Core.List.{[]}
use Prim.Native.Nat.{ℕ, ◌+◌, ◌-◌, ◌<◌, ◌≤◌}
use native.Mathlib.Omega.{arith}
use lib.Dec.{ltb}
use lib.ListN.{length, get_or, set, take, replicate, length-set, get_or-replicate}
use lib.Seq.{take_all}
use Rattle.flow.specs.declared.Use.{Use}
use Rattle.store.specs.Store.{unit_row, units_put, uses_put}
use Rattle.shifting.specs.Shifting.{down}
use Rattle.shifting.specs.Offsets.{Whole}
use Rattle.shifting.proofs.Down.{down_long}
use Rattle.parts.specs.Parts.{Rows, put, started, slot_at, floats_of}
use Rattle.parts.specs.Held.{Sized}
use Rattle.parts.specs.Laws.{one_if, times, Once, Homed, Sound, Well, Starts}
use Rattle.parts.proofs.Slots.{down_times}

zeros : (k : ℕ) → k < 65 → get_or {A = ℕ} (replicate 65 0) k 0 ≡ 0
zeros k h = get_or-replicate {A = ℕ} 65 k 0 0 h

module _ (m : Rows) (z : Sized m) where
  started_sized : Sized (started m)
  unfolding started
  started_sized =
      let f = z.free in
      record { some = z.some; most = z.most; tags = z.tags; slots = z.slots; free = omega (arith, down_long (length m.free)); uses = z.uses }

  none : (x : ℕ) → times x [] ≡ 0
  none x = unfold times in refl

  -- each slot is free, once
  free_once : (x : ℕ) → times x (take (length (started m).units - 0) (started m).free) ≡ one_if (ltb x (length (started m).units))
  unfolding started
  free_once x =
      let zf = z.free in
      ap (times x) (take_all (length m.units - 0) (down (length m.free)) (omega (arith, down_long (length m.free))))
      ∙ down_times x (length m.free) ∙ ap (λ (k : ℕ). one_if (ltb x k)) zf

  started_once : Once (started m) 0
  started_once x = omega (arith, free_once x, none x)

  started_whole : Whole (started m).offsets 0
  unfolding started
  started_whole = record { begins = refl; rises = λ k l. omega (arith, zeros k (omega arith), zeros (k + 1) (omega arith)); ends = refl }

  started_long : length (started m).offsets ≡ 65
  unfolding started
  started_long = refl

  started_homed : Homed (started m)
  unfolding started
  started_homed t k l p q = absurd (omega (arith, zeros t (omega arith), zeros (t + 1) (omega arith)))

  started_well : Well (started m) 0
  started_well = record {
    sound = record { sized = started_sized; room = omega arith; offsets = started_long; whole = started_whole; once = started_once };
    homed = started_homed;
  }

pub starts : Starts
unfolding started
starts m z = record { well = started_well m z; tags = refl; slots = refl; units = refl; uses = refl }

-- ---- a use put
module _ (s : Rows) (n k : ℕ) (u : Use) (w : Sound s n) where
  pub units_long : length (put s k u).units ≡ length s.units
  unfolding put units_put uses_put
  units_long = length-set s.units (slot_at s k) (set (set (unit_row s.units (slot_at s k)) 5 u.at_ms) 6 u.fresh)

  uses_long : length (put s k u).uses ≡ length s.uses
  unfolding put units_put uses_put
  uses_long = length-set s.uses (slot_at s k) (floats_of u)

  pub put_sound : Sound (put s k u) n
  unfolding put
  put_sound =
      let e = units_long in
      let z = w.sized in
      record {
        sized = record { some = subst (λ (m : ℕ). 0 < m) (sym e) z.some; most = subst (λ (m : ℕ). m ≤ 131072) (sym e) z.most; tags = subst (λ (m : ℕ). m ≤ length s.tags) (sym e) z.tags; slots = z.slots ∙ sym e; free = z.free ∙ sym e; uses = uses_long ∙ z.uses ∙ sym e };
        room = subst (λ (m : ℕ). n ≤ m) (sym e) w.room;
        offsets = w.offsets;
        whole = w.whole;
        once = λ x. subst (λ (m : ℕ). times x (take n s.slots) + times x (take (m - n) s.free) ≡ one_if (ltb x m)) (sym e) (w.once x);
      }

  pub put_homed : Homed s → Homed (put s k u)
  unfolding put
  put_homed h = h
