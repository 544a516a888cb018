-- What the calls leave of the records. Assumes nothing.
use mathlib.Core.Path.{◌≡◌, sym, ap, ◌∙◌}
use mathlib.Core.Bool.{not}
use mathlib.Core.List.{List, ◌++◌}
use Prim.Native.Nat.{ℕ, ◌+◌, ◌<◌}
use native.Mathlib.Omega.{arith}
use lib.ListN.{take, drop}
use Rattle.store.specs.Store.{Record}
use Rattle.shifting.specs.Shifting.{part}
use Rattle.shifting.proofs.Laying.{part_length}
use Rattle.shifting.proofs.Places.{part_at}
use Rattle.parts.specs.Parts.{Rows, begin, end, those, stays}
use Rattle.parts.specs.Laws.{Fits, listed, stale, without, Comes, Leave, Move, Stays}
use Rattle.parts.proofs.Listing.{no_record, length_listed, listed_at}
use Rattle.parts.proofs.Keeping.{fits_of, added_sound, added_behind, added_lengths, added_homed, dropped_sound, dropped_homed, dropped_freed, dropped_cleared, inside}
use Rattle.parts.proofs.Begun.{put_sound, put_homed}
use Rattle.parts.proofs.Dropping.{words_stay, floats_stay, dropped_listed, dropped_every, stood_at, stood_rises, stood_low, stood_tag, stood_slot}
use Rattle.parts.proofs.Inserting.{added_listed, added_every}
use Rattle.parts.proofs.Putting.{put_listed, put_every}
use Rattle.parts.proofs.Stale.{stays_at, those_without}

pub comes : Comes
comes m n name u s l h = record {
  list = added_listed m n name u s l h;
  sound = added_sound m n name u s l h;
  well = λ home. record { sound = added_sound m n name u s l h; homed = added_homed m n name u s l h home };
  every = added_every m n name u s l h;
  behind = added_behind m n name u s l h;
  lengths = added_lengths m n name u s l h;
}

pub puts : Stays
puts m n k u s l = record {
  list = put_listed m n k u s l;
  sound = put_sound m n k u s;
  well = λ home. record { sound = put_sound m n k u s; homed = put_homed m n k u s home };
  every = put_every m n k u s l;
}

module _ (m : Rows) (n t at_ms : ℕ) (s : Fits m n) (h : t < 64) where
  part_stays : those (stays m.slots m.units at_ms) (begin m t) (part (listed m n) (begin m t) (end m t)) ≡ without (stale at_ms) (part (listed m n) (begin m t) (end m t))
  part_stays = those_without no_record (stays m.slots m.units at_ms) (stale at_ms) (begin m t) (part (listed m n) (begin m t) (end m t)) (λ k l.
      let u = part_length (listed m n) (begin m t) (end m t) (omega (arith, length_listed m n, inside m n t at_ms s h)) in
      let e = part_at no_record (listed m n) (begin m t) (end m t) k (omega arith) ∙ listed_at no_record m n (begin m t + k) (omega (arith, inside m n t at_ms s h)) in
      stays_at m at_ms (begin m t + k) ∙ ap (λ (r : Record). not (stale at_ms r)) (sym e))

pub leave : Leave
unfolding part
leave m n t at_ms s h = record {
  list = dropped_listed m n t at_ms s h ∙ ap (λ (l : List Record). (take (begin m t) (listed m n) ++ l) ++ drop (end m t) (listed m n)) (part_stays m n t at_ms (fits_of m n s) h);
  sound = dropped_sound m n t at_ms s h;
  well = λ home. record { sound = dropped_sound m n t at_ms s h; homed = dropped_homed m n t at_ms (fits_of m n s) h home };
  every = dropped_every m n t at_ms s h;
  freed = dropped_freed m n t at_ms (fits_of m n s) h;
  cleared = dropped_cleared m n t at_ms (fits_of m n s) h;
}

pub move : Move
move m n t at_ms s h = record {
  from = stood_at m t at_ms;
  rises = stood_rises m n t at_ms (fits_of m n s) h;
  within = stood_low m n t at_ms (fits_of m n s) h;
  tag = stood_tag m n t at_ms (fits_of m n s) h;
  slot = stood_slot m n t at_ms (fits_of m n s) h;
  units = words_stay m n t at_ms s h;
  uses = floats_stay m n t at_ms s h;
}
