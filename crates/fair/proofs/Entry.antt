-- The record that a call uses, and what putting its use back leaves: those of the model. A newcomer's place is the end of its table's part.
-- Assumes nothing.
use mathlib.Core.Path.{◌≡◌, refl, sym, ap, subst, ◌∙◌}
use mathlib.Core.Bool.{Bool, true, false, cond}
use mathlib.Core.List.{[]}
use Prim.Native.Nat.{ℕ, ◌+◌, ◌<◌, ◌≤◌}
use native.Mathlib.Omega.{arith}
use lib.Dec.{ltb}
use lib.ListN.{length, get_or, length-replicate}
use borrow.Author.Tests.{ltb-true, ltb-false, lt-ltb, le-ltb}
use Rattle.std.specs.Prelude.{Option, Some, None}
use Rattle.ieee.specs.Doubles.{nothing}
use Rattle.flow.specs.Flow as flow
use Rattle.flow.specs.Flow.{dims}
use Rattle.flow.specs.declared.Use.{Use}
use Rattle.sender.specs.declared.Name as sender_name
use Rattle.sender.specs.declared.Unit as unit
use Rattle.sender.specs.Sender as sender
use Rattle.sender.specs.Sender.{table_of_tag}
use Rattle.store.specs.Store.{use_at}
use Rattle.shifting.specs.Offsets.{«PARTS»}
use Rattle.parts.specs.Parts.{Rows, end, find, added, use_of, slot_at}
use Rattle.store_entry.specs.Entering.{Entered, entered, place, entry, used_at, put_back}
use Rattle.store_entry.proofs.Own.{table_below}
use Rattle.fair.specs.Tokens.{Pot}
use Rattle.fair.specs.Store as model
use Rattle.fair.specs.Calls as calls
use Rattle.fair.specs.Demand.{Kept, present, there, found}
use Rattle.fair.proofs.View as view
use Rattle.fair.proofs.Back.{Whole, part_length}
use Rattle.fair.proofs.View.{Name, same, shares, named, listed, listed_length}
use Rattle.fair.proofs.Stored.{Held, held_put, held_added}
use Rattle.fair.proofs.Find.{kept_at, sought, finds}
use Rattle.fair.proofs.Put.{put_found}
use Rattle.fair.proofs.Added.{place_low, read_added, put_new}

-- a use that is read has a part for each dimension, and so has a new one
pub read_whole : (m : Rows) (i : ℕ) → Whole (use_of m i)
unfolding use_of use_at
read_whole m i = record { attempted = part_length (get_or m.uses (slot_at m i) []) 0; credit = part_length (get_or m.uses (slot_at m i) []) dims }

pub new_whole : (now : ℕ) → Whole (flow.added now)
new_whole now = record { attempted = length-replicate dims nothing; credit = length-replicate dims nothing }

module _ (room : ℕ) where
  abbrev pub S : Type 0
  S = model.Store Name same shares room

  abbrev pub K : Type 0
  K = model.Key Name same shares room

  -- a record of the statement is one of the model
  abbrev pub lift : calls.Key → K
  lift calls.shared = model.shared
  lift (calls.own u) = model.own (named (sender.name_of u))

  abbrev pub viewed : (ℕ → Pot) → Rows → ℕ → Use → S
  viewed b m n o = record { pot = b; rows = listed room m n; overflow = o }

  -- with the place that the unit's row gets in the model if it is new
  module _ (m : Rows) (n : ℕ) (o : Use) (at : ℕ) (k : K) where
    -- what a use put back leaves
    pub record After (x : Use) (m' : Rows) (n' : ℕ) (o' : Use) : Type 0 where
      pub list : listed room m' n' ≡ model.rows_with Name same shares room at k (present x) (listed room m n)
      pub over : o' ≡ model.overflow_with Name same shares room k (present x) o
      pub held : Held room m' n'

    pub record Placed (b : ℕ → Pot) (u : unit.Unit) (now : ℕ) (e : Entered) : Type 0 where
      pub key : k ≡ lift (calls.key_at (ltb e.place.at room) u)
      pub used : used_at e.rows o e.place.at ≡ found (model.look Name same shares room k (viewed b m n o)) now
      pub whole : Whole (used_at e.rows o e.place.at)
      pub back : (x : Use) → Whole x → After x (put_back e.rows o e.place.at x).rows e.place.tracked (put_back e.rows o e.place.at x).overflow

  module _ (b : ℕ → Pot) (m : Rows) (n : ℕ) (o : Use) (ho : Whole o) (hold : Held room m n) (u : unit.Unit) (now : ℕ) where
    abbrev w : sender_name.Name
    w = sender.name_of u

    abbrev t : table_of_tag w.tag < «PARTS»
    t = table_below u

    -- where the unit's row stands if it is new
    abbrev pub new_place : ℕ
    new_place = end m (table_of_tag w.tag)

    -- ---- overflow's record
    at_shared : (at : ℕ) → Placed m n o at model.shared b u now (entered (place room n) m)
    unfolding used_at put_back
    at_shared at =
        let e : ltb room room ≡ false = le-ltb room room (omega arith) in
        let f : ltb room (length m.units) ≡ false = le-ltb room (length m.units) (omega (arith, hold.room_is)) in
        record {
          key = rw e;
          used = rw f;
          whole = rw f ho;
          back = λ x hx. rw f (record { list = refl; over = refl; held = hold });
        }

    -- ---- a record that is found
    at_found : (at i : ℕ) → find m w ≡ Some i → Placed m n o at (model.own (named w)) b u now (entered (place i n) m)
    unfolding used_at put_back
    at_found at i g =
        let l = (finds room m n hold.well w t i g).low in
        let r = hold.well.sound.room in
        let e : ltb i room ≡ true = lt-ltb i room (omega (arith, hold.room_is)) in
        let f : ltb i (length m.units) ≡ true = lt-ltb i (length m.units) (omega arith) in
        let s : model.find Name same shares room (named w) (listed room m n) ≡ present (use_of m i) = sought room m n hold.well w t ∙ ap (kept_at m) g in
        record {
          key = rw e;
          used = rw (f, s);
          whole = rw f (read_whole m i);
          back = λ x hx. rw f (record { list = put_found room m n hold.well w t i g x hx hold.wide at; over = refl; held = held_put room m n i x hold l });
        }

    -- ---- a record that is added
    module _ (g : find m w ≡ None) (l : n < room) where
      abbrev new : Rows
      new = added m n w (flow.added now)

      new_held : Held room new (n + 1)
      new_held = held_added room m n w (flow.added now) hold l t

      fits : n < length m.units
      fits = omega (arith, hold.room_is)

      low : new_place < n + 1
      low = omega (arith, place_low room m n w (flow.added now) (new_whole now) hold.well.sound fits t)

      at_added : Placed m n o new_place (model.own (named w)) b u now (entered (place new_place (n + 1)) new)
      unfolding used_at put_back
      at_added =
          let e : ltb new_place room ≡ true = lt-ltb new_place room (omega (arith, low)) in
          let f : ltb new_place (length new.units) ≡ true = lt-ltb new_place (length new.units) (omega (arith, low, new_held.room_is)) in
          let s = sought room m n hold.well w t ∙ ap (kept_at m) g in
          record {
            key = rw e;
            used = rw (f, s) (read_added room m n w (flow.added now) (new_whole now) hold.well.sound fits t);
            whole = rw f (read_whole new new_place);
            back = λ x hx. rw f (record {
              list = put_new room m n w (flow.added now) (new_whole now) hold.well.sound fits t hold.well.homed g x hx;
              over = refl;
              held = held_put room new (n + 1) new_place x new_held low;
            });
          }

    -- ---- whichever it is
    by_shared : sender.is_overflow u ≡ true → entered (place room n) m ≡ entry m n room u now
    unfolding entry
    by_shared e = simp e

    by_found : sender.is_overflow u ≡ false → (i : ℕ) → find m w ≡ Some i → i < room → entered (place i n) m ≡ entry m n room u now
    unfolding entry
    by_found e i g l = simp (e, g, lt-ltb i room l)

    by_added : sender.is_overflow u ≡ false → find m w ≡ None → n < room → entered (place new_place (n + 1)) (added m n w (flow.added now)) ≡ entry m n room u now
    unfolding entry
    by_added e g l = simp (e, g, le-ltb room room (omega arith), lt-ltb n room l)

    by_full : sender.is_overflow u ≡ false → find m w ≡ None → room ≤ n → entered (place room n) m ≡ entry m n room u now
    unfolding entry
    by_full e g l = simp (e, g, le-ltb room room (omega arith), le-ltb n room l)

    abbrev resolved : Name → K
    resolved v = model.resolve Name same shares room (viewed b m n o) v

    abbrev one_of : Kept → Bool → K
    one_of x c = cond (there x) (model.own (named w)) (cond c (model.own (named w)) model.shared)

    key_shared : sender.is_overflow u ≡ true → resolved (view.name_of u) ≡ model.shared
    key_shared e = ap (λ (c : Bool). resolved (record { overflow = c; name = w })) e

    key_own : sender.is_overflow u ≡ false → (f : Option ℕ) → find m w ≡ f → (d : Bool) → ltb n room ≡ d → resolved (view.name_of u) ≡ one_of (kept_at m f) d
    key_own e f g d h =
        ap (λ (c : Bool). resolved (record { overflow = c; name = w })) e
        ∙ ap (λ (x : Kept). one_of x (ltb (length (listed room m n)) room)) (sought room m n hold.well w t ∙ ap (kept_at m) g)
        ∙ ap (λ (x : ℕ). one_of (kept_at m f) (ltb x room)) (listed_length room m n) ∙ ap (one_of (kept_at m f)) h

    by_key : (k k' : K) (e e' : Entered) → k' ≡ k → e ≡ e' → Placed m n o new_place k b u now e → Placed m n o new_place k' b u now e'
    by_key k k' e e' p q a = subst (λ (x : K). Placed m n o new_place x b u now e') (sym p) (subst (λ (x : Entered). Placed m n o new_place k b u now x) q a)

    -- THE ENTRY: the record is the model's
    pub entry_placed : Placed m n o new_place (resolved (view.name_of u)) b u now (entry m n room u now)
    entry_placed = by (sender.is_overflow u) refl (find m w) refl (ltb n room) refl
      where
        by : (a : Bool) → sender.is_overflow u ≡ a → (f : Option ℕ) → find m w ≡ f → (d : Bool) → ltb n room ≡ d
            → Placed m n o new_place (resolved (view.name_of u)) b u now (entry m n room u now)
        by true e f g d h = by_key _ _ _ _ (key_shared e) (by_shared e) (at_shared new_place)
        by false e (Some i) g d h =
            let l = (finds room m n hold.well w t i g).low in
            let r = hold.well.sound.room in
            by_key _ _ _ _ (key_own e (Some i) g d h) (by_found e i g (omega (arith, hold.room_is))) (at_found new_place i g)
        by false e None g true h = by_key _ _ _ _ (key_own e None g true h) (by_added e g (ltb-true n room h)) (at_added g (ltb-true n room h))
        by false e None g false h = by_key _ _ _ _ (key_own e None g false h) (by_full e g (ltb-false n room h)) (at_shared new_place)
