-- A record that comes in at the end of its table's part, and its use put, are the model's put of a name that has no row. The place is how
-- many records stand before it. Assumes nothing.
use mathlib.Core.Path.{◌≡◌, refl, sym, ap, subst, ◌∙◌}
use mathlib.Core.Bool.{false}
use mathlib.Core.List.{List, ◌∷◌, map}
use Prim.Native.Nat.{ℕ, ◌+◌, ◌≤◌, ◌<◌}
use native.Mathlib.Omega.{arith}
use lib.ListN.{length, get_or, set, take, drop}
use Rattle.std.specs.Prelude.{None, insert}
use Rattle.std.proofs.lemmas.List.{map-append, take-map, drop-map, length-take-le, set_at}
use Rattle.std.proofs.lemmas.List.Edits.{get_or-insert_at}
use Rattle.flow.specs.declared.Use.{Use}
use Rattle.sender.specs.declared.Name as sender_name
use Rattle.sender.specs.Sender.{table_of_tag}
use Rattle.store.specs.Store.{Record}
use Rattle.shifting.specs.Offsets.{«PARTS»}
use Rattle.shifting.proofs.Whole.{whole_below}
use Rattle.parts.specs.Parts.{Rows, end, find, put, added, use_of}
use Rattle.parts.specs.Laws as laws
use Rattle.parts.specs.Laws.{Sound, Homed, Well, record_of}
use Rattle.parts.proofs.Listing as listing
use Rattle.parts.proofs.Listing.{no_record}
use Rattle.parts.proofs.Laws.{comes}
use Rattle.fair.specs.Store as model
use Rattle.fair.specs.Demand.{there}
use Rattle.fair.proofs.View as view
use Rattle.fair.proofs.Rows.{put_absent}
use Rattle.fair.proofs.Back as back
use Rattle.fair.proofs.Back.{Whole}
use Rattle.fair.proofs.Stored.{Seven}
use Rattle.fair.proofs.View.{Name, same, shares, named, same_is, same_self, R, record_at, listed, listed_length, listed_rows, record_row, row_of}
use Rattle.fair.proofs.Find.{kept_at, sought}
use Rattle.fair.proofs.Put.{used, listed_put}

map_insert : {A B : Type 0} (f : A → B) (xs : List A) (i : ℕ) (y : A) → map f (insert xs i y) ≡ insert (map f xs) i (f y)
map_insert f xs i y = map-append f (take i xs) (y ∷ drop i xs) ∙ rw (take-map f i xs, drop-map f i xs) refl

set_inserted : {A : Type 0} (xs : List A) (i : ℕ) (y z : A) → i ≤ length xs → set (insert xs i y) i z ≡ insert xs i z
set_inserted xs i y z h = set_at (take i xs) y (drop i xs) z i (length-take-le i xs h)

-- a new record's row
pub row_new : (room : ℕ) (w : sender_name.Name) (u : Use) → Whole u → row_of room (record_of w u) ≡ view.row room w u
unfolding row_of
row_new room w u whole = back.new_there room w u whole

module _ (room : ℕ) (m : Rows) (n : ℕ) (w : sender_name.Name) (u : Use) (whole : Whole u)
    (s : Sound m n) (l : n < length m.units) (t : table_of_tag w.tag < «PARTS») where
  abbrev new : Rows
  new = added m n w u

  -- how many records stand before it
  abbrev pub place : ℕ
  place = end m (table_of_tag w.tag)

  pub place_low : place ≤ n
  place_low = whole_below m.offsets n s.whole (table_of_tag w.tag + 1) (omega arith)

  -- the list after it came in
  pub listed_added : listed room new (n + 1) ≡ insert (listed room m n) place (view.row room w u)
  listed_added =
      listed_rows room new (n + 1) ∙ ap (map (row_of room)) (comes m n w u s l t).list
      ∙ map_insert (row_of room) (laws.listed m n) place (record_of w u) ∙ ap (insert (map (row_of room) (laws.listed m n)) place) (row_new room w u whole)
      ∙ ap (λ (rs : List (R room)). insert rs place (view.row room w u)) (sym (listed_rows room m n))

  new_at : laws.record_at new place ≡ record_of w u
  new_at =
      sym (listing.listed_at no_record new (n + 1) place (omega (arith, place_low))) ∙ ap (λ (rs : List Record). get_or rs place no_record) (comes m n w u s l t).list
      ∙ get_or-insert_at (laws.listed m n) place (record_of w u) no_record (omega (arith, place_low, listing.length_listed m n))

  row_at : record_at room new place ≡ view.row room w u
  row_at = record_row room new place ∙ ap (row_of room) new_at ∙ row_new room w u whole

  -- the use that is read there
  pub read_added : use_of new place ≡ u
  unfolding record_at
  read_added = ap (λ (r : R room). r.used) row_at

  -- THE NEWCOMER: the model's put of a name that has no row
  pub put_new : Homed m → find m w ≡ None → (x : Use) → Whole x
      → listed room (put new place x) (n + 1) ≡ model.put Name same shares room place (named w) x (listed room m n)
  put_new homed e x hx =
      let h : Well m n = record { sound = s; homed = homed } in
      let a : there (model.find Name same shares room (named w) (listed room m n)) ≡ false = ap there (sought room m n h w t ∙ ap (kept_at m) e) in
      listed_put room new (n + 1) (comes m n w u s l t).sound place (omega (arith, place_low)) x hx (subst Seven (sym new_at) refl)
      ∙ ap (λ (rs : List (R room)). set rs place (used room (record_at room new place) x)) listed_added
      ∙ set_inserted (listed room m n) place (view.row room w u) (used room (record_at room new place) x) (omega (arith, place_low, listed_length room m n))
      ∙ ap (λ (r : R room). insert (listed room m n) place (used room r x)) row_at
      ∙ sym (put_absent Name same shares room same_is same_self place (named w) x (listed room m n) a)
