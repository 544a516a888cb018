-- A use put into the record that a search found is the model's put, whatever the place. Assumes nothing.
use mathlib.Core.Path.{◌≡◌, sym, ap, ◌∙◌}
use mathlib.Core.Bool.{true}
use mathlib.Core.List.{List, [], ◌∷◌, map}
use Prim.Native.Nat.{ℕ, ◌<◌}
use native.Mathlib.Omega.{arith}
use lib.ListN.{set}
use Rattle.std.proofs.lemmas.List.{map-set}
use Rattle.std.specs.Prelude.{Some}
use Rattle.flow.specs.declared.Use.{Use}
use Rattle.sender.specs.declared.Name as sender_name
use Rattle.sender.specs.Sender.{table_of_tag}
use Rattle.store.specs.Store as store
use Rattle.store.specs.Store.{Record}
use Rattle.shifting.specs.Offsets.{«PARTS»}
use Rattle.parts.specs.Parts.{Rows, find, put}
use Rattle.parts.specs.Laws as laws
use Rattle.parts.specs.Laws.{Well, Sound, with_use}
use Rattle.parts.proofs.Laws.{puts}
use Rattle.fair.specs.Store as model
use Rattle.fair.specs.Demand.{there}
use Rattle.fair.proofs.Rows.{put_there}
use Rattle.fair.proofs.Back as back
use Rattle.fair.proofs.Back.{Whole}
use Rattle.fair.proofs.Stored.{Seven, Wide}
use Rattle.fair.proofs.View.{Name, same, shares, named, same_is, same_self, R, record_at, listed, listed_length, listed_at, listed_rows, record_row, row_of, no_row}
use Rattle.fair.proofs.Found.{replaced_at}
use Rattle.fair.proofs.Find as finding
use Rattle.fair.proofs.Find.{kept_at}

module _ (room : ℕ) where
  abbrev pub used : R room → Use → R room
  used r x = record { name = r.name; used = x }

  -- a record with another use: its row has it
  pub row_with : (r : Record) (x : Use) → Whole x → Seven r → row_of room (with_use r x) ≡ used (row_of room r) x
  unfolding row_of with_use store.units_put store.uses_put
  row_with r x whole seven = back.put_there (r.words ∷ []) (r.floats ∷ []) 0 x whole (omega arith) (omega arith) room (r.tag ∷ []) seven

  module _ (m : Rows) (n : ℕ) (s : Sound m n) (i : ℕ) (l : i < n) (x : Use) (whole : Whole x) (seven : Seven (laws.record_at m i)) where
    -- the list after a use was put: the row at that place has it
    pub listed_put : listed room (put m i x) n ≡ set (listed room m n) i (used (record_at room m i) x)
    listed_put =
        listed_rows room (put m i x) n ∙ ap (map (row_of room)) (puts m n i x s l).list
        ∙ map-set (row_of room) (laws.listed m n) i (with_use (laws.record_at m i) x)
        ∙ ap (set (map (row_of room) (laws.listed m n)) i) (row_with (laws.record_at m i) x whole seven ∙ ap (λ (r : R room). used r x) (sym (record_row room m i)))
        ∙ ap (λ (rs : List (R room)). set rs i (used (record_at room m i) x)) (sym (listed_rows room m n))

  -- THE PUT: the model's
  pub put_found : (m : Rows) (n : ℕ) → Well m n → (w : sender_name.Name) → table_of_tag w.tag < «PARTS» → (i : ℕ) → find m w ≡ Some i → (x : Use) → Whole x → Wide m n
      → (place : ℕ) → listed room (put m i x) n ≡ model.put Name same shares room place (named w) x (listed room m n)
  put_found m n h w t i e x whole wide place =
      let g = finding.finds room m n h w t i e in
      let s : there (model.find Name same shares room (named w) (listed room m n)) ≡ true = ap there (finding.sought room m n h w t ∙ ap (kept_at m) e) in
      listed_put m n h.sound i g.low x whole (wide i g.low)
      ∙ sym (put_there Name same shares room same_is same_self place (named w) x (listed room m n) s
      ∙ replaced_at Name same shares room (named w) (no_row room) x (listed room m n) i (omega (arith, listed_length room m n, g.low)) g.before g.there
      ∙ ap (λ (r : R room). set (listed room m n) i (used r x)) (listed_at room m n i g.low))
