-- The search of the part of a unit's table is the model's finding. Assumes nothing.
use mathlib.Core.Path.{◌≡◌, refl, sym, ap, subst, ◌∙◌}
use mathlib.Core.Bool.{Bool, true, false}
use Prim.Native.Nat.{ℕ, ◌<◌}
use native.Mathlib.Omega.{arith}
use lib.ListN.{get_or}
use Rattle.std.specs.Prelude.{Option, Some, None}
use Rattle.sender.specs.declared.Name as sender_name
use Rattle.sender.specs.Sender.{table_of_tag}
use Rattle.store.specs.Store.{words_at, has_tag, first}
use Rattle.store.specs.Found.{found}
use Rattle.store.proofs.Found as option
use Rattle.store.proofs.Steps.{first_holds, first_least}
use Rattle.shifting.specs.Offsets.{«PARTS»}
use Rattle.parts.specs.Parts.{Rows, is_at, find, use_of}
use Rattle.parts.specs.Laws.{Well}
use Rattle.parts.proofs.Searching.{searches}
use Rattle.fair.specs.Store as model
use Rattle.fair.specs.Demand.{Kept, absent, present}
use Rattle.fair.proofs.View.{Name, same, shares, named, R, record_at, listed, listed_length, listed_at, no_row}
use Rattle.fair.proofs.Found.{found_at, found_none}

-- the use of a record that a search found
abbrev pub kept_at : Rows → Option ℕ → Kept
kept_at m None = absent
kept_at m (Some i) = present (use_of m i)

module _ (room : ℕ) (m : Rows) (n : ℕ) (h : Well m n) (w : sender_name.Name) (t : table_of_tag w.tag < «PARTS») where
  abbrev f : ℕ
  f = first (is_at m w) n

  abbrev row : ℕ → R room
  row j = get_or (listed room m n) j (no_row room)

  -- the test of the search is that of the names
  at_is : (j : ℕ) → is_at m w j ≡ same (named w) (record_at room m j).name
  unfolding is_at has_tag record_at words_at
  at_is j = refl

  used_is : (j : ℕ) → (record_at room m j).used ≡ use_of m j
  unfolding record_at
  used_is j = refl

  row_is : (j : ℕ) (b : Bool) → j < n → is_at m w j ≡ b → same (named w) (row j).name ≡ b
  row_is j b l e = ap (λ (r : R room). same (named w) r.name) (listed_at room m n j l) ∙ sym (at_is j) ∙ e

  -- the first of all
  everywhere : find m w ≡ found n f
  everywhere = (searches m n w h.sound.whole t).everywhere h.homed

  -- what is found is live; no row before it has the name
  pub record Finds (i : ℕ) : Type 0 where
    pub low : i < n
    pub before : (j : ℕ) → j < i → same (named w) (row j).name ≡ false
    pub there : same (named w) (row i).name ≡ true

  pub finds : (i : ℕ) → find m w ≡ Some i → Finds i
  finds i e =
      let q = option.found_some n f i (sym everywhere ∙ e) in
      let z = q.0 in
      let l = q.1 in
      record {
        low = omega arith;
        before = λ j k. row_is j false (omega arith) (first_least (is_at m w) n j (omega arith));
        there = subst (λ (j : ℕ). same (named w) (row j).name ≡ true) z (row_is f true l (first_holds (is_at m w) n l));
      }

  -- THE FIND: the model's
  pub sought : model.find Name same shares room (named w) (listed room m n) ≡ kept_at m (find m w)
  sought = by (find m w) refl
    where
      by : (o : Option ℕ) → find m w ≡ o → model.find Name same shares room (named w) (listed room m n) ≡ kept_at m o
      by None e = found_none Name same shares room (named w) (no_row room) (listed room m n) (λ j k.
          let g = option.found_none n f (sym everywhere ∙ e) in
          let l : j < n = omega (arith, listed_length room m n) in
          row_is j false l (first_least (is_at m w) n j (omega arith)))
      by (Some i) e =
          let g = finds i e in
          found_at Name same shares room (named w) (no_row room) (listed room m n) i (omega (arith, listed_length room m n, g.low)) g.before g.there
          ∙ ap present (ap (λ (r : R room). r.used) (listed_at room m n i g.low) ∙ used_is i)
