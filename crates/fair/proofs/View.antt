-- The records table by table as the model's rows: the live records as a list, in the order of the index, each under its name. Definitions,
-- and what they amount to. Assumes nothing.
use mathlib.Core.Path.{◌≡◌, refl, sym, ap, ◌∙◌, subst}
use Prim.Native.Nat.{ℕ, zero, suc, ◌<◌}
use native.Mathlib.Omega.{arith}
use mathlib.Core.Bool.{Bool, true, false, ◌&&◌, true≢false}
use mathlib.Core.List.{List, [], ◌∷◌, ◌++◌, map}
use lib.Dec.{T, eqb}
use lib.ListN.{length, get_or, length-map}
use borrow.Author.Tests.{eqb-true, eq-eqb}
use Rattle.std.proofs.lemmas.Bool.{and_parts}
use Rattle.std.proofs.lemmas.List.{map-append, get_or-map}
use Rattle.flow.specs.declared.Use.{Use}
use Rattle.sender.specs.declared.Name as sender_name
use Rattle.sender.specs.Sender as sender
use Rattle.sender.specs.declared.Unit as unit
use Rattle.store.specs.Store as store
use Rattle.store.specs.Store.{Record, words_at, use_at}
use Rattle.store.proofs.Names as stored
use Rattle.parts.specs.Parts.{Rows, use_of}
use Rattle.parts.specs.Laws as laws
use Rattle.parts.proofs.Listing as listing
use Rattle.parts.proofs.Listing.{no_record}
use Rattle.store_entry.specs.Own.{name_at}
use Rattle.fair.specs.Store as model
use Rattle.fair.specs.Calls.{same_name}

-- ---- names
-- a unit's tag and words, and whether it is overflow, which goes to overflow's record at once
pub record Name : Type 0 where
  pub overflow : Bool
  pub name : sender_name.Name

abbrev pub alike : Bool → Bool → Bool
alike true b = b
alike false true = false
alike false false = true

abbrev pub same : Name → Name → Bool
same u v = alike u.overflow v.overflow && same_name u.name v.name

abbrev pub shares : Name → Bool
shares u = u.overflow

abbrev pub name_of : unit.Unit → Name
name_of u = record { overflow = sender.is_overflow u; name = sender.name_of u }

abbrev pub named : sender_name.Name → Name
named w = record { overflow = false; name = w }

alike_of : (a b : Bool) → alike a b ≡ true → a ≡ b
alike_of true b e = sym e
alike_of false true e = absurd (true≢false (sym e))
alike_of false false e = refl

alike_self : (a : Bool) → alike a a ≡ true
alike_self true = refl
alike_self false = refl

true_of : (b : Bool) → T b → b ≡ true
true_of true t = refl
true_of false t = absurd t

name_ext : (a a' : Bool) (w w' : sender_name.Name) → a ≡ a' → w ≡ w' → ◌≡◌ {A = Name} (record { overflow = a; name = w }) (record { overflow = a'; name = w' })
name_ext a a' w w' p q = cc

pair_same : (v w : sender_name.Name) → same_name v w ≡ true → v ≡ w
pair_same v w e =
    let a = and_parts (eqb w.tag v.tag) _ e in
    stored.name_ext v.tag w.tag v.words w.words (sym (eqb-true w.tag v.tag a.0)) (sym (stored.words_same w.words v.words a.1))

pair_self : (v : sender_name.Name) → same_name v v ≡ true
pair_self v = simp (eq-eqb v.tag v.tag refl, stored.words_self v.words)

pub same_is : (u v : Name) → T (same u v) → u ≡ v
same_is u v t =
    let a = and_parts (alike u.overflow v.overflow) _ (true_of (same u v) t) in
    name_ext u.overflow v.overflow u.name v.name (alike_of u.overflow v.overflow a.0) (pair_same u.name v.name a.1)

pub same_self : (u : Name) → T (same u u)
same_self u = subst T (sym (ap (λ (b : Bool). b && same_name u.name u.name) (alike_self u.overflow) ∙ pair_self u.name)) tt

-- ---- rows
module _ (room : ℕ) where
  abbrev pub R : Type 0
  R = model.Row Name same shares room

  abbrev pub row : sender_name.Name → Use → R
  row w u = record { name = named w; used = u }

  unfoldable pub record_at : Rows → ℕ → R
  record_at m k = row (name_at m k) (use_of m k)

  unfoldable pub listed : Rows → ℕ → List R
  listed m zero = []
  listed m (suc n) = listed m n ++ (record_at m n ∷ [])

  -- a record as a row
  unfoldable pub row_of : Record → R
  row_of r = row (store.name_at (r.tag ∷ []) (r.words ∷ []) 0) (use_at (r.words ∷ []) (r.floats ∷ []) 0)

  pub record_row : (m : Rows) (k : ℕ) → record_at m k ≡ row_of (laws.record_at m k)
  unfolding record_at row_of laws.record_at use_of use_at words_at
  record_row m k = refl

  -- THE LIST: that of the records, each as a row
  pub listed_rows : (m : Rows) (n : ℕ) → listed m n ≡ map row_of (laws.listed m n)
  unfolding listed laws.listed
  listed_rows m zero = refl
  listed_rows m (suc n) = simp (listed_rows m n, record_row m n) (sym (map-append row_of (laws.listed m n) (laws.record_at m n ∷ [])))

  pub listed_length : (m : Rows) (n : ℕ) → length (listed m n) ≡ n
  listed_length m n = ap length (listed_rows m n) ∙ length-map (laws.listed m n) row_of ∙ listing.length_listed m n

  -- what a place past the list reads as
  abbrev pub no_row : R
  no_row = row_of no_record

  pub listed_at : (m : Rows) (n k : ℕ) → k < n → get_or (listed m n) k no_row ≡ record_at m k
  listed_at m n k h =
      ap (λ (l : List R). get_or l k no_row) (listed_rows m n)
      ∙ get_or-map row_of (laws.listed m n) k no_record no_row (omega (arith, listing.length_listed m n))
      ∙ ap row_of (listing.listed_at no_record m n k h) ∙ sym (record_row m k)
