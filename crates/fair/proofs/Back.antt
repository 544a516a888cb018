-- What is put is read back: a use put into a record, and a new record. Assumes nothing.
use mathlib.Core.Path.{◌≡◌, sym, ap, ◌∙◌}
use Prim.Native.Nat.{ℕ, ◌+◌, ◌-◌, ◌<◌}
use native.Mathlib.Omega.{arith}
use mathlib.Core.List.{List, [], ◌∷◌}
use lib.Ieee.{Float, nan}
use lib.ListN.{length, get_or, set, length-set, replicate, length-replicate}
use lib.Seq.{get_or-set_same, get_or-set_other, ext_get_or}
use borrow.Author.Tests.{lt-ltb, le-ltb}
use Rattle.ieee.specs.Doubles.{nothing}
use Rattle.flow.specs.declared.Use.{Use}
use Rattle.flow.specs.Flow.{at, dims}
use Rattle.flow.proofs.Parts.{upto_at, upto_length}
use Rattle.sender.specs.declared.Words.{Words}
use Rattle.sender.specs.declared.Name.{Name}
use Rattle.store.specs.Store.{part, picked, joined, unit_row, words_at, name_at, use_at, units_put, uses_put}
use Rattle.store.proofs.Names.{words_put}
use Rattle.parts.specs.Parts.{words_of, floats_of}
use Rattle.fair.proofs.View as view

-- ---- floats
pub part_length : (row : List Float) (from : ℕ) → length (part row from) ≡ dims
unfolding part
part_length row from = upto_length _ dims _ ∙ length-replicate dims nothing

part_at : (row : List Float) (from d : ℕ) → d < dims → get_or (part row from) d nan ≡ at row (from + d)
unfolding part
part_at row from d h = upto_at nan (λ (i : ℕ). at row (from + i)) dims (replicate dims nothing) d h (omega (arith, length-replicate dims nothing))

joined_at : (a b : List Float) (i : ℕ) → i < dims + dims → at (joined a b) i ≡ picked a b i
unfolding joined
joined_at a b i h = upto_at nan (picked a b) (dims + dims) (replicate (dims + dims) nothing) i h (omega (arith, length-replicate (dims + dims) nothing))

picked_low : (a b : List Float) (i : ℕ) → i < dims → picked a b i ≡ at a i
unfolding picked
picked_low a b i h = simp (lt-ltb i dims h)

picked_high : (a b : List Float) (i : ℕ) → picked a b (dims + i) ≡ at b i
unfolding picked
picked_high a b i = let e : dims + i - dims ≡ i = omega arith in simp (le-ltb (dims + i) dims (omega arith), e)

low : (a b : List Float) → length a ≡ dims → part (joined a b) 0 ≡ a
low a b e = ext_get_or nan (part (joined a b) 0) a (part_length (joined a b) 0 ∙ sym e)
    (λ d h. let l : d < dims = omega (arith, part_length (joined a b) 0) in
    let z : 0 + d ≡ d = omega arith in
    part_at (joined a b) 0 d l ∙ ap (at (joined a b)) z ∙ joined_at a b d (omega arith) ∙ picked_low a b d l)

high : (a b : List Float) → length b ≡ dims → part (joined a b) dims ≡ b
high a b e = ext_get_or nan (part (joined a b) dims) b (part_length (joined a b) dims ∙ sym e)
    (λ d h. let l : d < dims = omega (arith, part_length (joined a b) dims) in
    part_at (joined a b) dims d l ∙ joined_at a b (dims + d) (omega arith) ∙ picked_high a b d)

-- ---- a use has a part for each dimension
pub record Whole (u : Use) : Type 0 where
  pub attempted : length u.attempted ≡ dims
  pub credit : length u.credit ≡ dims

use_of : (u v : Use) → u.attempted ≡ v.attempted → u.credit ≡ v.credit → u.at_ms ≡ v.at_ms → u.fresh ≡ v.fresh → u ≡ v
use_of u v p q r s =
    ap (λ (x : List Float). record { attempted = x; credit = u.credit; at_ms = u.at_ms; fresh = u.fresh }) p
    ∙ ap (λ (x : List Float). record { attempted = v.attempted; credit = x; at_ms = u.at_ms; fresh = u.fresh }) q
    ∙ ap (λ (x : ℕ). record { attempted = v.attempted; credit = v.credit; at_ms = x; fresh = u.fresh }) r
    ∙ ap (λ (x : ℕ). record { attempted = v.attempted; credit = v.credit; at_ms = v.at_ms; fresh = x }) s

module _ (units : List (List ℕ)) (uses : List (List Float)) (i : ℕ) (u : Use) (w : Whole u) (hu : i < length units) (hs : i < length uses) where
  put_back_read : length (get_or units i []) ≡ 7 → use_at (units_put units i u) (uses_put uses i u) i ≡ u
  unfolding use_at units_put uses_put
  put_back_read seven =
      let r = unit_row units i in
      let e : get_or (set units i (set (set r 5 u.at_ms) 6 u.fresh)) i [] ≡ set (set r 5 u.at_ms) 6 u.fresh = get_or-set_same units i _ [] hu in
      let f : get_or (set uses i (joined u.attempted u.credit)) i [] ≡ joined u.attempted u.credit = get_or-set_same uses i _ [] hs in
      let s4 : get_or (set (set r 5 u.at_ms) 6 u.fresh) 5 0 ≡ u.at_ms =
      get_or-set_other (set r 5 u.at_ms) 6 5 u.fresh 0 (λ q. absurd (omega arith)) ∙ get_or-set_same r 5 u.at_ms 0 (omega arith) in
      let s5 : get_or (set (set r 5 u.at_ms) 6 u.fresh) 6 0 ≡ u.fresh =
      get_or-set_same (set r 5 u.at_ms) 6 u.fresh 0 (simp length-set (omega arith)) in
      use_of _ u (ap (λ (x : List Float). part x 0) f ∙ low u.attempted u.credit w.attempted) (ap (λ (x : List Float). part x dims) f ∙ high u.attempted u.credit w.credit)
      (ap (λ (x : List ℕ). get_or x 5 0) e ∙ s4) (ap (λ (x : List ℕ). get_or x 6 0) e ∙ s5)

  -- a use put into the record at a place: its row has the use
  pub put_there : (room : ℕ) (tags : List ℕ) → length (get_or units i []) ≡ 7
      → view.row room (name_at tags (units_put units i u) i) (use_at (units_put units i u) (uses_put uses i u) i) ≡ view.row room (name_at tags units i) u
  put_there room tags seven =
      ap (λ (w : Words). view.row room (record { tag = get_or tags i 0; words = w }) (use_at (units_put units i u) (uses_put uses i u) i)) (words_put units i u hu)
      ∙ ap (λ (x : Use). view.row room (name_at tags units i) x) (put_back_read seven)

-- a new record's row
pub new_there : (room : ℕ) (w : Name) (u : Use) → Whole u
    → view.row room (name_at (w.tag ∷ []) (words_of w u ∷ []) 0) (use_at (words_of w u ∷ []) (floats_of u ∷ []) 0) ≡ view.row room w u
unfolding words_at use_at
new_there room w u whole = simp (low u.attempted u.credit whole.attempted, high u.attempted u.credit whole.credit)
