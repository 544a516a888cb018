-- A search of the part of the unit's table is a search of everything where each part has only entries of its own table. Assumes nothing.
use mathlib.Core.Path.{◌≡◌, refl, sym, ap, subst, ◌∙◌}
use mathlib.Core.Bool.{Bool, true, false, true≢false}
use Prim.Native.Nat.{ℕ, zero, suc, ◌+◌, ◌-◌, ◌<◌, ◌≤◌}
use native.Mathlib.Numerals.{add-one}
use native.Mathlib.Nat.{add-sub_of_le}
use native.Mathlib.Omega.{arith}
use native.Mathlib.Decide.{dec_le, dec_lt}
use mathlib.Core.List.{List}
use lib.Dec.{eqb}
use lib.ListN.{length, get_or}
use borrow.Author.Tests.{eqb-true}
use Rattle.std.specs.Prelude.{Option, Some, None, IfSome}
use Rattle.std.proofs.lemmas.Bool.{and_parts}
use Rattle.sender.specs.declared.Name.{Name}
use Rattle.sender.specs.Sender.{table_of_tag}
use Rattle.store.specs.Store.{first, has_tag}
use Rattle.store.specs.Found.{found}
use Rattle.store.proofs.Found.{some_found, none_found, found_some}
use Rattle.store.proofs.Steps.{first_holds, first_least, first_some, first_found, first_all}
use Rattle.shifting.specs.Offsets.{Whole}
use Rattle.shifting.proofs.Whole.{whole_below}
use Rattle.parts.specs.Parts.{Rows, begin, end, is_at, find_within, find}
use Rattle.parts.specs.Held.{Sized, Ready}
use Rattle.parts.specs.Laws.{Homed, Searches}

-- every place below the end lies in a part
pub lies : (os : List ℕ) (n k : ℕ) → Whole os n → k < n → (t : ℕ) × (t < 64) × (get_or os t 0 ≤ k) × (k < get_or os (t + 1) 0)
lies os n k w h = from 64 (omega arith) (omega (arith, w.ends))
  where
    from : (i : ℕ) → i ≤ 64 → k < get_or os i 0 → (t : ℕ) × (t < 64) × (get_or os t 0 ≤ k) × (k < get_or os (t + 1) 0)
    from zero a b = absurd (omega (arith, w.begins))
    from (suc i) a b = elim (dec_le (get_or os i 0) k) [
      | yes x ↦ (i, omega arith, x, subst (λ (j : ℕ). k < get_or os j 0) (sym (add-one i)) b)
      | no x ↦ from i (omega arith) (omega arith)
    ]

not_true : (b : Bool) → (b ≡ true → ⊥) → b ≡ false
not_true true h = absurd (h refl)
not_true false h = refl

module _ (m : Rows) (n : ℕ) (name : Name) (w : Whole m.offsets n) (h : table_of_tag name.tag < 64) where
  abbrev t : ℕ
  t = table_of_tag name.tag

  abbrev a : ℕ
  a = begin m t

  abbrev b : ℕ
  b = end m t

  -- the test of the place k of the part
  abbrev p : ℕ → Bool
  p k = is_at m name (a + k)

  abbrev f : ℕ
  f = first p (b - a)

  up : a ≤ b
  up = w.rises t h

  within : b ≤ n
  within = whole_below m.offsets n w (t + 1) (omega arith)

  -- ---- none, or an entry of the part that is the unit's
  found_inside : (o : Option ℕ) → found b (a + f) ≡ o → IfSome o (λ i. (a ≤ i) × (i < b) × (is_at m name i ≡ true))
  found_inside None e = tt
  found_inside (Some i) e =
      let q = found_some b (a + f) i e in
      let l : f < b - a = omega (arith, q.1) in
      (omega (arith, q.0), omega (arith, q.0, q.1), subst (λ (k : ℕ). is_at m name k ≡ true) q.0 (first_holds p (b - a) l))

  -- ---- the first of all
  at_tag : (k : ℕ) → is_at m name k ≡ true → get_or m.tags k 0 ≡ name.tag
  unfolding is_at has_tag
  at_tag k e = eqb-true (get_or m.tags k 0) name.tag ((and_parts (eqb (get_or m.tags k 0) name.tag) _ e).0)

  module _ (home : Homed m) where
    only : (k : ℕ) → k < n → is_at m name k ≡ true → (a ≤ k) × (k < b)
    only k l q =
        let r = lies m.offsets n k w l in
        let z : r.0 ≡ t = sym (home r.0 k r.1 r.2 r.3) ∙ ap table_of_tag (at_tag k q) in
        (subst (λ (u : ℕ). get_or m.offsets u 0 ≤ k) z r.2, subst (λ (u : ℕ). k < get_or m.offsets (u + 1) 0) z r.3)

    -- an entry that is the unit's is none of those before the first in the part
    not_before : (k : ℕ) → k < n → k < a + f → is_at m name k ≡ false
    not_before k l g = not_true (is_at m name k) (λ q.
        let o = only k l q in
        let z : a + (k - a) ≡ k = add-sub_of_le o.0 in
        true≢false (sym (ap (is_at m name) z ∙ q) ∙ first_least p (b - a) (k - a) (omega (arith, o.0))))

    -- where the part has none there is none
    nowhere : b - a ≤ f → (k : ℕ) → k < n → is_at m name k ≡ false
    nowhere g k l = not_true (is_at m name k) (λ q.
        let o = only k l q in
        let z : a + (k - a) ≡ k = add-sub_of_le o.0 in
        let s = first_some p (b - a) (k - a) (omega (arith, o.0, o.1)) (ap (is_at m name) z ∙ q) in
        absurd (omega arith))

    first_everywhere : found b (a + f) ≡ found n (first (is_at m name) n)
    first_everywhere = elim (dec_lt f (b - a)) [
      | yes g ↦ (let c : a + f < n = omega (arith, up, within) in
          let e = first_found (is_at m name) n (a + f) c (first_all (is_at m name) (a + f) (λ k x y. not_before k (omega arith) y)) (first_holds p (b - a) g) in
          some_found b (a + f) (omega (arith, up)) ∙ sym (ap (found n) e ∙ some_found n (a + f) c))
      | no g ↦ (let e = first_all (is_at m name) n (λ k x y. nowhere (omega arith) k y) in
          none_found b (a + f) (omega (arith, up)) ∙ sym (none_found n (first (is_at m name) n) (omega arith)))
    ]

pub searches : Searches
unfolding find find_within is_at
searches m n name w h = record {
  inside = found_inside m n name w h (find m name) refl;
  everywhere = first_everywhere m n name w h;
}

-- ---- what a search asks of the store holds of one with n records
pub ready : (m : Rows) (n : ℕ) → Sized m → n ≤ length m.units → Whole m.offsets n → Ready m
ready m n z l w = let e = w.ends in record { sized = z; whole = record { begins = w.begins; rises = w.rises; ends = refl }; room = omega arith }
