-- What stands at a place of a list that was laid over, inserted into, or changed from a place on. Assumes nothing.
use mathlib.Core.Path.{◌≡◌, sym, ap, ◌∙◌}
use mathlib.Core.List.{List, ◌∷◌, ◌++◌, append_assoc, map}
use Prim.Native.Nat.{ℕ, suc, ◌+◌, ◌-◌, ◌<◌, ◌≤◌}
use native.Mathlib.Omega.{arith}
use lib.ListN.{length, get_or, take, drop, length-append, length-drop, length-map, get_or-append}
use lib.Seq.{take_at, length-take-le, get_or-append-add, get_or-take, get_or-drop}
use Rattle.shifting.specs.Shifting.{over, part, inserted}
use Rattle.shifting.specs.Offsets.{from_on}
use Rattle.shifting.proofs.Laying.{over_beyond, length_over, part_length}
use Rattle.shifting.proofs.Whole.{map_at}

pub later : {A : Type 0} (d : A) (a b : List A) (m k : ℕ) → length a ≡ m → m ≤ k → get_or (a ++ b) k d ≡ get_or b (k - m) d
later d a b m k e h =
    let z : length a + (k - m) ≡ k = omega arith in
    ap (λ (i : ℕ). get_or (a ++ b) i d) (sym z) ∙ get_or-append-add a b (k - m) d

module _ {A : Type 0} (d : A) (xs : List A) where
  pub over_before : (i : ℕ) (ys : List A) (k : ℕ) → i ≤ length xs → k < i → get_or (over xs i ys) k d ≡ get_or xs k d
  unfolding over
  over_before i ys k h l =
      ap (λ (r : List A). get_or r k d) (append_assoc (take i xs) ys (drop (i + length ys) xs))
      ∙ get_or-append (take i xs) (ys ++ drop (i + length ys) xs) d k (omega (arith, length-take-le i xs h)) ∙ get_or-take i xs k d l

  pub over_within : (i : ℕ) (ys : List A) (k : ℕ) → i ≤ length xs → i ≤ k → k < i + length ys → get_or (over xs i ys) k d ≡ get_or ys (k - i) d
  unfolding over
  over_within i ys k h l m =
      ap (λ (r : List A). get_or r k d) (append_assoc (take i xs) ys (drop (i + length ys) xs))
      ∙ later d (take i xs) (ys ++ drop (i + length ys) xs) i k (length-take-le i xs h) l
      ∙ get_or-append ys (drop (i + length ys) xs) d (k - i) (omega arith)

  pub part_at : (a b k : ℕ) → k < b - a → get_or (part xs a b) k d ≡ get_or xs (a + k) d
  unfolding part
  part_at a b k h = get_or-take (b - a) (drop a xs) k d h ∙ get_or-drop a xs k d

module _ {A : Type 0} (d : A) (xs : List A) (p n : ℕ) (v : A) (h : p ≤ n) (l : n < length xs) where
  pub inserted_before : (k : ℕ) → k < p → get_or (inserted xs p n v) k d ≡ get_or xs k d
  unfolding inserted
  inserted_before k u = over_before d xs p (v ∷ part xs p n) k (omega arith) u

  pub inserted_here : get_or (inserted xs p n v) p d ≡ v
  unfolding inserted
  inserted_here =
      let z : p - p ≡ 0 = omega arith in
      over_within d xs p (v ∷ part xs p n) p (omega arith) (omega arith) (omega arith) ∙ ap (λ (i : ℕ). get_or (v ∷ part xs p n) i d) z

  pub inserted_behind : (k : ℕ) → p ≤ k → k < n → get_or (inserted xs p n v) (k + 1) d ≡ get_or xs k d
  unfolding inserted
  inserted_behind k u m =
      let z : k + 1 - p ≡ suc (k - p) = omega arith in
      let y : p + (k - p) ≡ k = omega arith in
      over_within d xs p (v ∷ part xs p n) (k + 1) (omega arith) (omega arith) (omega (arith, part_length xs p n (omega arith)))
      ∙ ap (λ (i : ℕ). get_or (v ∷ part xs p n) i d) z ∙ part_at d xs p n (k - p) (omega arith) ∙ ap (λ (i : ℕ). get_or xs i d) y

  pub inserted_front : take (n + 1) (inserted xs p n v) ≡ take p xs ++ (v ∷ part xs p n)
  unfolding inserted over
  inserted_front = take_at (take p xs ++ (v ∷ part xs p n)) (drop (p + length (v ∷ part xs p n)) xs) (n + 1) (simp (length-append, length-take-le p xs (omega arith), part_length xs p n (omega arith)) (omega arith))

  pub length_inserted : length (inserted xs p n v) ≡ length xs
  unfolding inserted
  length_inserted = length_over xs p (v ∷ part xs p n) (omega (arith, part_length xs p n (omega arith)))

  -- behind n all is as it was
  pub inserted_beyond : (k : ℕ) → n < k → get_or (inserted xs p n v) k d ≡ get_or xs k d
  unfolding inserted
  inserted_beyond k u = over_beyond d xs p (v ∷ part xs p n) k (omega arith) (omega (arith, part_length xs p n (omega arith)))

-- ---- offsets
module _ (f : ℕ → ℕ) (os : List ℕ) (i : ℕ) where
  pub from_before : (k : ℕ) → i ≤ length os → k < i → get_or (from_on f os i) k 0 ≡ get_or os k 0
  unfolding from_on
  from_before k h l = over_before 0 os i (map f (drop i os)) k h l

  pub from_behind : (k : ℕ) → i ≤ k → k < length os → get_or (from_on f os i) k 0 ≡ f (get_or os k 0)
  unfolding from_on
  from_behind k h l =
      let z : i + (k - i) ≡ k = omega arith in
      let u = length-map (drop i os) f ∙ length-drop i os in
      over_within 0 os i (map f (drop i os)) k (omega arith) h (omega (arith, u))
      ∙ map_at f (drop i os) (k - i) (omega (arith, length-drop i os)) ∙ ap f (get_or-drop i os (k - i) 0 ∙ ap (λ (j : ℕ). get_or os j 0) z)
