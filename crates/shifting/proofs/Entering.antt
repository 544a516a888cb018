-- An entry comes in, turn by turn. Assumes nothing.
use mathlib.Core.Path.{◌≡◌, sym, ap, ◌∙◌}
use mathlib.Core.List.{List, ◌∷◌, ◌++◌}
use Prim.Native.Nat.{ℕ, suc, ◌+◌, ◌-◌, ◌<◌, ◌≤◌}
use native.Mathlib.Omega.{arith}
use lib.ListN.{length, get_or, set, take, drop, length-take, length-drop}
use lib.Seq.{paste, paste-zero, get_or-drop}
use Rattle.std.proofs.lemmas.List.{get_or_default}
use Rattle.shifting.specs.Shifting.{over, part, inserted}
use Rattle.shifting.proofs.Laying.{paste_beyond, paste_next}

-- the entries when the place i is next, and the entry that is then held
unfoldable pub coming : {A : Type 0} → List A → ℕ → A → ℕ → List A
coming xs p v i = paste xs p (v ∷ drop p xs) (i - p)

unfoldable pub held : {A : Type 0} → List A → ℕ → A → ℕ → A
held xs p v i = get_or (v ∷ drop p xs) (i - p) v

module _ {A : Type 0} (xs : List A) (p : ℕ) (v : A) where
  long : length (v ∷ drop p xs) ≡ suc (length xs - p)
  long = ap suc (length-drop p xs)

  pub come_none : xs ≡ coming xs p v p
  unfolding coming
  come_none = let z : 0 ≡ p - p = omega arith in paste-zero xs p (v ∷ drop p xs) ∙ ap (paste xs p (v ∷ drop p xs)) z

  pub held_none : v ≡ held xs p v p
  unfolding held
  held_none = let z : 0 ≡ p - p = omega arith in ap (λ (k : ℕ). get_or (v ∷ drop p xs) k v) z

  module _ (i : ℕ) (h : p ≤ i) (l : i < length xs) where
    pub come_turn : set (coming xs p v i) i (held xs p v i) ≡ coming xs p v (i + 1)
    unfolding coming held
    come_turn =
        let z : p + (i - p) ≡ i = omega arith in
        let y : i - p + 1 ≡ i + 1 - p = omega arith in
        ap (λ (k : ℕ). set (paste xs p (v ∷ drop p xs) (i - p)) k (get_or (v ∷ drop p xs) (i - p) v)) (sym z)
        ∙ paste_next v xs p (v ∷ drop p xs) (i - p) (omega arith) (omega (arith, long)) ∙ ap (paste xs p (v ∷ drop p xs)) y

    -- what is read at i is held next
    pub come_next : (x : A) → x ≡ get_or (coming xs p v i) i x → x ≡ held xs p v (i + 1)
    unfolding coming held
    come_next x e =
        let z : p + (i - p) ≡ i = omega arith in
        let y : suc (i - p) ≡ i + 1 - p = omega arith in
        e ∙ paste_beyond x xs p (v ∷ drop p xs) (i - p) i (omega arith) (omega (arith, long)) (omega arith)
        ∙ get_or_default xs i x v l ∙ ap (λ (k : ℕ). get_or xs k v) (sym z) ∙ sym (get_or-drop p xs (i - p) v)
        ∙ ap (λ (k : ℕ). get_or (v ∷ drop p xs) k v) y

  pub come_done : (n : ℕ) → p ≤ n → n < length xs → coming xs p v (n + 1) ≡ inserted xs p n v
  unfolding coming inserted over part
  come_done n h l =
      let z : n + 1 - p ≡ suc (n - p) = omega arith in
      let y : p + suc (n - p) ≡ p + suc (length (take (n - p) (drop p xs))) = simp (length-take, length-drop) (omega arith) in
      ap (paste xs p (v ∷ drop p xs)) z ∙ ap (λ (i : ℕ). take p xs ++ (v ∷ take (n - p) (drop p xs)) ++ drop i xs) y
