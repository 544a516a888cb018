-- A part of a list that was joined, that one more came into, from which some left, or of which one was changed. Assumes nothing.
use mathlib.Core.Path.{◌≡◌, sym, ap, ◌∙◌}
use mathlib.Core.List.{List, [], ◌∷◌, ◌++◌, append-nil}
use Prim.Native.Nat.{ℕ, suc, ◌+◌, ◌-◌, ◌<◌, ◌≤◌}
use native.Mathlib.Omega.{arith}
use native.Mathlib.Decide.{ℕ_discrete}
use lib.ListN.{length, get_or, set, take, drop, length-append, length-set, length-drop, take-append-drop}
use lib.Seq.{ext_get_or, length-take-le, get_or-set_same, get_or-set_other, drop-append-add, take-append-add, take_all}
use Rattle.std.proofs.lemmas.List.{take-append-le, drop-append-le}
use Rattle.shifting.specs.Shifting.{part}
use Rattle.shifting.proofs.Laying.{part_length}
use Rattle.shifting.proofs.Places.{part_at}

module _ {A : Type 0} where
  -- ---- of two joined
  pub part_left : (xs ys : List A) (a b : ℕ) → a ≤ b → b ≤ length xs → part (xs ++ ys) a b ≡ part xs a b
  unfolding part
  part_left xs ys a b h l = ap (take (b - a)) (drop-append-le a xs ys (omega arith)) ∙ take-append-le (b - a) (drop a xs) ys (omega (arith, length-drop a xs))

  pub part_right : (xs ys : List A) (a b i j : ℕ) → a ≡ length xs + i → b ≡ length xs + j → part (xs ++ ys) a b ≡ part ys i j
  unfolding part
  part_right xs ys a b i j e f =
      let z : b - a ≡ j - i = omega arith in
      ap (λ (k : ℕ). take k (drop a (xs ++ ys))) z ∙ ap (λ (k : ℕ). take (j - i) (drop k (xs ++ ys))) e ∙ ap (take (j - i)) (drop-append-add xs ys i)

  pub part_over : (xs ys : List A) (a b j : ℕ) → a ≤ length xs → b ≡ length xs + j → part (xs ++ ys) a b ≡ drop a xs ++ take j ys
  unfolding part
  part_over xs ys a b j h e =
      let z : b - a ≡ length (drop a xs) + j = omega (arith, length-drop a xs) in
      ap (λ (k : ℕ). take k (drop a (xs ++ ys))) z ∙ ap (take (length (drop a xs) + j)) (drop-append-le a xs ys h) ∙ take-append-add (drop a xs) ys j

  part_next : (x : A) (xs : List A) (i j : ℕ) → part (x ∷ xs) (suc i) (suc j) ≡ part xs i j
  unfolding part
  part_next x xs i j = let z : suc j - suc i ≡ j - i = omega arith in ap (λ (k : ℕ). take k (drop i xs)) z

  part_all : (xs : List A) → part xs 0 (length xs) ≡ xs
  unfolding part
  part_all xs = let z : length xs - 0 ≡ length xs = omega arith in ap (λ (k : ℕ). take k xs) z ∙ take_all (length xs) xs (omega arith)

  -- ---- of a list into which x came at q
  module _ (xs : List A) (q : ℕ) (x : A) (w : q ≤ length xs) where
    abbrev ys : List A
    ys = take q xs ++ (x ∷ drop q xs)

    front : length (take q xs) ≡ q
    front = length-take-le q xs w

    pub part_before : (a b : ℕ) → a ≤ b → b ≤ q → part ys a b ≡ part xs a b
    part_before a b h l =
        part_left (take q xs) (x ∷ drop q xs) a b h (omega (arith, front)) ∙ sym (part_left (take q xs) (drop q xs) a b h (omega (arith, front)))
        ∙ ap (λ (l : List A). part l a b) (take-append-drop q xs)

    pub part_with : (a : ℕ) → a ≤ q → part ys a (q + 1) ≡ part xs a q ++ (x ∷ [])
    part_with a h =
        part_over (take q xs) (x ∷ drop q xs) a (q + 1) 1 (omega (arith, front)) (omega (arith, front))
        ∙ ap (λ (l : List A). l ++ (x ∷ [])) (sym (ap (λ (l : List A). part l a q) (sym (take-append-drop q xs))
        ∙ part_over (take q xs) (drop q xs) a q 0 (omega (arith, front)) (omega (arith, front)) ∙ append-nil (drop a (take q xs))))

    pub part_behind : (a b : ℕ) → q ≤ a → a ≤ b → part ys (a + 1) (b + 1) ≡ part xs a b
    part_behind a b h l =
        part_right (take q xs) (x ∷ drop q xs) (a + 1) (b + 1) (suc (a - q)) (suc (b - q)) (omega (arith, front)) (omega (arith, front)) ∙ part_next x (drop q xs) (a - q) (b - q)
        ∙ sym (part_right (take q xs) (drop q xs) a b (a - q) (b - q) (omega (arith, front)) (omega (arith, front))) ∙ ap (λ (l : List A). part l a b) (take-append-drop q xs)

  -- ---- of a list in which ks stand in the place of the part from a to b
  module _ (xs ks : List A) (a b d : ℕ) (h : a ≤ b) (l : b ≤ length xs) (e : length ks + d ≡ b - a) where
    abbrev zs : List A
    zs = (take a xs ++ ks) ++ drop b xs

    first : length (take a xs) ≡ a
    first = length-take-le a xs (omega arith)

    two : length (take a xs ++ ks) ≡ b - d
    two = omega (arith, length-append (take a xs) ks, first)

    pub part_earlier : (i j : ℕ) → i ≤ j → j ≤ a → part zs i j ≡ part xs i j
    part_earlier i j u v =
        part_left (take a xs ++ ks) (drop b xs) i j u (omega (arith, two)) ∙ part_left (take a xs) ks i j u (omega (arith, first))
        ∙ sym (part_left (take a xs) (drop a xs) i j u (omega (arith, first))) ∙ ap (λ (l : List A). part l i j) (take-append-drop a xs)

    pub part_left_over : part zs a (b - d) ≡ ks
    part_left_over =
        part_left (take a xs ++ ks) (drop b xs) a (b - d) (omega arith) (omega (arith, two))
        ∙ part_right (take a xs) ks a (b - d) 0 (length ks) (omega (arith, first)) (omega (arith, first)) ∙ part_all ks

    pub part_later : (i j : ℕ) → b ≤ i → i ≤ j → part zs (i - d) (j - d) ≡ part xs i j
    part_later i j u v =
        part_right (take a xs ++ ks) (drop b xs) (i - d) (j - d) (i - b) (j - b) (omega (arith, two)) (omega (arith, two))
        ∙ sym (part_right (take b xs) (drop b xs) i j (i - b) (j - b) (omega (arith, length-take-le b xs l)) (omega (arith, length-take-le b xs l))) ∙ ap (λ (l : List A). part l i j) (take-append-drop b xs)

  -- ---- of a list of which one was changed
  module _ (xs : List A) (k : ℕ) (r : A) (a b : ℕ) (l : b ≤ length xs) where
    long : length (part (set xs k r) a b) ≡ b - a
    long = part_length (set xs k r) a b (omega (arith, length-set xs k r))

    pub part_other : (a ≤ k → k < b → ⊥) → part (set xs k r) a b ≡ part xs a b
    part_other f = ext_get_or r (part (set xs k r) a b) (part xs a b) (long ∙ sym (part_length xs a b l)) (λ i h.
        let g : i < b - a = omega (arith, long) in
        part_at r (set xs k r) a b i g ∙ get_or-set_other xs k (a + i) r r (λ e. f (omega arith) (omega arith)) ∙ sym (part_at r xs a b i g))

    pub part_changed : a ≤ k → k < b → part (set xs k r) a b ≡ set (part xs a b) (k - a) r
    part_changed u v = ext_get_or r (part (set xs k r) a b) (set (part xs a b) (k - a) r) (long ∙ sym (length-set (part xs a b) (k - a) r ∙ part_length xs a b l)) (λ i h.
        let g : i < b - a = omega (arith, long) in
        part_at r (set xs k r) a b i g ∙ elim (ℕ_discrete i (k - a)) [
          | yes e ↦ (let z : a + i ≡ k = omega arith in
              ap (λ (j : ℕ). get_or (set xs k r) j r) z ∙ get_or-set_same xs k r r (omega arith)
              ∙ sym (ap (λ (j : ℕ). get_or (set (part xs a b) (k - a) r) j r) e ∙ get_or-set_same (part xs a b) (k - a) r r (omega (arith, part_length xs a b l))))
          | no e ↦ get_or-set_other xs k (a + i) r r (λ c. e (omega arith)) ∙ sym (get_or-set_other (part xs a b) (k - a) i r r e ∙ part_at r xs a b i g)
        ])
