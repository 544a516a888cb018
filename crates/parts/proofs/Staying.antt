-- A list of whose part from a to b some entries stay, in their order: where each that stays stood, and what list they make. Assumes nothing.
use mathlib.Core.Path.{◌≡◌, refl, sym, ap, subst, ◌∙◌}
use mathlib.Core.Bool.{Bool, cond, not}
use mathlib.Core.List.{List, ◌++◌}
use Prim.Native.Nat.{ℕ, suc, ◌+◌, ◌-◌, ◌<◌, ◌≤◌}
use native.Mathlib.Nat.{add-sub_of_le}
use native.Mathlib.Omega.{arith}
use native.Mathlib.Decide.{dec_le}
use lib.Dec.{ltb}
use lib.ListN.{length, get_or, take, drop, length-append, length-drop, get_or-append}
use lib.Seq.{ext_get_or, get_or-take, get_or-drop, length-take-le}
use borrow.Author.Tests.{lt-ltb, le-ltb}
use Rattle.shifting.specs.Shifting.{part}
use Rattle.shifting.proofs.Laying.{part_length}
use Rattle.shifting.proofs.Places.{later, part_at}
use Rattle.parts.specs.Parts.{those, squeezed}
use Rattle.parts.proofs.Sifting.{those_both}
use Rattle.parts.proofs.Places.{nth, nth_rises, stood, Stood, squeezed_before, squeezed_within, squeezed_behind}

-- where the entry stood that stands at k when d of the part are out
unfoldable pub came : (ℕ → Bool) → ℕ → ℕ → ℕ → ℕ → ℕ
came p a b d k = cond (ltb k a) k (cond (ltb k (b - d)) (nth p a (b - a) (k - a)) (k + d))

-- as many stay of any list of the same length
alike : {A B : Type 0} (p : ℕ → Bool) (i : ℕ) (xs : List A) (ys : List B) → length xs ≡ length ys → length (those p i xs) ≡ length (those p i ys)
alike p i xs ys e =
    let q : ℕ → Bool = λ (k : ℕ). not (p k) in
    omega (arith, those_both p q (λ k. refl) i xs xs refl, those_both p q (λ k. refl) i xs ys e)

module _ (p : ℕ → Bool) (a b n d : ℕ) (up : a ≤ b) (within : b ≤ n) (ws : List ℕ) (long : length ws ≡ b - a) (counts : length (those p a ws) + d ≡ b - a) where
  pass_count : {A : Type 0} (xs : List A) → length xs ≡ b - a → length (those p a xs) + d ≡ b - a
  pass_count xs e = omega (arith, alike p a xs ws (e ∙ sym long))

  pass_at : {A : Type 0} (z : A) (xs : List A) → length xs ≡ b - a → (k : ℕ) → k + d < b - a → Stood z p a xs k (nth p a (b - a) k)
  pass_at z xs e k l = subst (λ (m : ℕ). Stood z p a xs k (nth p a m k)) e (stood z p a xs k (omega (arith, pass_count xs e)))

  came_before : (k : ℕ) → k < a → came p a b d k ≡ k
  unfolding came
  came_before k l = rw (lt-ltb k a l)

  came_within : (k : ℕ) → a ≤ k → k < b - d → came p a b d k ≡ nth p a (b - a) (k - a)
  unfolding came
  came_within k l m = rw (le-ltb k a l, lt-ltb k (b - d) m)

  came_behind : (k : ℕ) → b - d ≤ k → came p a b d k ≡ k + d
  unfolding came
  came_behind k l = rw (le-ltb k a (omega arith), le-ltb k (b - d) l)

  nth_low : (k : ℕ) → k + d < b - a → (a ≤ nth p a (b - a) k) × (nth p a (b - a) k < b)
  nth_low k l = let st = pass_at 0 ws long k l in (st.low, omega (arith, up, st.high))

  -- a later one stood later
  pub came_rises : (k : ℕ) → came p a b d k < came p a b d (k + 1)
  came_rises k = elim (dec_le (b - d) k) [
    | yes x ↦ omega (arith, came_behind k x, came_behind (k + 1) (omega arith))
    | no x ↦ elim (dec_le (b - d) (k + 1)) [
      | yes y ↦ elim (dec_le a k) [
        | yes u ↦ omega (arith, came_within k u (omega arith), came_behind (k + 1) y, (nth_low (k - a) (omega arith)).1)
        | no u ↦ omega (arith, came_before k (omega arith), came_behind (k + 1) y)
      ]
      | no y ↦ elim (dec_le a k) [
        | yes u ↦ (let z : k + 1 - a ≡ suc (k - a) = omega arith in
            let c = came_within (k + 1) (omega arith) (omega arith) ∙ ap (nth p a (b - a)) z in
            let g = subst (λ (m : ℕ). nth p a m (k - a) < nth p a m (suc (k - a))) long (nth_rises 0 p a ws (k - a) (omega arith)) in
            omega (arith, came_within k u (omega arith)))
        | no u ↦ elim (dec_le a (k + 1)) [
          | yes v ↦ omega (arith, came_before k (omega arith), came_within (k + 1) v (omega arith), (nth_low (k + 1 - a) (omega arith)).0)
          | no v ↦ omega (arith, came_before k (omega arith), came_before (k + 1) (omega arith))
        ]
      ]
    ]
  ]

  pub came_low : (k : ℕ) → k < n - d → came p a b d k < n
  came_low k l = elim (dec_le (b - d) k) [
    | yes x ↦ omega (arith, came_behind k x)
    | no x ↦ elim (dec_le a k) [
      | yes u ↦ omega (arith, came_within k u (omega arith), (nth_low (k - a) (omega arith)).1)
      | no u ↦ omega (arith, came_before k (omega arith))
    ]
  ]

  -- ---- what stands at a place of a squeezed list stood there
  module _ (xs : List ℕ) (m : n ≤ length xs) where
    inner : length (part xs a b) ≡ b - a
    inner = part_length xs a b (omega arith)

    row_within : (k : ℕ) → k + d < b - a → get_or (squeezed p xs a b n) (a + k) 0 ≡ get_or xs (nth p a (b - a) k) 0
    row_within k l =
        let st = pass_at 0 (part xs a b) inner k l in
        let lo = st.low in
        let hi = st.high in
        let z : a + (nth p a (b - a) k - a) ≡ nth p a (b - a) k = add-sub_of_le lo in
        squeezed_within p xs a b n up within m k (omega (arith, pass_count (part xs a b) inner))
        ∙ st.same ∙ part_at 0 xs a b (nth p a (b - a) k - a) (omega (arith, inner)) ∙ ap (λ (i : ℕ). get_or xs i 0) z

    row_behind : (k : ℕ) → k < n - b → get_or (squeezed p xs a b n) (b - d + k) 0 ≡ get_or xs (b + k) 0
    row_behind k l =
        let z : b - d + k ≡ a + length (those p a (part xs a b)) + k = omega (arith, pass_count (part xs a b) inner) in
        ap (λ (i : ℕ). get_or (squeezed p xs a b n) i 0) z ∙ squeezed_behind p xs a b n up within m k l

    pub row_came : (k : ℕ) → k < n - d → get_or (squeezed p xs a b n) k 0 ≡ get_or xs (came p a b d k) 0
    row_came k l = elim (dec_le (b - d) k) [
      | yes x ↦ (let z : k ≡ b - d + (k - (b - d)) = omega arith in
          let y : b + (k - (b - d)) ≡ k + d = omega arith in
          ap (λ (i : ℕ). get_or (squeezed p xs a b n) i 0) z ∙ row_behind (k - (b - d)) (omega arith) ∙ ap (λ (i : ℕ). get_or xs i 0) (y ∙ sym (came_behind k x)))
      | no x ↦ elim (dec_le a k) [
        | yes u ↦ (let z : k ≡ a + (k - a) = omega arith in
            ap (λ (i : ℕ). get_or (squeezed p xs a b n) i 0) z ∙ row_within (k - a) (omega arith) ∙ ap (λ (i : ℕ). get_or xs i 0) (sym (came_within k u (omega arith))))
        | no u ↦ squeezed_before p xs a b n up within m k (omega arith) ∙ ap (λ (i : ℕ). get_or xs i 0) (sym (came_before k (omega arith)))
      ]
    ]

  -- ---- a list whose places show what stood there: before the part, those of the part that stay, behind the part
  module _ {A : Type 0} (z : A) (xs ys : List A) (e : length xs ≡ n) where
    abbrev P : List A
    P = those p a (part xs a b)

    inside : length (part xs a b) ≡ b - a
    inside = part_length xs a b (omega arith)

    front : length (take a xs) ≡ a
    front = length-take-le a xs (omega arith)

    both : length (take a xs ++ P) ≡ b - d
    both = omega (arith, length-append (take a xs) P, front, pass_count (part xs a b) inside)

    shown : (k : ℕ) → k < n - d → get_or ((take a xs ++ P) ++ drop b xs) k z ≡ get_or xs (came p a b d k) z
    shown k l = elim (dec_le (b - d) k) [
      | yes x ↦ (let y : b + (k - (b - d)) ≡ k + d = omega arith in
          later z (take a xs ++ P) (drop b xs) (b - d) k both x ∙ get_or-drop b xs (k - (b - d)) z ∙ ap (λ (i : ℕ). get_or xs i z) (y ∙ sym (came_behind k x)))
      | no x ↦ get_or-append (take a xs ++ P) (drop b xs) z k (omega (arith, both)) ∙ elim (dec_le a k) [
        | no u ↦ get_or-append (take a xs) P z k (omega (arith, front)) ∙ get_or-take a xs k z (omega arith) ∙ ap (λ (i : ℕ). get_or xs i z) (sym (came_before k (omega arith)))
        | yes u ↦ (let st = pass_at z (part xs a b) inside (k - a) (omega arith) in
            let lo = st.low in
            let hi = st.high in
            let j = nth p a (b - a) (k - a) in
            let y : a + (j - a) ≡ j = add-sub_of_le lo in
            later z (take a xs) P a k front u ∙ st.same ∙ part_at z xs a b (j - a) (omega (arith, inside)) ∙ ap (λ (i : ℕ). get_or xs i z) (y ∙ sym (came_within k u (omega arith))))
      ]
    ]

    pub list_came : length ys ≡ n - d → ((k : ℕ) → k < n - d → get_or ys k z ≡ get_or xs (came p a b d k) z) → ys ≡ (take a xs ++ P) ++ drop b xs
    list_came f g =
        ext_get_or z ys ((take a xs ++ P) ++ drop b xs) (omega (arith, length-append (take a xs ++ P) (drop b xs), both, length-drop b xs))
        (λ k l. let m : k < n - d = omega arith in g k m ∙ sym (shown k m))
