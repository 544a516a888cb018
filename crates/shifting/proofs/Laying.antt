-- A list laid over another, one element more at a time. Assumes nothing.
use mathlib.Core.Path.{◌≡◌, refl, sym, ap, ◌∙◌}
use mathlib.Core.List.{List, [], ◌∷◌, ◌++◌, append-nil, append_assoc}
use Prim.Native.Nat.{ℕ, suc, ◌+◌, ◌-◌, ◌<◌, ◌≤◌}
use native.Mathlib.Numerals.{add-one}
use native.Mathlib.Nat.{add-zero, add-sub_of_le}
use native.Mathlib.Omega.{arith}
use lib.ListN.{length, get_or, set, take, drop, length-append, length-take, length-drop, take-append-drop}
use lib.Seq.{drop-drop, take_at, paste, paste-suc, drop-paste, take-suc, get_or-drop, drop_at, set_at, drop-cons, append_snoc, length-take-le}
use Rattle.shifting.specs.Shifting.{over, part}

pub over_nil : {A : Type 0} (xs : List A) (i : ℕ) → over xs i [] ≡ xs
unfolding over
over_nil {A} xs i = ap (λ (l : List A). l ++ drop (i + 0) xs) (append-nil (take i xs)) ∙ ap (λ (k : ℕ). take i xs ++ drop k xs) (add-zero i) ∙ take-append-drop i xs

pub over_snoc : {A : Type 0} (d : A) (xs : List A) (i : ℕ) (ys : List A) (x : A) → i + length ys < length xs → set (over xs i ys) (i + length ys) x ≡ over xs i (ys ++ (x ∷ []))
unfolding over
over_snoc {A} d xs i ys x h =
    let z : suc (i + length ys) ≡ i + length (ys ++ (x ∷ [])) = omega (arith, length-append ys (x ∷ [])) in
    ap (λ (r : List A). set ((take i xs ++ ys) ++ r) (i + length ys) x) (drop-cons xs (i + length ys) d h)
    ∙ set_at (take i xs ++ ys) (get_or xs (i + length ys) d) (drop (suc (i + length ys)) xs) x (i + length ys) (simp (length-append, length-take-le i xs (omega arith)))
    ∙ sym (append_snoc (take i xs ++ ys) x (drop (suc (i + length ys)) xs))
    ∙ ap (λ (r : List A). r ++ drop (suc (i + length ys)) xs) (append_assoc (take i xs) ys (x ∷ []))
    ∙ ap (λ (k : ℕ). (take i xs ++ (ys ++ (x ∷ []))) ++ drop k xs) z

pub over_drop : {A : Type 0} (xs : List A) (i : ℕ) (ys : List A) → i ≤ length xs → drop (i + length ys) (over xs i ys) ≡ drop (i + length ys) xs
unfolding over
over_drop xs i ys h = drop_at (take i xs ++ ys) (drop (i + length ys) xs) (i + length ys) (simp (length-append, length-take-le i xs h))

pub over_take : {A : Type 0} (xs : List A) (i : ℕ) (ys : List A) → i ≤ length xs → take (i + length ys) (over xs i ys) ≡ take i xs ++ ys
unfolding over
over_take xs i ys h = take_at (take i xs ++ ys) (drop (i + length ys) xs) (i + length ys) (simp (length-append, length-take-le i xs h))

pub over_beyond : {A : Type 0} (d : A) (xs : List A) (i : ℕ) (ys : List A) (k : ℕ) → i ≤ length xs → i + length ys ≤ k → get_or (over xs i ys) k d ≡ get_or xs k d
over_beyond {A} d xs i ys k h l =
    let e : i + length ys + (k - (i + length ys)) ≡ k = add-sub_of_le l in
    ap (λ (n : ℕ). get_or (over xs i ys) n d) (sym e) ∙ sym (get_or-drop (i + length ys) (over xs i ys) (k - (i + length ys)) d)
    ∙ ap (λ (r : List A). get_or r (k - (i + length ys)) d) (over_drop xs i ys h)
    ∙ get_or-drop (i + length ys) xs (k - (i + length ys)) d ∙ ap (λ (n : ℕ). get_or xs n d) e

pub length_over : {A : Type 0} (xs : List A) (i : ℕ) (ys : List A) → i + length ys ≤ length xs → length (over xs i ys) ≡ length xs
unfolding over
length_over xs i ys h = simp (length-append, length-drop, length-take-le i xs (omega arith)) (omega arith)

-- one laid behind the other is both laid at once
pub over_over : {A : Type 0} (xs : List A) (i j : ℕ) (ys zs : List A) → i ≤ length xs → j ≡ i + length ys → over (over xs i ys) j zs ≡ over xs i (ys ++ zs)
over_over {A} xs i j ys zs h e =
    ap (λ (k : ℕ). over (over xs i ys) k zs) e ∙ opened
    ∙ ap (λ (r : List A). (r ++ zs) ++ drop (i + length ys + length zs) (over xs i ys)) (over_take xs i ys h)
    ∙ ap (λ (r : List A). ((take i xs ++ ys) ++ zs) ++ r) tail
    ∙ ap (λ (r : List A). r ++ drop (i + length (ys ++ zs)) xs) (append_assoc (take i xs) ys zs)
    ∙ closed
  where
    opened : over (over xs i ys) (i + length ys) zs ≡ (take (i + length ys) (over xs i ys) ++ zs) ++ drop (i + length ys + length zs) (over xs i ys)
    opened = unfold over in refl

    closed : (take i xs ++ (ys ++ zs)) ++ drop (i + length (ys ++ zs)) xs ≡ over xs i (ys ++ zs)
    closed = unfold over in refl

    tail : drop (i + length ys + length zs) (over xs i ys) ≡ drop (i + length (ys ++ zs)) xs
    tail =
        let z : i + length ys + length zs ≡ i + length (ys ++ zs) = omega (arith, length-append ys zs) in
        sym (drop-drop (length zs) (i + length ys) (over xs i ys)) ∙ ap (drop (length zs)) (over_drop xs i ys h) ∙ drop-drop (length zs) (i + length ys) xs ∙ ap (λ (k : ℕ). drop k xs) z

-- ---- a part with one place more
pub part_none : {A : Type 0} (xs : List A) (a : ℕ) → part xs a a ≡ []
unfolding part
part_none xs a = let z : a - a ≡ 0 = omega arith in ap (λ (k : ℕ). take k (drop a xs)) z

pub part_more : {A : Type 0} (d : A) (xs : List A) (a b : ℕ) → a ≤ b → b < length xs → part xs a (b + 1) ≡ part xs a b ++ (get_or xs b d ∷ [])
unfolding part
part_more {A} d xs a b h l =
    let z : b + 1 - a ≡ suc (b - a) = omega arith in
    let y : a + (b - a) ≡ b = omega arith in
    ap (λ (k : ℕ). take k (drop a xs)) z ∙ take-suc (drop a xs) (b - a) d (simp length-drop (omega arith))
    ∙ ap (λ (x : A). part xs a b ++ (x ∷ [])) (get_or-drop a xs (b - a) d ∙ ap (λ (n : ℕ). get_or xs n d) y)

pub part_length : {A : Type 0} (xs : List A) (a b : ℕ) → b ≤ length xs → length (part xs a b) ≡ b - a
unfolding part
part_length xs a b h = simp (length-take, length-drop) (omega arith)

-- a part beyond what was laid
pub part_beyond : {A : Type 0} (xs : List A) (i : ℕ) (ys : List A) (a b : ℕ) → i ≤ length xs → i + length ys ≤ a → part (over xs i ys) a b ≡ part xs a b
unfolding part
part_beyond {A} xs i ys a b h l =
    let e : i + length ys + (a - (i + length ys)) ≡ a = add-sub_of_le l in
    ap (take (b - a)) (ap (λ (k : ℕ). drop k (over xs i ys)) (sym e) ∙ sym (drop-drop (a - (i + length ys)) (i + length ys) (over xs i ys))
    ∙ ap (drop (a - (i + length ys))) (over_drop xs i ys h) ∙ drop-drop (a - (i + length ys)) (i + length ys) xs ∙ ap (λ (k : ℕ). drop k xs) e)

-- ---- a copy, turn by turn
pub paste_beyond : {A : Type 0} (z : A) (d : List A) (at : ℕ) (s : List A) (k i : ℕ) → at + k ≤ length d → k ≤ length s → at + k ≤ i → get_or (paste d at s k) i z ≡ get_or d i z
paste_beyond {A} z d at s k i h l u =
    let e : at + k + (i - (at + k)) ≡ i = add-sub_of_le u in
    let g : at ≤ length d = omega arith in
    ap (λ (n : ℕ). get_or (paste d at s k) n z) (sym e) ∙ sym (get_or-drop (at + k) (paste d at s k) (i - (at + k)) z)
    ∙ ap (λ (r : List A). get_or r (i - (at + k)) z) (drop-paste d at s k g l)
    ∙ get_or-drop (at + k) d (i - (at + k)) z ∙ ap (λ (n : ℕ). get_or d n z) e

pub paste_next : {A : Type 0} (z : A) (d : List A) (at : ℕ) (s : List A) (k : ℕ) → at + k < length d → k < length s → set (paste d at s k) (at + k) (get_or s k z) ≡ paste d at s (k + 1)
paste_next z d at s k h l = paste-suc d at s k z h l ∙ ap (paste d at s) (sym (add-one k))
