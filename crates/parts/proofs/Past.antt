-- Those that pass, and a part that begins with entries that stay. Assumes nothing.
use mathlib.Core.Path.{◌≡◌, refl, sym, ap, ◌∙◌}
use mathlib.Core.Bool.{Bool, true, false, cond}
use mathlib.Core.List.{List, [], ◌∷◌, ◌++◌, append_assoc}
use Prim.Native.Nat.{ℕ, suc, ◌+◌, ◌-◌, ◌<◌, ◌≤◌}
use native.Mathlib.Nat.{add-zero}
use native.Mathlib.Omega.{arith}
use lib.ListN.{length, take, drop, replicate, length-append}
use lib.Seq.{drop-drop, take-add}
use Rattle.shifting.specs.Shifting.{over, part}
use Rattle.shifting.proofs.Laying.{over_over, part_length}
use Rattle.parts.specs.Parts.{those, squeezed}
use Rattle.parts.proofs.Closing.{over_self}

-- ---- those that pass
pub those_join : {A : Type 0} (p : ℕ → Bool) (i : ℕ) (xs ys : List A) → those p i (xs ++ ys) ≡ those p i xs ++ those p (i + length xs) ys
unfolding those
those_join p i [] ys = ap (λ (k : ℕ). those p k ys) (sym (add-zero i))
those_join {A} p i (x ∷ xs) ys = by (p i) (those_join p (suc i) xs ys ∙ ap (λ (k : ℕ). those p (suc i) xs ++ those p k ys) (omega arith))
  where
    by : (b : Bool) → those p (suc i) (xs ++ ys) ≡ those p (suc i) xs ++ those p (i + suc (length xs)) ys
        → cond b (x ∷ those p (suc i) (xs ++ ys)) (those p (suc i) (xs ++ ys)) ≡ cond b (x ∷ those p (suc i) xs) (those p (suc i) xs) ++ those p (i + suc (length xs)) ys
    by true r = ap (λ (l : List A). x ∷ l) r
    by false r = r

pub those_same : {A : Type 0} (p q : ℕ → Bool) (i : ℕ) (xs : List A) → ((k : ℕ) → i ≤ k → k < i + length xs → p k ≡ q k) → those p i xs ≡ those q i xs
unfolding those
those_same p q i [] h = refl
those_same {A} p q i (x ∷ xs) h =
    ap (λ (b : Bool). cond b (x ∷ those p (suc i) xs) (those p (suc i) xs)) (h i (omega arith) (omega arith))
    ∙ ap (λ (l : List A). cond (q i) (x ∷ l) l) (those_same p q (suc i) xs (λ k a b. h k (omega arith) (omega arith)))

pub those_all : {A : Type 0} (p : ℕ → Bool) (i : ℕ) (xs : List A) → ((k : ℕ) → i ≤ k → k < i + length xs → p k ≡ true) → those p i xs ≡ xs
unfolding those
those_all p i [] h = refl
those_all {A} p i (x ∷ xs) h =
    ap (λ (b : Bool). cond b (x ∷ those p (suc i) xs) (those p (suc i) xs)) (h i (omega arith) (omega arith))
    ∙ ap (λ (l : List A). x ∷ l) (those_all p (suc i) xs (λ k a b. h k (omega arith) (omega arith)))

pub those_long : {A B : Type 0} (p : ℕ → Bool) (i : ℕ) (xs : List A) (ys : List B) → length xs ≡ length ys → length (those p i xs) ≡ length (those p i ys)
unfolding those
those_long p i [] [] e = refl
those_long p i [] (y ∷ ys) e = absurd (omega arith)
those_long p i (x ∷ xs) [] e = absurd (omega arith)
those_long {A} {B} p i (x ∷ xs) (y ∷ ys) e = by (p i) (those_long p (suc i) xs ys (omega arith))
  where
    by : (b : Bool) → length (those p (suc i) xs) ≡ length (those p (suc i) ys)
        → length (cond b (x ∷ those p (suc i) xs) (those p (suc i) xs)) ≡ length (cond b (y ∷ those p (suc i) ys) (those p (suc i) ys))
    by true r = ap suc r
    by false r = r

pub part_join : {A : Type 0} (xs : List A) (a b c : ℕ) → a ≤ b → b ≤ c → part xs a c ≡ part xs a b ++ part xs b c
unfolding part
part_join {A} xs a b c h l =
    let z : b - a + (c - b) ≡ c - a = omega arith in
    let y : a + (b - a) ≡ b = omega arith in
    ap (λ (k : ℕ). take k (drop a xs)) (sym z) ∙ take-add (b - a) (c - b) (drop a xs)
    ∙ ap (λ (r : List A). take (b - a) (drop a xs) ++ take (c - b) r) (drop-drop (b - a) a xs ∙ ap (λ (k : ℕ). drop k xs) y)

-- a part that begins with entries that stay: they stay where they are
module _ (p : ℕ → Bool) (xs : List ℕ) (a f to n : ℕ) (h : a ≤ f) (l : f ≤ to) (m : to ≤ n) (o : n ≤ length xs) (s : (k : ℕ) → a ≤ k → k < f → p k ≡ true) where
  abbrev K : List ℕ
  K = those p f (part xs f to)

  front : length (part xs a f) ≡ f - a
  front = part_length xs a f (omega arith)

  those_past : those p a (part xs a to) ≡ part xs a f ++ K
  those_past =
      let z : a + length (part xs a f) ≡ f = omega (arith, front) in
      ap (those p a) (part_join xs a f to h l) ∙ those_join p a (part xs a f) (part xs f to)
      ∙ ap (λ (r : List ℕ). r ++ those p (a + length (part xs a f)) (part xs f to)) (those_all p a (part xs a f) (λ k u v. s k u (omega (arith, front))))
      ∙ ap (λ (k : ℕ). part xs a f ++ those p k (part xs f to)) z

  pub past_long : length (those p a (part xs a to)) ≡ f - a + length K
  past_long = ap length those_past ∙ length-append (part xs a f) K ∙ ap (λ (k : ℕ). k + length K) front

  pub squeezed_past : squeezed p xs a to n ≡ squeezed p xs f to n
  unfolding squeezed
  squeezed_past =
      let z : to - (a + length (those p a (part xs a to))) ≡ to - (f + length K) = omega (arith, past_long) in
      let y : f ≡ a + length (part xs a f) = omega (arith, front) in
      ap (λ (k : ℕ). over xs a (those p a (part xs a to) ++ (part xs to n) ++ replicate k 0)) z
      ∙ ap (λ (r : List ℕ). over xs a (r ++ part xs to n ++ replicate (to - (f + length K)) 0)) those_past
      ∙ ap (over xs a) (ap (λ (r : List ℕ). r ++ replicate (to - (f + length K)) 0) (append_assoc (part xs a f) K (part xs to n)) ∙ append_assoc (part xs a f) (K ++ part xs to n) (replicate (to - (f + length K)) 0))
      ∙ sym (over_over xs a f (part xs a f) (K ++ part xs to n ++ replicate (to - (f + length K)) 0) (omega arith) y)
      ∙ ap (λ (r : List ℕ). over r f (K ++ part xs to n ++ replicate (to - (f + length K)) 0)) (over_self xs a f h (omega arith))
