-- What stands at a place of a list that was squeezed; where those that pass stood. Assumes nothing.
use mathlib.Core.Path.{◌≡◌, refl, sym, ap, subst, ◌∙◌}
use mathlib.Core.Bool.{Bool, true, false, cond}
use mathlib.Core.List.{List, [], ◌∷◌, ◌++◌, append_assoc}
use Prim.Native.Nat.{ℕ, zero, suc, ◌+◌, ◌-◌, ◌<◌, ◌≤◌}
use native.Mathlib.Omega.{arith}
use lib.ListN.{length, get_or, take, drop, replicate, length-append, length-replicate, get_or-append, get_or-replicate}
use lib.Seq.{take_at, length-take-le}
use Rattle.shifting.specs.Shifting.{over, part}
use Rattle.shifting.proofs.Laying.{over_beyond, part_length}
use Rattle.shifting.proofs.Places.{later, over_before, over_within, part_at}
use Rattle.parts.specs.Parts.{those, no_entry, squeezed}

module _ (p : ℕ → Bool) (xs : List ℕ) (from to n : ℕ) (h : from ≤ to) (l : to ≤ n) (m : n ≤ length xs) where
  abbrev K : List ℕ
  K = those p from (part xs from to)

  abbrev Z : List ℕ
  Z = replicate (to - (from + length K)) no_entry

  whole_long : length (K ++ part xs to n) ≡ length K + (n - to)
  whole_long = length-append K (part xs to n) ∙ ap (λ (k : ℕ). length K + k) (part_length xs to n m)

  all_long : length ((K ++ part xs to n) ++ Z) ≡ length K + (n - to) + (to - (from + length K))
  all_long = omega (arith, length-append (K ++ part xs to n) Z, whole_long, length-replicate {A = ℕ} (to - (from + length K)) no_entry)

  pub squeezed_front : (k : ℕ) → k ≡ from + length K + (n - to) → take k (squeezed p xs from to n) ≡ take from xs ++ (K ++ part xs to n)
  unfolding squeezed over
  squeezed_front k e =
      ap (λ (r : List ℕ). take k (r ++ drop (from + length ((K ++ part xs to n) ++ Z)) xs)) (sym (append_assoc (take from xs) (K ++ part xs to n) Z))
      ∙ ap (take k) (append_assoc (take from xs ++ (K ++ part xs to n)) Z (drop (from + length ((K ++ part xs to n) ++ Z)) xs))
      ∙ take_at (take from xs ++ (K ++ part xs to n)) (Z ++ drop (from + length ((K ++ part xs to n) ++ Z)) xs) k (simp (length-append, length-take-le from xs (omega arith)) (omega (arith, whole_long, length-append K (part xs to n))))

  pub squeezed_before : (k : ℕ) → k < from → get_or (squeezed p xs from to n) k 0 ≡ get_or xs k 0
  unfolding squeezed
  squeezed_before k u = over_before 0 xs from ((K ++ part xs to n) ++ Z) k (omega arith) u

  pub squeezed_within : (k : ℕ) → k < length K → get_or (squeezed p xs from to n) (from + k) 0 ≡ get_or K k 0
  unfolding squeezed
  squeezed_within k u =
      let z : from + k - from ≡ k = omega arith in
      over_within 0 xs from ((K ++ part xs to n) ++ Z) (from + k) (omega arith) (omega arith) (omega (arith, all_long))
      ∙ ap (λ (i : ℕ). get_or ((K ++ part xs to n) ++ Z) i 0) z
      ∙ get_or-append (K ++ part xs to n) Z 0 k (omega (arith, whole_long)) ∙ get_or-append K (part xs to n) 0 k u

  pub squeezed_behind : (k : ℕ) → k < n - to → get_or (squeezed p xs from to n) (from + length K + k) 0 ≡ get_or xs (to + k) 0
  unfolding squeezed
  squeezed_behind k u =
      let z : from + length K + k - from ≡ length K + k = omega arith in
      let y : length K + k - length K ≡ k = omega arith in
      over_within 0 xs from ((K ++ part xs to n) ++ Z) (from + length K + k) (omega arith) (omega arith) (omega (arith, all_long))
      ∙ ap (λ (i : ℕ). get_or ((K ++ part xs to n) ++ Z) i 0) z
      ∙ get_or-append (K ++ part xs to n) Z 0 (length K + k) (omega (arith, whole_long))
      ∙ later 0 K (part xs to n) (length K) (length K + k) refl (omega arith) ∙ ap (λ (i : ℕ). get_or (part xs to n) i 0) y ∙ part_at 0 xs to n k u

  -- the places that are then free
  pub squeezed_freed : from + length K ≤ to → (k : ℕ) → from + length K + (n - to) ≤ k → k < n → get_or (squeezed p xs from to n) k 0 ≡ no_entry
  unfolding squeezed
  squeezed_freed c k u v =
      over_within 0 xs from ((K ++ part xs to n) ++ Z) k (omega arith) (omega arith) (omega (arith, all_long))
      ∙ later 0 (K ++ part xs to n) Z (length K + (n - to)) (k - from) whole_long (omega arith)
      ∙ get_or-replicate {A = ℕ} (to - (from + length K)) (k - from - (length K + (n - to))) no_entry 0 (omega arith)

  -- and behind n all is as it was
  pub squeezed_beyond : from + length K ≤ to → (k d : ℕ) → n ≤ k → get_or (squeezed p xs from to n) k d ≡ get_or xs k d
  unfolding squeezed
  squeezed_beyond c k d u = over_beyond d xs from ((K ++ part xs to n) ++ Z) k (omega arith) (omega (arith, all_long))

-- ---- those that pass: where the k-th of m places from i on stood
unfoldable pub nth : (ℕ → Bool) → ℕ → ℕ → ℕ → ℕ
nth p i zero k = i
nth p i (suc m) zero = cond (p i) i (nth p (suc i) m zero)
nth p i (suc m) (suc k) = cond (p i) (nth p (suc i) m k) (nth p (suc i) m (suc k))

pub record Stood {A : Type 0} (d : A) (p : ℕ → Bool) (i : ℕ) (xs : List A) (k j : ℕ) : Type 0 where
  pub low : i ≤ j
  pub high : j < i + length xs
  pub passes : p j ≡ true
  pub same : get_or (those p i xs) k d ≡ get_or xs (j - i) d

module _ {A : Type 0} (d : A) (p : ℕ → Bool) where
  those_yes : (i : ℕ) (x : A) (xs : List A) → p i ≡ true → those p i (x ∷ xs) ≡ x ∷ those p (suc i) xs
  unfolding those
  those_yes i x xs e = rw e

  those_no : (i : ℕ) (x : A) (xs : List A) → p i ≡ false → those p i (x ∷ xs) ≡ those p (suc i) xs
  unfolding those
  those_no i x xs e = rw e

  stood_first : (i : ℕ) (x : A) (xs : List A) → p i ≡ true → Stood d p i (x ∷ xs) zero i
  stood_first i x xs e =
      let z : i - i ≡ 0 = omega arith in
      record { low = omega arith; high = omega arith; passes = e; same = ap (λ (l : List A). get_or l 0 d) (those_yes i x xs e) ∙ sym (ap (λ (n : ℕ). get_or (x ∷ xs) n d) z) }

  stood_next : (i : ℕ) (x : A) (xs : List A) (k k' j : ℕ) → get_or (those p i (x ∷ xs)) k' d ≡ get_or (those p (suc i) xs) k d → Stood d p (suc i) xs k j → Stood d p i (x ∷ xs) k' j
  stood_next i x xs k k' j e s =
      let lo = s.low in
      let hi = s.high in
      let z : j - i ≡ suc (j - suc i) = omega arith in
      record { low = omega arith; high = omega arith; passes = s.passes; same = e ∙ s.same ∙ sym (ap (λ (n : ℕ). get_or (x ∷ xs) n d) z) }

nth_first : (p : ℕ → Bool) (i m : ℕ) → p i ≡ true → nth p i (suc m) zero ≡ i
unfolding nth
nth_first p i m e = rw e

nth_more : (p : ℕ → Bool) (i m k : ℕ) → p i ≡ true → nth p i (suc m) (suc k) ≡ nth p (suc i) m k
unfolding nth
nth_more p i m k e = rw e

nth_past : (p : ℕ → Bool) (i m k : ℕ) → p i ≡ false → nth p i (suc m) k ≡ nth p (suc i) m k
unfolding nth
nth_past p i m zero e = rw e
nth_past p i m (suc k) e = rw e

none_of : {A : Type 0} (p : ℕ → Bool) (i : ℕ) → those {A = A} p i [] ≡ []
unfolding those
none_of p i = refl

pub stood : {A : Type 0} (d : A) (p : ℕ → Bool) (i : ℕ) (xs : List A) (k : ℕ) → k < length (those p i xs) → Stood d p i xs k (nth p i (length xs) k)
stood {A} d p i [] k h = absurd (omega (arith, ap length (none_of {A = A} p i)))
stood {A} d p i (x ∷ xs) k h = go (λ k' l. stood d p (suc i) xs k' l) k (p i) refl h
  where
    go : ((k' : ℕ) → k' < length (those p (suc i) xs) → Stood d p (suc i) xs k' (nth p (suc i) (length xs) k')) → (k : ℕ) (b : Bool) → p i ≡ b → k < length (those p i (x ∷ xs)) → Stood d p i (x ∷ xs) k (nth p i (suc (length xs)) k)
    go r zero true e l = subst (Stood d p i (x ∷ xs) zero) (sym (nth_first p i (length xs) e)) (stood_first d p i x xs e)
    go r (suc k) true e l =
        subst (Stood d p i (x ∷ xs) (suc k)) (sym (nth_more p i (length xs) k e))
        (stood_next d p i x xs k (suc k) (nth p (suc i) (length xs) k) (ap (λ (r : List A). get_or r (suc k) d) (those_yes d p i x xs e)) (r k (omega (arith, ap length (those_yes d p i x xs e)))))
    go r k false e l =
        subst (Stood d p i (x ∷ xs) k) (sym (nth_past p i (length xs) k e))
        (stood_next d p i x xs k k (nth p (suc i) (length xs) k) (ap (λ (r : List A). get_or r k d) (those_no d p i x xs e)) (r k (omega (arith, ap length (those_no d p i x xs e)))))

-- a later one stood later
pub nth_rises : {A : Type 0} (d : A) (p : ℕ → Bool) (i : ℕ) (xs : List A) (k : ℕ) → suc k < length (those p i xs) → nth p i (length xs) k < nth p i (length xs) (suc k)
nth_rises {A} d p i [] k h = absurd (omega (arith, ap length (none_of {A = A} p i)))
nth_rises {A} d p i (x ∷ xs) k h = go (λ k' l. nth_rises d p (suc i) xs k' l) k (p i) refl h
  where
    go : ((k' : ℕ) → suc k' < length (those p (suc i) xs) → nth p (suc i) (length xs) k' < nth p (suc i) (length xs) (suc k')) → (k : ℕ) (b : Bool) → p i ≡ b → suc k < length (those p i (x ∷ xs))
        → nth p i (suc (length xs)) k < nth p i (suc (length xs)) (suc k)
    go r zero true e l =
        let st = stood d p (suc i) xs 0 (omega (arith, ap length (those_yes d p i x xs e))) in
        let lo = st.low in
        omega (arith, nth_first p i (length xs) e, nth_more p i (length xs) 0 e)
    go r (suc k) true e l = omega (arith, nth_more p i (length xs) k e, nth_more p i (length xs) (suc k) e, r k (omega (arith, ap length (those_yes d p i x xs e))))
    go r k false e l = omega (arith, nth_past p i (length xs) k e, nth_past p i (length xs) (suc k) e, r k (omega (arith, ap length (those_no d p i x xs e))))
