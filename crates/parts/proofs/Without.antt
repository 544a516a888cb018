-- Lists without those at which a test holds: one more at the end, one changed, two tests after each other. Assumes nothing.
use mathlib.Core.Path.{◌≡◌, refl, ap}
use mathlib.Core.Bool.{Bool, true, false, cond, not, ◌&&◌}
use mathlib.Core.List.{List, [], ◌∷◌, ◌++◌}
use Prim.Native.Nat.{ℕ, zero, suc, ◌+◌, ◌<◌}
use native.Mathlib.Omega.{arith}
use lib.ListN.{length, get_or, set}
use Rattle.parts.specs.Laws.{without}

module _ {A : Type 0} where
  pub without_append : (q : A → Bool) (xs ys : List A) → without q (xs ++ ys) ≡ without q xs ++ without q ys
  unfolding without
  without_append q [] ys = refl
  without_append q (x ∷ xs) ys = by (q x) (without_append q xs ys)
    where
      by : (b : Bool) → without q (xs ++ ys) ≡ without q xs ++ without q ys → cond b (without q (xs ++ ys)) (x ∷ without q (xs ++ ys)) ≡ cond b (without q xs) (x ∷ without q xs) ++ without q ys
      by true r = r
      by false r = ap (λ (l : List A). x ∷ l) r

  pub without_out : (q : A → Bool) (x : A) → q x ≡ true → without q (x ∷ []) ≡ []
  unfolding without
  without_out q x e = rw e

  pub without_in : (q : A → Bool) (x : A) → q x ≡ false → without q (x ∷ []) ≡ x ∷ []
  unfolding without
  without_in q x e = rw e

  -- what the first test takes out the second would have
  pub without_twice : (q l : A → Bool) → ((x : A) → l x ≡ true → q x ≡ true) → (xs : List A) → without q (without l xs) ≡ without q xs
  unfolding without
  without_twice q l w [] = refl
  without_twice q l w (x ∷ xs) = by (l x) (q x) refl refl (without_twice q l w xs)
    where
      by : (b c : Bool) → l x ≡ b → q x ≡ c → without q (without l xs) ≡ without q xs → without q (cond b (without l xs) (x ∷ without l xs)) ≡ cond c (without q xs) (x ∷ without q xs)
      by true true e f r = r
      by true false e f r = absurd (cc (w x e))
      by false true e f r = rw f r
      by false false e f r = rw f (ap (λ (z : List A). x ∷ z) r)

  module _ (e s : A → Bool) where
    abbrev both : A → Bool
    both x = e x && s x

    abbrev none : A → Bool
    none x = not (e x)

    -- without those of both, those of e alone: of those of e, without those of s
    pub without_both : (xs : List A) → without none (without both xs) ≡ without s (without none xs)
    unfolding without
    without_both [] = refl
    without_both (x ∷ xs) = by (e x) (s x) refl refl (without_both xs)
      where
        by : (b c : Bool) → e x ≡ b → s x ≡ c → without none (without both xs) ≡ without s (without none xs)
            → without none (cond (b && c) (without both xs) (x ∷ without both xs)) ≡ without s (cond (not b) (without none xs) (x ∷ without none xs))
        by true true f g r = rw g r
        by true false f g r = rw (f, g) (ap (λ (z : List A). x ∷ z) r)
        by false true f g r = rw f r
        by false false f g r = rw f r

    pub without_count : (xs : List A) → length (without both xs) + length (without none xs) ≡ length xs + length (without s (without none xs))
    unfolding without
    without_count [] = refl
    without_count (x ∷ xs) = by (e x) (s x) refl (without_count xs)
      where
        by : (b c : Bool) → s x ≡ c → length (without both xs) + length (without none xs) ≡ length xs + length (without s (without none xs))
            → length (cond (b && c) (without both xs) (x ∷ without both xs)) + length (cond (not b) (without none xs) (x ∷ without none xs)) ≡ suc (length xs) + length (without s (cond (not b) (without none xs) (x ∷ without none xs)))
        by true true g r = rw g (omega arith)
        by true false g r = rw g (omega arith)
        by false true g r = omega arith
        by false false g r = omega arith

  -- ---- one is changed
  pub without_same : (d : A) (q : A → Bool) (xs : List A) (j : ℕ) (r : A) → j < length xs → q (get_or xs j d) ≡ true → q r ≡ true → without q (set xs j r) ≡ without q xs
  unfolding without
  without_same d q [] j r l e f = absurd (omega arith)
  without_same d q (x ∷ xs) zero r l e f = rw (e, f) refl
  without_same d q (x ∷ xs) (suc j) r l e f = ap (λ (z : List A). cond (q x) z (x ∷ z)) (without_same d q xs j r (omega arith) e f)

  -- where the one at i stood
  pub record Where (d : A) (q : A → Bool) (xs : List A) (i : ℕ) : Type 0 where
    pub at : ℕ
    pub below : at < length xs
    pub same : get_or xs at d ≡ get_or (without q xs) i d
    pub stays : q (get_or xs at d) ≡ false
    pub changed : (r : A) → q r ≡ false → without q (set xs at r) ≡ set (without q xs) i r

  where_first : (d : A) (q : A → Bool) (x : A) (xs : List A) → q x ≡ false → Where d q (x ∷ xs) zero
  unfolding without
  where_first d q x xs e = record { at = 0; below = omega arith; same = rw e refl; stays = e; changed = λ r f. rw (e, f) refl }

  where_next : (d : A) (q : A → Bool) (x : A) (xs : List A) (i : ℕ) → q x ≡ false → Where d q xs i → Where d q (x ∷ xs) (suc i)
  unfolding without
  where_next d q x xs i e w = let l = w.below in record { at = suc w.at; below = omega arith; same = rw e w.same; stays = w.stays; changed = λ r f. rw e (ap (λ (z : List A). x ∷ z) (w.changed r f)) }

  where_past : (d : A) (q : A → Bool) (x : A) (xs : List A) (i : ℕ) → q x ≡ true → Where d q xs i → Where d q (x ∷ xs) i
  unfolding without
  where_past d q x xs i e w = let l = w.below in record { at = suc w.at; below = omega arith; same = rw e w.same; stays = w.stays; changed = λ r f. rw e (w.changed r f) }

  without_length : (q : A → Bool) (x : A) (xs : List A) → q x ≡ false → length (without q (x ∷ xs)) ≡ suc (length (without q xs))
  unfolding without
  without_length q x xs e = rw e refl

  without_past : (q : A → Bool) (x : A) (xs : List A) → q x ≡ true → length (without q (x ∷ xs)) ≡ length (without q xs)
  unfolding without
  without_past q x xs e = rw e refl

  none_long : (q : A → Bool) → length (without q []) ≡ 0
  unfolding without
  none_long q = refl

  pub stood_where : (d : A) (q : A → Bool) (xs : List A) (i : ℕ) → i < length (without q xs) → Where d q xs i
  stood_where d q [] i l = absurd (omega (arith, none_long q))
  stood_where d q (x ∷ xs) i l = go (λ k h. stood_where d q xs k h) i (q x) refl l
    where
      go : ((k : ℕ) → k < length (without q xs) → Where d q xs k) → (i : ℕ) (b : Bool) → q x ≡ b → i < length (without q (x ∷ xs)) → Where d q (x ∷ xs) i
      go r zero false e h = where_first d q x xs e
      go r (suc i) false e h = where_next d q x xs i e (r i (omega (arith, without_length q x xs e)))
      go r i true e h = where_past d q x xs i e (r i (omega (arith, without_past q x xs e)))
