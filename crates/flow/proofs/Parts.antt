-- A loop over the dimensions, one part a turn; an array made place by place. Assumes nothing.
use Rattle.std.proofs.Common.{◌≡◌, ℕ, zero, suc, ◌+◌, ◌<◌, ◌≤◌, Bool, true, List, length, get_or, set, sym, refl, ap, subst, ◌∙◌, add-one, arith, length-set, get_or-set_other, get_or-set_same}
use native.Mathlib.Decide.{ℕ_discrete}
use lib.Ieee.{Float, nan}
use Rattle.std.specs.Array.{IsFromFnResultFrom, IsFromFnResult, index_steps}
use Rattle.std.specs.Iterator.{CallableAtEachTurn}
use Rattle.std.specs.List.{AllWithin, HoldsAt, range_with_len}
use Rattle.std.specs.Bool.{MatchBool}
use Rattle.std.proofs.lemmas.List.FromFn.{get_or-range_with_len, length-range_with_len}
use mathlib.Core.Bool.{true≢false, false}
use Rattle.std.proofs.lemmas.List.{same_lists}
use Rattle.std.proofs.lemmas.Fn.{serves_by}
use denote.Param.Members.{Shared, MutLaws, FnLaws, Called}
use Rattle.ieee.specs.Doubles.{nothing}
use Rattle.std.proofs.lemmas.Bool.{and_parts}
use Rattle.flow.specs.declared.Bucket.{Bucket}
use Rattle.ieee.specs.Extremes.{most}
use Rattle.flow.specs.Flow.{dims, at, each, bucket_at, upto, largest, all}

-- ---- a turn of a loop
pub upto_none : {A : Type 0} (f : ℕ → A) (xs : List A) → upto f 0 xs ≡ xs
unfolding upto
upto_none f xs = refl

pub upto_next : {A : Type 0} (f : ℕ → A) (n : ℕ) (xs : List A) → upto f (n + 1) xs ≡ set (upto f n xs) n (f n)
unfolding upto
upto_next f n xs = rw add-one

pub largest_none : (f : ℕ → Float) → largest f 0 ≡ nothing
unfolding largest
largest_none f = refl

pub largest_next : (f : ℕ → Float) (n : ℕ) → largest f (n + 1) ≡ most (largest f n) (f n)
unfolding largest
largest_next f n = rw add-one

-- ---- what stands at a dimension
pub upto_length : {A : Type 0} (f : ℕ → A) (n : ℕ) (xs : List A) → length (upto f n xs) ≡ length xs
unfolding upto
upto_length f zero xs = refl
upto_length f (suc n) xs = length-set (upto f n xs) n (f n) ∙ upto_length f n xs

pub upto_at : {A : Type 0} (x : A) (f : ℕ → A) (n : ℕ) (xs : List A) (d : ℕ) → d < n → n ≤ length xs → get_or (upto f n xs) d x ≡ f d
unfolding upto
upto_at x f zero xs d h k = absurd (omega arith)
upto_at {A} x f (suc n) xs d h k = go (λ l. upto_at x f n xs d l (omega arith)) (ℕ_discrete d n)
  where
    go : (d < n → get_or (upto f n xs) d x ≡ f d) → Dec (d ≡ n) → get_or (set (upto f n xs) n (f n)) d x ≡ f d
    go r (yes e) = ap (λ (i : ℕ). get_or (set (upto f n xs) n (f n)) i x) e ∙ get_or-set_same (upto f n xs) n (f n) x (omega (arith, upto_length f n xs)) ∙ ap f (sym e)
    go r (no e) = get_or-set_other (upto f n xs) n d (f n) x e ∙ r (omega arith)

-- of a list with a part for each dimension
pub each_at : (f : ℕ → Float) (xs : List Float) (d : ℕ) → d < dims → length xs ≡ dims → at (each f xs) d ≡ f d
each_at f xs d h e = upto_at nan f dims xs d h (omega arith)

pub buckets_at : (f : ℕ → Bucket) (bs : List Bucket) (d : ℕ) → d < dims → length bs ≡ dims → bucket_at (upto f dims bs) d ≡ f d
buckets_at f bs d h e = upto_at (record { tokens = nan; burst = nan; rate_per_ms = nan }) f dims bs d h (omega arith)

pub all-at : (p : ℕ → Bool) (n d : ℕ) → d < n → all p n ≡ true → p d ≡ true
unfolding all
all-at p zero d h e = absurd (omega arith)
all-at p (suc n) d h e = go (λ l. all-at p n d l (and_parts (all p n) (p n) e).0) (ℕ_discrete d n)
  where
    go : (d < n → p d ≡ true) → Dec (d ≡ n) → p d ≡ true
    go r (yes q) = ap p q ∙ (and_parts (all p n) (p n) e).1
    go r (no q) = r (omega arith)

pub all_of : (p : ℕ → Bool) (n : ℕ) → ((d : ℕ) → d < n → p d ≡ true) → all p n ≡ true
unfolding all
all_of p zero f = refl
all_of p (suc n) f = rw (all_of p n (λ d h. f d (omega arith)), f n (omega arith))

pub all_same : (p q : ℕ → Bool) (n : ℕ) → ((d : ℕ) → d < n → p d ≡ q d) → all p n ≡ all q n
unfolding all
all_same p q zero f = refl
all_same p q (suc n) f = rw (all_same p q n (λ d h. f d (omega arith)), f n (omega arith))

-- ---- an array that calls of f made, where a call leaves f as it is
module _ {F A : Type 0} (g : Shared F (ℕ × Unit {0}) A) (laws : MutLaws g) (stays : FnLaws g) where
  pub called_at : (ys : List A) (n i : ℕ) (f : F) → IsFromFnResultFrom g f ys i n → (d : ℕ) (x : A) → i ≤ d → d < i + n → g.post f (d, tt) (get_or ys d x)
  called_at ys zero i f r d x l h = absurd (omega arith)
  called_at ys (suc n) i f r d x l h = go (λ k. called_at ys n (i + 1) r.0 r.4 d x k (omega arith)) (ℕ_discrete d i)
    where
      go : (i + 1 ≤ d → g.post r.0 (d, tt) (get_or ys d x)) → Dec (d ≡ i) → g.post f (d, tt) (get_or ys d x)
      go later (yes e) = subst (λ (k : ℕ). g.post f (k, tt) (get_or ys k x)) (sym e) (subst (λ (y : A). g.post f (i, tt) y) (sym (r.2.1 x)) ((laws.post_iff f (i, tt) r.1).1 (r.0, r.3)))
      go later (no e) = subst (λ (q : F). g.post q (d, tt) (get_or ys d x)) (stays.step_stays f (i, tt) r.1 r.0 r.3) (later (omega arith))

  pub made_upto : (n : ℕ) (f : F) (ys xs : List A) (h : ℕ → A) → IsFromFnResult g f ys n → ((d : ℕ) (x : A) → d < n → g.post f (d, tt) x → x ≡ h d) → length xs ≡ n → ys ≡ upto h n xs
  made_upto n f ys xs h r is long =
      same_lists ys (upto h n xs) (r.long ∙ sym (upto_length h n xs ∙ long))
      (λ d x l. is d (get_or ys d x) (omega (arith, r.long)) (called_at ys n 0 f r.each d x (omega arith) (omega (arith, r.long))) ∙ sym (upto_at x h n xs d (omega (arith, r.long)) (omega (arith, long))))

  pub callable_upto : (n : ℕ) (f : F) → ((d : ℕ) → d < n → g.pre f (d, tt)) → CallableAtEachTurn (index_steps n) (λ p x q. (y : A) × Called g p (x, tt) y q) (λ p x. g.pre p (x, tt)) 0 f
  callable_upto n f may =
      serves_by (λ p x q. (y : A) × Called g p (x, tt) y q) (λ xs q. q ≡ f) (λ xs q x v e c. stays.step_stays q (x, tt) c.0 v c.1 ∙ e) (index_steps n) (λ p x. g.pre p (x, tt)) 0 f refl
      (λ xs t q x u ys st e. subst (λ (p : F). g.pre p (x, tt)) (sym e) (may x (omega (arith, st))))

pub all_fails : (p : ℕ → Bool) (n d : ℕ) → d < n → p d ≡ false → all p n ≡ false
all_fails p n d h e = go (all p n) refl
  where
    go : (b : Bool) → all p n ≡ b → all p n ≡ false
    go true a = absurd (true≢false (sym (all-at p n d h a) ∙ e))
    go false a = a

-- the dimensions in order
pub place : (d : ℕ) → d < dims → get_or (range_with_len 0 dims) d 0 ≡ d
place d l = get_or-range_with_len 0 dims d 0 l ∙ omega arith

-- what `all` over the dimensions answers, where f answers by p
module _ {F : Type 0} (g : Shared F (ℕ × Unit {0}) Bool) where
  pub passes_all : (f : F) (p : ℕ → Bool) → ((d : ℕ) (x : Bool) → d < dims → g.post f (d, tt) x → x ≡ p d)
      → (r : Bool) → MatchBool r (AllWithin (λ d. g.post f (d, tt) true) (range_with_len 0 dims) 0 (length (range_with_len 0 dims))) ((k : ℕ) × (k < length (range_with_len 0 dims)) × HoldsAt (λ d. g.post f (d, tt) false) (range_with_len 0 dims) k)
      → r ≡ all p dims
  passes_all f p is true h = sym (all_of p dims (λ d l. sym (is d true l (subst (λ (k : ℕ). g.post f (k, tt) true) (place d l) (h d 0 (omega arith) (omega (arith, length-range_with_len 0 dims)))))))
  passes_all f p is false h =
      let l : h.0 < dims = omega (arith, h.1, length-range_with_len 0 dims) in
      sym (all_fails p dims h.0 l (sym (is h.0 false l (subst (λ (k : ℕ). g.post f (k, tt) false) (place h.0 l) (h.2 0)))))
