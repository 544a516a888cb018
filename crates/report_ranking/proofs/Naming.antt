-- The sources that a report names are the front of the sorted list. Assumes nothing.
use mathlib.Core.Path.{◌≡◌, refl, sym, ap, ◌∙◌}
use mathlib.Core.Bool.{Bool, true, false, false≢true}
use mathlib.Core.Logic.{◌⊎◌, inl, inr}
use mathlib.Core.List.{List, [], ◌∷◌}
use Prim.Native.Nat.{ℕ, zero, suc, ◌≤◌, ◌<◌}
use native.Mathlib.Omega.{arith}
use borrow.Author.Tests.{eq-eqb, ne_eqb}
use lib.Dec.{eqb}
use lib.ListN.{length, get_or}
use Rattle.report_ranking.specs.Sources.{precedes, is_after, first_after, named, SOURCES_REPORTED, reported}
use Rattle.report_ranking.specs.Laws.{Front}
use Rattle.report_ranking.proofs.Ordering.{order}
use Rattle.report_ranking.proofs.Earliest.{Best, none, some, best}

-- l is what is named after p, up to k
record From (tags : List ℕ) (rows : List (List ℕ)) (n k p : ℕ) (l : List ℕ) : Type 0 where
  few : length l ≤ k
  held : (j : ℕ) → j < length l → get_or l j 0 < n
  behind : (j : ℕ) → j < length l → is_after tags rows n p (get_or l j 0) ≡ true
  ordered : (j i : ℕ) → j < i → i < length l → precedes tags rows (get_or l j 0) (get_or l i 0) ≡ true
  left_out : (i : ℕ) → i < n → is_after tags rows n p i ≡ true → ((j : ℕ) → j < length l → get_or l j 0 ≡ i → ⊥)
      → (length l ≡ k) × ((j : ℕ) → j < length l → precedes tags rows (get_or l j 0) i ≡ true)

module _ (tags : List ℕ) (rows : List (List ℕ)) (n p : ℕ) where
  -- ---- after p
  after_on : (q i : ℕ) → is_after tags rows n p q ≡ true → precedes tags rows q i ≡ true → is_after tags rows n p i ≡ true
  unfolding is_after
  after_on q i a e = by (eqb p n) refl
    where
      by : (t : Bool) → eqb p n ≡ t → is_after tags rows n p i ≡ true
      by true f = unfold is_after in simp f
      by false f = unfold is_after in simp f ((order tags rows).transitive p q i (unfold is_after in (simp f at a)) e)

module _ (tags : List ℕ) (rows : List (List ℕ)) (n q : ℕ) (h : q < n) where
  after_precedes : (i : ℕ) → is_after tags rows n q i ≡ true → precedes tags rows q i ≡ true
  unfolding is_after
  after_precedes i a = simp (ne_eqb q n (λ e. omega arith)) at a

  precedes_after : (i : ℕ) → precedes tags rows q i ≡ true → is_after tags rows n q i ≡ true
  unfolding is_after
  precedes_after i a = simp (ne_eqb q n (λ e. omega arith)) a

-- the earliest in front of what is named after it
module _ (tags : List ℕ) (rows : List (List ℕ)) (n k p q : ℕ) (l : List ℕ) (h : q < n) (a : is_after tags rows n p q ≡ true)
    (g : (i : ℕ) → i < n → is_after tags rows n p i ≡ true → (i ≡ q) ⊎ (precedes tags rows q i ≡ true)) (w : From tags rows n k q l) where
  cons_held : (j : ℕ) → j < suc (length l) → get_or (q ∷ l) j 0 < n
  cons_held zero e = h
  cons_held (suc j) e = w.held j (omega arith)

  cons_behind : (j : ℕ) → j < suc (length l) → is_after tags rows n p (get_or (q ∷ l) j 0) ≡ true
  cons_behind zero e = a
  cons_behind (suc j) e = after_on tags rows n p q (get_or l j 0) a (after_precedes tags rows n q h (get_or l j 0) (w.behind j (omega arith)))

  cons_ordered : (j i : ℕ) → j < i → i < suc (length l) → precedes tags rows (get_or (q ∷ l) j 0) (get_or (q ∷ l) i 0) ≡ true
  cons_ordered j zero e f = absurd (omega arith)
  cons_ordered zero (suc i) e f = after_precedes tags rows n q h (get_or l i 0) (w.behind i (omega arith))
  cons_ordered (suc j) (suc i) e f = w.ordered j i (omega arith) (omega arith)

  module _ (i : ℕ) (inside : i < n) (f : (j : ℕ) → j < suc (length l) → get_or (q ∷ l) j 0 ≡ i → ⊥) where
    each : precedes tags rows q i ≡ true → ((j : ℕ) → j < length l → precedes tags rows (get_or l j 0) i ≡ true) → (j : ℕ) → j < suc (length l) → precedes tags rows (get_or (q ∷ l) j 0) i ≡ true
    each b r zero e = b
    each b r (suc j) e = r j (omega arith)

    out : (i ≡ q) ⊎ (precedes tags rows q i ≡ true) → (suc (length l) ≡ suc k) × ((j : ℕ) → j < suc (length l) → precedes tags rows (get_or (q ∷ l) j 0) i ≡ true)
    out (inl e) = absurd (f 0 (omega arith) (sym e))
    out (inr b) =
        let r = w.left_out i inside (precedes_after tags rows n q h i b) (λ j e x. f (suc j) (omega arith) x) in
        (ap suc r.0, each b r.1)

  cons : From tags rows n (suc k) p (q ∷ l)
  cons = record {
    few = omega (arith, w.few);
    held = cons_held;
    behind = cons_behind;
    ordered = cons_ordered;
    left_out = λ i inside x f. out i inside f (g i inside x);
  }

named_empty : (tags : List ℕ) (rows : List (List ℕ)) (n k p : ℕ) → first_after tags rows n p n ≡ n → named tags rows n (suc k) p ≡ []
unfolding named
named_empty tags rows n k p e = simp (eq-eqb (first_after tags rows n p n) n e)

named_cons : (tags : List ℕ) (rows : List (List ℕ)) (n k p : ℕ) → (first_after tags rows n p n ≡ n → ⊥)
    → named tags rows n (suc k) p ≡ first_after tags rows n p n ∷ named tags rows n k (first_after tags rows n p n)
unfolding named
named_cons tags rows n k p e = simp (ne_eqb (first_after tags rows n p n) n e)

nothing_named : (tags : List ℕ) (rows : List (List ℕ)) (n k p : ℕ) → ((i : ℕ) → i < n → is_after tags rows n p i ≡ false) → From tags rows n k p []
nothing_named tags rows n k p f = record {
  few = omega arith;
  held = λ j e. absurd (omega arith);
  behind = λ j e. absurd (omega arith);
  ordered = λ j i e x. absurd (omega arith);
  left_out = λ i inside x r. absurd (false≢true (sym (f i inside) ∙ x));
}

none_asked : (tags : List ℕ) (rows : List (List ℕ)) (n p : ℕ) → From tags rows n 0 p []
none_asked tags rows n p = record {
  few = omega arith;
  held = λ j e. absurd (omega arith);
  behind = λ j e. absurd (omega arith);
  ordered = λ j i e x. absurd (omega arith);
  left_out = λ i inside x r. (refl, λ j e. absurd (omega arith));
}

from : (tags : List ℕ) (rows : List (List ℕ)) (n k p : ℕ) → From tags rows n k p (named tags rows n k p)
unfolding named
from tags rows n zero p = none_asked tags rows n p
from tags rows n (suc k) p = by (best tags rows n p) (from tags rows n k (first_after tags rows n p n))
  where
    by : Best tags tags rows n p n (first_after tags rows n p n) → From tags rows n k (first_after tags rows n p n) (named tags rows n k (first_after tags rows n p n)) → From tags rows n (suc k) p (named tags rows n (suc k) p)
    by (none e f) w = rw (named_empty tags rows n k p e) (nothing_named tags rows n (suc k) p f)
    by (some h a g) w = rw (named_cons tags rows n k p (λ e. omega arith)) (cons tags rows n k p (first_after tags rows n p n) (named tags rows n k (first_after tags rows n p n)) h a g w)

all_after : (tags : List ℕ) (rows : List (List ℕ)) (n i : ℕ) → is_after tags rows n n i ≡ true
unfolding is_after
all_after tags rows n i = simp (eq-eqb n n refl)

pub front : (tags : List ℕ) (rows : List (List ℕ)) (n : ℕ) → Front tags rows n 16 (reported tags rows n)
front tags rows n =
    let w = from tags rows n SOURCES_REPORTED n in
    record { few = w.few; held = w.held; ordered = w.ordered; left_out = λ i h f. w.left_out i h (all_after tags rows n i) f }
