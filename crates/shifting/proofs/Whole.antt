-- Offsets changed from one on, turn by turn; and that they begin at 0, never fall and end at n. Assumes nothing.
use mathlib.Core.Path.{◌≡◌, refl, sym, ap, subst, ◌∙◌}
use mathlib.Core.Bool.{Bool, true, false, ◌&&◌, true≢false}
use mathlib.Core.List.{List, [], ◌∷◌, ◌++◌, map}
use Prim.Native.Nat.{ℕ, zero, suc, ◌+◌, ◌-◌, ◌<◌, ◌≤◌}
use native.Mathlib.Decide.{dec_le}
use native.Mathlib.Numerals.{add-one}
use native.Mathlib.Nat.{add-sub_of_le, add-zero}
use native.Mathlib.Omega.{arith}
use lib.Dec.{leb, eqb}
use lib.ListN.{length, get_or, set, take, drop, length-drop, length-map}
use lib.Seq.{paste, paste-zero, length-paste, take_all, get_or-drop}
use borrow.Author.Tests.{le-leb, eq-eqb, eqb-true, leb-true}
use Rattle.shifting.specs.Shifting.{over}
use Rattle.shifting.specs.Offsets.{from_on, Whole, rising, is_whole}
use Rattle.shifting.proofs.Laying.{paste_beyond, paste_next, length_over}

-- ---- each from i on by f; the offsets when the place k is next
unfoldable pub mapping : (ℕ → ℕ) → List ℕ → ℕ → ℕ → List ℕ
mapping f os i k = paste os i (map f (drop i os)) (k - i)

pub map_at : (f : ℕ → ℕ) (l : List ℕ) (j : ℕ) → j < length l → get_or (map f l) j 0 ≡ f (get_or l j 0)
map_at f [] j h = absurd (omega arith)
map_at f (x ∷ l) zero h = refl
map_at f (x ∷ l) (suc j) h = map_at f l j (omega arith)

pub map_none : (f : ℕ → ℕ) (os : List ℕ) (i : ℕ) → os ≡ mapping f os i i
unfolding mapping
map_none f os i = let z : 0 ≡ i - i = omega arith in paste-zero os i (map f (drop i os)) ∙ ap (paste os i (map f (drop i os))) z

long : (f : ℕ → ℕ) (os : List ℕ) (i : ℕ) → length (map f (drop i os)) ≡ length os - i
long f os i = length-map (drop i os) f ∙ length-drop i os

pub length_mapping : (f : ℕ → ℕ) (os : List ℕ) (i k : ℕ) → i ≤ k → k ≤ length os → length (mapping f os i k) ≡ length os
unfolding mapping
length_mapping f os i k h l = length-paste os i (map f (drop i os)) (k - i) (omega arith) (omega (arith, long f os i))

pub map_still : (f : ℕ → ℕ) (os : List ℕ) (i k : ℕ) → i ≤ k → k < length os → get_or (mapping f os i k) k 0 ≡ get_or os k 0
unfolding mapping
map_still f os i k h l = paste_beyond 0 os i (map f (drop i os)) (k - i) k (omega arith) (omega (arith, long f os i)) (omega arith)

pub map_turn : (f : ℕ → ℕ) (os : List ℕ) (i k v : ℕ) → i ≤ k → k < length os → v ≡ f (get_or os k 0) → set (mapping f os i k) k v ≡ mapping f os i (k + 1)
unfolding mapping
map_turn f os i k v h l e =
    let z : i + (k - i) ≡ k = omega arith in
    let y : k - i + 1 ≡ k + 1 - i = omega arith in
    let w : v ≡ get_or (map f (drop i os)) (k - i) 0 = e ∙ sym (map_at f (drop i os) (k - i) (omega (arith, length-drop i os)) ∙ ap f (get_or-drop i os (k - i) 0 ∙ ap (λ (n : ℕ). get_or os n 0) z)) in
    ap (λ (n : ℕ). set (paste os i (map f (drop i os)) (k - i)) n v) (sym z) ∙ ap (set (paste os i (map f (drop i os)) (k - i)) (i + (k - i))) w
    ∙ paste_next 0 os i (map f (drop i os)) (k - i) (omega arith) (omega (arith, long f os i)) ∙ ap (paste os i (map f (drop i os))) y

pub map_done : (f : ℕ → ℕ) (os : List ℕ) (i k : ℕ) → i ≤ length os → k ≡ length os → mapping f os i k ≡ from_on f os i
unfolding mapping from_on over
map_done f os i k h e =
    let z : k - i ≡ length (map f (drop i os)) = omega (arith, long f os i) in
    ap (paste os i (map f (drop i os))) z ∙ ap (λ (r : List ℕ). take i os ++ r ++ drop (i + length (map f (drop i os))) os) (take_all (length (map f (drop i os))) (map f (drop i os)) (omega arith))

pub length_from_on : (f : ℕ → ℕ) (os : List ℕ) (i : ℕ) → i ≤ length os → length (from_on f os i) ≡ length os
unfolding from_on
length_from_on f os i h = length_over os i (map f (drop i os)) (omega (arith, long f os i))

-- ---- they never fall
module _ (os : List ℕ) (n : ℕ) (w : Whole os n) where
  climb : (i d : ℕ) → i + d ≤ 64 → get_or os i 0 ≤ get_or os (i + d) 0
  climb i zero h = rw add-zero (omega arith)
  climb i (suc d) h =
      let e : get_or os (i + d + 1) 0 ≡ get_or os (i + suc d) 0 = ap (λ (k : ℕ). get_or os k 0) (omega arith) in
      omega (arith, climb i d (omega arith), w.rises (i + d) (omega arith))

  pub whole_mono : (i j : ℕ) → i ≤ j → j ≤ 64 → get_or os i 0 ≤ get_or os j 0
  whole_mono i j h l = let e : i + (j - i) ≡ j = add-sub_of_le h in subst (λ (k : ℕ). get_or os i 0 ≤ get_or os k 0) e (climb i (j - i) (omega arith))

  pub whole_below : (k : ℕ) → k ≤ 64 → get_or os k 0 ≤ n
  whole_below k h = omega (arith, whole_mono k 64 h (omega arith), w.ends)

-- ---- the test, turn by turn
pub rising_none : (os : List ℕ) → true ≡ rising os 0
unfolding rising
rising_none os = refl

pub rising_next : (os : List ℕ) (k : ℕ) → rising os (k + 1) ≡ rising os k && leb (get_or os k 0) (get_or os (k + 1) 0)
unfolding rising
rising_next os k = ap (rising os) (add-one k)

-- ---- it says yes exactly of whole offsets
both : (a b : Bool) → a && b ≡ true → (a ≡ true) × (b ≡ true)
both true true e = (refl, refl)
both true false e = absurd (true≢false (sym e))
both false b e = absurd (true≢false (sym e))

rising_all : (os : List ℕ) (m : ℕ) → ((k : ℕ) → k < m → get_or os k 0 ≤ get_or os (k + 1) 0) → rising os m ≡ true
unfolding rising
rising_all os zero h = refl
rising_all os (suc m) h = rw (rising_all os m (λ k l. h k (omega arith)), le-leb (get_or os m 0) (get_or os (m + 1) 0) (h m (omega arith)))

rising_true : (os : List ℕ) (m : ℕ) → rising os m ≡ true → (k : ℕ) → k < m → get_or os k 0 ≤ get_or os (k + 1) 0
unfolding rising
rising_true os zero e k h = absurd (omega arith)
rising_true os (suc m) e k h =
    let b = both (rising os m) (leb (get_or os m 0) (get_or os (m + 1) 0)) e in
    elim (dec_le m k) [
      | yes x ↦ (let i : k ≡ m = omega arith in subst (λ (j : ℕ). get_or os j 0 ≤ get_or os (j + 1) 0) (sym i) (leb-true (get_or os m 0) (get_or os (m + 1) 0) b.1))
      | no x ↦ rising_true os m b.0 k (omega arith)
    ]

pub whole_true : (os : List ℕ) (n : ℕ) → is_whole os n ≡ true → Whole os n
unfolding is_whole
whole_true os n e =
    let a = both _ (rising os 64) e in
    let b = both (eqb (get_or os 0 0) 0) (eqb (get_or os 64 0) n) a.0 in
    record { begins = eqb-true (get_or os 0 0) 0 b.0; rises = rising_true os 64 a.1; ends = eqb-true (get_or os 64 0) n b.1 }

pub true_whole : (os : List ℕ) (n : ℕ) → Whole os n → is_whole os n ≡ true
unfolding is_whole
true_whole os n w = rw (eq-eqb (get_or os 0 0) 0 w.begins, eq-eqb (get_or os 64 0) n w.ends) (rising_all os 64 w.rises)
