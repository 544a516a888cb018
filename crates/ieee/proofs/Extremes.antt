-- Minimum, maximum and clamp: of a not-a-number, of equal values, of amounts (in units). Assumes nothing.
use mathlib.Core.Path.{◌≡◌, refl, sym, ap, ◌∙◌}
use Prim.Native.Nat.{ℕ, ◌+◌, ◌*◌, min, max}
use native.Mathlib.Omega.{arith}
use mathlib.Core.Bool.{Bool, true, false, ◌||◌, cond, true≢false}
use lib.Dec.{eqb}
use lib.Ieee.{Float, nan, inf, fin, up, down, below, level, eq, ne, lt, is_nan}
use borrow.Author.Tests.{eqb-true, eq-eqb, le-ltb}
use Rattle.ieee.specs.Units.{Amount, Is}
use Rattle.ieee.specs.Extremes.{least, most, clamped}
use Rattle.std.proofs.lemmas.Bool.{and_parts}
use Rattle.ieee.proofs.Order.{recount, lt_test, min_is, max_is}

-- ---- a not-a-number: it alone is unequal to itself, and it is neither below nor above any value
unequal_itself : (x : Float) → ne x x ≡ is_nan x
unfolding ne eq is_nan
unequal_itself nan = refl
unequal_itself (inf true) = refl
unequal_itself (inf false) = refl
unequal_itself (fin true m e) = rw (eq-eqb (m * up e * down e) (m * up e * down e) refl)
unequal_itself (fin false m e) = rw (eq-eqb (m * up e * down e) (m * up e * down e) refl)

-- as the code tests
either_test : (p q : Bool) (x y : Float) → cond p y (cond q y x) ≡ cond (p || q) y x
either_test true q x y = refl
either_test false q x y = refl

pub least_by_tests : (x y : Float) → least x y ≡ cond (is_nan x || lt y x) y x
least_by_tests x y = rw (unequal_itself x) (either_test (is_nan x) (lt y x) x y)

pub most_by_tests : (x y : Float) → most x y ≡ cond (is_nan x || lt x y) y x
most_by_tests x y = rw (unequal_itself x) (either_test (is_nan x) (lt x y) x y)

below_nan : (x : Float) → lt x nan ≡ false
unfolding lt
below_nan nan = refl
below_nan (inf s) = refl
below_nan (fin s m e) = refl

above_nan : (x : Float) → lt nan x ≡ false
unfolding lt
above_nan x = refl

-- with one, `min` and `max` give the other
pub least_of_nan : (x : Float) → (least nan x ≡ x) × (least x nan ≡ x)
unfolding is_nan
least_of_nan nan = rw (unequal_itself nan) (refl, refl)
least_of_nan (inf s) = rw (unequal_itself nan, unequal_itself (inf s), above_nan (inf s)) (refl, refl)
least_of_nan (fin s m e) = rw (unequal_itself nan, unequal_itself (fin s m e), above_nan (fin s m e)) (refl, refl)

pub most_of_nan : (x : Float) → (most nan x ≡ x) × (most x nan ≡ x)
unfolding is_nan
most_of_nan nan = rw (unequal_itself nan) (refl, refl)
most_of_nan (inf s) = rw (unequal_itself nan, unequal_itself (inf s), below_nan (inf s)) (refl, refl)
most_of_nan (fin s m e) = rw (unequal_itself nan, unequal_itself (fin s m e), below_nan (fin s m e)) (refl, refl)

-- so they give one only of two
some : {x : Float} → is_nan x ≡ true → x ≡ nan
unfolding is_nan
some {x = nan} e = refl
some {x = inf s} e = absurd (true≢false (sym e))
some {x = fin s m d} e = absurd (true≢false (sym e))

told : {x : Float} → x ≡ nan → is_nan x ≡ true
unfolding is_nan
told e = ap is_nan e

-- a pick between y, where it compares, and x is none where x is none
kept : (b : Bool) (x y : Float) → is_nan x ≡ false → (is_nan y ≡ true → b ≡ false) → is_nan (cond b y x) ≡ false
kept false x y e f = e
kept true x y e f = go (is_nan y) f
  where
    go : (n : Bool) → (n ≡ true → true ≡ false) → n ≡ false
    go false h = refl
    go true h = h refl

clear : (p : Bool) (x y : Float) (b : Bool) → is_nan x ≡ p → is_nan (cond p y (cond b y x)) ≡ true → (is_nan y ≡ true → b ≡ false) → (is_nan x ≡ true) × (is_nan y ≡ true)
clear true x y b e h f = (e, h)
clear false x y b e h f = absurd (true≢false (sym h ∙ kept b x y e f))

pub least_nan : (x y : Float) → least x y ≡ nan → (x ≡ nan) × (y ≡ nan)
least_nan x y h =
    let c = clear (is_nan x) x y (lt y x) refl (rw (unequal_itself x) at (told h)) (λ n. ap (λ (z : Float). lt z x) (some n) ∙ above_nan x) in
    (some c.0, some c.1)

pub most_nan : (x y : Float) → most x y ≡ nan → (x ≡ nan) × (y ≡ nan)
most_nan x y h =
    let c = clear (is_nan x) x y (lt x y) refl (rw (unequal_itself x) at (told h)) (λ n. ap (lt x) (some n) ∙ below_nan x) in
    (some c.0, some c.1)

-- ---- of two equal values the first: of -0 and +0 the one that stands first
level_below : (s t : Bool) (a b : ℕ) → level s a t b ≡ true → (below s a t b ≡ false) × (below t b s a ≡ false)
level_below false false a b e = let h = eqb-true a b (and_parts (eqb a b) true e).0 in (le-ltb a b (omega arith), le-ltb b a (omega arith))
level_below true true a b e = let h = eqb-true a b (and_parts (eqb a b) true e).0 in (le-ltb b a (omega arith), le-ltb a b (omega arith))
level_below true false a b e =
    let h = eqb-true a b (and_parts (eqb a b) (eqb a 0) e).0 in
    let z = eqb-true a 0 (and_parts (eqb a b) (eqb a 0) e).1 in
    (le-ltb 0 (a + b) (omega arith), refl)
level_below false true a b e =
    let h = eqb-true a b (and_parts (eqb a b) (eqb a 0) e).0 in
    let z = eqb-true a 0 (and_parts (eqb a b) (eqb a 0) e).1 in
    (refl, le-ltb 0 (b + a) (omega arith))

equal_below : (x y : Float) → eq x y ≡ true → (is_nan x ≡ false) × ((lt x y ≡ false) × (lt y x ≡ false))
unfolding eq lt is_nan
equal_below nan y e = absurd (true≢false (sym e))
equal_below (inf s) nan e = absurd (true≢false (sym e))
equal_below (inf true) (inf true) e = (refl, (refl, refl))
equal_below (inf false) (inf false) e = (refl, (refl, refl))
equal_below (inf true) (inf false) e = absurd (true≢false (sym e))
equal_below (inf false) (inf true) e = absurd (true≢false (sym e))
equal_below (inf s) (fin t n d) e = absurd (true≢false (sym e))
equal_below (fin s m e) nan h = absurd (true≢false (sym h))
equal_below (fin s m e) (inf t) h = absurd (true≢false (sym h))
equal_below (fin s m e) (fin t n d) h = (refl, level_below s t (m * up e * down d) (n * up d * down e) h)

pub least_equal : (x y : Float) → eq x y ≡ true → least x y ≡ x
least_equal x y e = let h = equal_below x y e in rw (unequal_itself x, h.0, h.1.1)

pub most_equal : (x y : Float) → eq x y ≡ true → most x y ≡ x
most_equal x y e = let h = equal_below x y e in rw (unequal_itself x, h.0, h.1.0)

-- ---- clamp: a not-a-number stays one
pub clamped_nan : (low high : Float) → clamped nan low high ≡ nan
clamped_nan low high = rw (above_nan low, below_nan high)

-- ---- amounts, in units
not_nan : (x : Float) → Amount x → ne x x ≡ false
unfolding is_nan
not_nan nan a = absurd a.sign
not_nan (inf s) a = absurd a.sign
not_nan (fin s m e) a = unequal_itself (fin s m e)

pub least-is : {x y : Float} {u v : ℕ} → Is x u → Is y v → Is (least x y) (min u v)
least-is {x} {y} {u} {v} a b = rw (not_nan x a.amount) (recount (min_is (lt_test b a) b a) (omega arith))

pub most_is : {x y : Float} {u v : ℕ} → Is x u → Is y v → Is (most x y) (max u v)
most_is {x} {y} {u} {v} a b = rw (not_nan x a.amount) (max_is (lt_test a b) a b)

pub clamped_is : {x low high : Float} {u l h : ℕ} → Is x u → Is low l → Is high h → Is (clamped x low high) (min (max u l) h)
clamped_is {x} {low} {high} {u} {l} {h} a b c =
    let r = max_is (lt_test a b) a b in
    recount (min_is (lt_test c r) c r) (omega arith)
