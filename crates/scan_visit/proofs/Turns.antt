-- A walk, record by record. Assumes nothing.
use mathlib.Core.Path.{◌≡◌, refl, sym, ap, ◌∙◌}
use Prim.Native.Nat.{ℕ, zero, suc, ◌+◌, ◌-◌, ◌<◌, ◌≤◌}
use native.Mathlib.Nat.{add-sub_of_le}
use native.Mathlib.Omega.{arith}
use Rattle.flow.specs.declared.Use.{Use}
use Rattle.parts.specs.Parts.{Rows, use_of}
use Rattle.scan_visit.specs.Walking.{walk_use}
use Rattle.wants.specs.Wants.{Hist}
use Rattle.scan_visit.specs.Visiting.{walk}

pub walk_none : (m : Rows) (t a : ℕ) (g : Hist) → g ≡ walk m t a (a - a) g
unfolding walk
walk_none m t a g = let z : 0 ≡ a - a = omega arith in ap (λ (k : ℕ). walk m t a k g) z

pub walk_next : (m : Rows) (t a i : ℕ) (g g1 g2 : Hist) → a ≤ i → g1 ≡ walk m t a (i - a) g → g2 ≡ walk_use (use_of m i) t g1
    → g2 ≡ walk m t a (i + 1 - a) g
unfolding walk
walk_next m t a i g g1 g2 h e f =
    let z : suc (i - a) ≡ i + 1 - a = omega arith in
    let y : i ≡ a + (i - a) = sym (add-sub_of_le h) in
    f ∙ ap (λ (k : ℕ). walk_use (use_of m k) t g1) y ∙ ap (walk_use (use_of m (a + (i - a))) t) e ∙ ap (λ (k : ℕ). walk m t a k g) z

-- one walk, and one that goes on from there
joined : (m : Rows) (t a j k : ℕ) (g : Hist) → walk m t (a + j) k (walk m t a j g) ≡ walk m t a (j + k) g
unfolding walk
joined m t a j zero g = let z : j ≡ j + 0 = omega arith in ap (λ (i : ℕ). walk m t a i g) z
joined m t a j (suc k) g =
    let y : a + j + k ≡ a + (j + k) = omega arith in
    let z : suc (j + k) ≡ j + suc k = omega arith in
    ap (walk_use (use_of m (a + j + k)) t) (joined m t a j k g) ∙ ap (λ (i : ℕ). walk_use (use_of m i) t (walk m t a (j + k) g)) y
    ∙ ap (λ (i : ℕ). walk m t a i g) z

pub walk_on : (m : Rows) (t a i b : ℕ) (g : Hist) → a ≤ i → i ≤ b → walk m t i (b - i) (walk m t a (i - a) g) ≡ walk m t a (b - a) g
walk_on m t a i b g h l =
    let y : i ≡ a + (i - a) = sym (add-sub_of_le h) in
    let z : i - a + (b - i) ≡ b - a = omega arith in
    ap (λ (j : ℕ). walk m t j (b - i) (walk m t a (i - a) g)) y ∙ joined m t a (i - a) (b - i) g ∙ ap (λ (k : ℕ). walk m t a k g) z

-- the first record first
pub walk_first : (m : Rows) (t a k : ℕ) (g : Hist) → walk m t a (suc k) g ≡ walk m t (suc a) k (walk_use (use_of m a) t g)
unfolding walk
walk_first m t a zero g = let z : a + 0 ≡ a = omega arith in ap (λ (i : ℕ). walk_use (use_of m i) t g) z
walk_first m t a (suc k) g =
    let z : a + suc k ≡ suc a + k = omega arith in
    ap (walk_use (use_of m (a + suc k)) t) (walk_first m t a k g) ∙ ap (λ (i : ℕ). walk_use (use_of m i) t (walk m t (suc a) k (walk_use (use_of m a) t g))) z

-- rows in which the records walked have the same uses
pub walk_same : (m m1 : Rows) (t a k : ℕ) (g : Hist) → ((i : ℕ) → i < k → use_of m (a + i) ≡ use_of m1 (a + i)) → walk m t a k g ≡ walk m1 t a k g
unfolding walk
walk_same m m1 t a zero g s = refl
walk_same m m1 t a (suc k) g s =
    ap (walk_use (use_of m (a + k)) t) (walk_same m m1 t a k g (λ i l. s i (omega arith)))
    ∙ ap (λ (u : Use). walk_use u t (walk m1 t a k g)) (s k (omega arith))
