-- Copies of any places, in any order: what none of them carries stands nowhere else than before, and few of them carry few. Assumes nothing.
use mathlib.Core.Path.{◌≡◌, sym, ap, subst, ◌∙◌}
use mathlib.Core.List.{List, [], ◌∷◌}
use Prim.Native.Nat.{ℕ, zero, suc, ◌+◌, ◌<◌, ◌≤◌}
use native.Mathlib.Omega.{arith}
use native.Mathlib.Decide.{dec_le, ℕ_discrete}
use lib.Dec.{eqb}
use lib.ListN.{length, get_or, set, length-set}
use lib.Seq.{get_or-set_same, get_or-set_other}
use borrow.Author.Tests.{eq-eqb, ne_eqb}
use Rattle.parts.specs.Laws.{one_if}
use Rattle.parts.specs.Copies.{Copy, ran, carried}

missed : (y x : ℕ) → one_if (eqb y x) ≡ 0 → y ≡ x → ⊥
missed y x e q = absurd (omega (arith, ap one_if (eq-eqb y x q)))

pub uncarried : (cs : List Copy) (xs : List ℕ) (x j : ℕ) → carried cs xs x ≡ 0 → j < length xs → get_or (ran cs xs) j 0 ≡ x → get_or xs j 0 ≡ x
unfolding carried ran
uncarried [] xs x j e l q = q
uncarried (c ∷ cs) xs x j e l q =
    let v = get_or xs c.from 0 in
    let r : get_or (set xs c.to v) j 0 ≡ x = uncarried cs (set xs c.to v) x j (omega arith) (omega (arith, length-set xs c.to v)) q in
    elim (ℕ_discrete j c.to) [
      | yes z ↦ absurd (missed v x (omega arith) (sym (get_or-set_same xs j v 0 l) ∙ ap (λ (k : ℕ). get_or (set xs k v) j 0) z ∙ r))
      | no z ↦ sym (get_or-set_other xs c.to j v 0 z) ∙ r
    ]

-- ---- sums
unfoldable added : (ℕ → ℕ) → ℕ → ℕ
added h zero = 0
added h (suc c) = added h c + h c

added_none : (c : ℕ) → added (λ i. 0) c ≡ 0
unfolding added
added_none zero = omega arith
added_none (suc c) = omega (arith, added_none c)

added_both : (h k : ℕ → ℕ) (c : ℕ) → added (λ i. h i + k i) c ≡ added h c + added k c
unfolding added
added_both h k zero = omega arith
added_both h k (suc c) = omega (arith, added_both h k c)

added_all : (h : ℕ → ℕ) (c : ℕ) → ((i : ℕ) → i < c → 1 ≤ h i) → c ≤ added h c
unfolding added
added_all h zero e = omega arith
added_all h (suc c) e = omega (arith, added_all h c (λ i l. e i (omega arith)), e c (omega arith))

added_more : (h : ℕ → ℕ) (c i : ℕ) → ((i : ℕ) → i < c → 1 ≤ h i) → i < c → 2 ≤ h i → c < added h c
unfolding added
added_more h zero i e l m = absurd (omega arith)
added_more h (suc c) i e l m = elim (ℕ_discrete i c) [
  | yes q ↦ omega (arith, added_all h c (λ k u. e k (omega arith)), ap h q)
  | no q ↦ omega (arith, added_more h c i (λ k u. e k (omega arith)) (omega arith) m, e c (omega arith))
]

-- ---- of different numbers each copy carries one
abbrev pub Apart : (ℕ → ℕ) → ℕ → Type 0
Apart g c = (i j : ℕ) → i < j → j < c → g i ≡ g j → ⊥

hits_none : (g : ℕ → ℕ) (y c : ℕ) → ((i : ℕ) → i < c → y ≡ g i → ⊥) → added (λ i. one_if (eqb y (g i))) c ≡ 0
unfolding added
hits_none g y zero w = omega arith
hits_none g y (suc c) w = omega (arith, hits_none g y c (λ i l. w i (omega arith)), ap one_if (ne_eqb y (g c) (w c (omega arith))))

hits : (g : ℕ → ℕ) (y c : ℕ) → Apart g c → added (λ i. one_if (eqb y (g i))) c ≤ 1
unfolding added
hits g y zero w = omega arith
hits g y (suc c) w = elim (ℕ_discrete y (g c)) [
  | yes q ↦ omega (arith, hits_none g y c (λ i l z. w i c l (omega arith) (sym z ∙ q)), ap one_if (eq-eqb y (g c) q))
  | no q ↦ omega (arith, hits g y c (λ i j a b. w i j a (omega arith)), ap one_if (ne_eqb y (g c) q))
]

few : (cs : List Copy) (xs : List ℕ) (g : ℕ → ℕ) (c : ℕ) → Apart g c → added (λ i. carried cs xs (g i)) c ≤ length cs
unfolding carried
few [] xs g c w = omega (arith, added_none c)
few (a ∷ cs) xs g c w =
    let y = get_or xs a.from 0 in
    let ys = set xs a.to y in
    omega (arith, added_both (λ i. one_if (eqb y (g i))) (λ i. carried cs ys (g i)) c, hits g y c w, few cs ys g c w)

-- and with one number more
hits_else : (g : ℕ → ℕ) (y c x : ℕ) → Apart g c → ((i : ℕ) → i < c → g i ≡ x → ⊥) → added (λ i. one_if (eqb y (g i))) c + one_if (eqb y x) ≤ 1
hits_else g y c x w u = elim (ℕ_discrete y x) [
  | yes q ↦ omega (arith, hits_none g y c (λ i l z. u i l (sym z ∙ q)), ap one_if (eq-eqb y x q))
  | no q ↦ omega (arith, hits g y c w, ap one_if (ne_eqb y x q))
]

few_else : (cs : List Copy) (xs : List ℕ) (g : ℕ → ℕ) (c x : ℕ) → Apart g c → ((i : ℕ) → i < c → g i ≡ x → ⊥) → added (λ i. carried cs xs (g i)) c + carried cs xs x ≤ length cs
unfolding carried
few_else [] xs g c x w u = omega (arith, added_none c)
few_else (a ∷ cs) xs g c x w u =
    let y = get_or xs a.from 0 in
    let ys = set xs a.to y in
    omega (arith, added_both (λ i. one_if (eqb y (g i))) (λ i. carried cs ys (g i)) c, hits_else g y c x w u, few_else cs ys g c x w u)

-- no more copies than numbers that are carried: none twice
pub carried_once : (cs : List Copy) (xs : List ℕ) (g : ℕ → ℕ) (c x : ℕ) → Apart g c → ((i : ℕ) → i < c → 1 ≤ carried cs xs (g i)) → length cs ≤ c → carried cs xs x ≤ 1
carried_once cs xs g c x w e l = elim (dec_le 2 (carried cs xs x)) [
  | no h ↦ omega arith
  | yes h ↦ absurd (omega (arith, added_all (λ i. carried cs xs (g i)) c e, few_else cs xs g c x w (λ i u q. more i u (subst (λ (k : ℕ). 2 ≤ carried cs xs k) (sym q) h))))
]
  where
    more : (i : ℕ) → i < c → 2 ≤ carried cs xs (g i) → ⊥
    more i u h = absurd (omega (arith, added_more (λ i. carried cs xs (g i)) c i e u h, few cs xs g c w))
