-- Strings of bytes in their order, and the order of sources of one total: by labels, then by places. Assumes nothing.
use mathlib.Core.Path.{◌≡◌, refl, sym, ap, ◌∙◌}
use mathlib.Core.Bool.{Bool, true, false, cond, false≢true}
use mathlib.Core.Logic.{◌⊎◌, inl, inr, ⊎_elim}
use mathlib.Core.List.{List, [], ◌∷◌}
use Prim.Native.Nat.{ℕ, ◌<◌}
use native.Mathlib.Decide.{dec_lt}
use native.Mathlib.Omega.{arith}
use borrow.Author.Tests.{ltb-true, ltb-false, lt-ltb, eq-eqb, ne_eqb, eqb-true, eqb-false}
use lib.Dec.{eqb, ltb}
use Rattle.text.specs.Order.{less}
use Rattle.report_ranking.specs.Sources.{label_at, label_precedes}

-- ---- byte strings
pub less_irreflexive : (a : List ℕ) → less a a ≡ false
unfolding less
less_irreflexive [] = refl
less_irreflexive (x ∷ a) = simp (eq-eqb x x refl) (less_irreflexive a)

-- of two that go on: the first bytes differ, or the rest decides
pub less_cons : (x y : ℕ) (a b : List ℕ) → less (x ∷ a) (y ∷ b) ≡ true → (x < y) ⊎ ((x ≡ y) × (less a b ≡ true))
unfolding less
less_cons x y a b h = by_first (eqb x y) refl h
  where
    by_first : (t : Bool) → eqb x y ≡ t → cond t (less a b) (ltb x y) ≡ true → (x < y) ⊎ ((x ≡ y) × (less a b ≡ true))
    by_first true e h = inr (eqb-true x y e, h)
    by_first false e h = inl (ltb-true x y h)

pub less_first : (x y : ℕ) (a b : List ℕ) → x < y → less (x ∷ a) (y ∷ b) ≡ true
unfolding less
less_first x y a b h = simp (ne_eqb x y (λ e. omega arith), lt-ltb x y h)

less_rest : (x y : ℕ) (a b : List ℕ) → x ≡ y → less a b ≡ true → less (x ∷ a) (y ∷ b) ≡ true
unfolding less
less_rest x y a b e h = simp (eq-eqb x y e) h

less_nil : (a : List ℕ) → less a [] ≡ true → ⊥
unfolding less
less_nil a h = false≢true h

less_some : (y : ℕ) (b : List ℕ) → less [] (y ∷ b) ≡ true
unfolding less
less_some y b = refl

pub less_transitive : (a b c : List ℕ) → less a b ≡ true → less b c ≡ true → less a c ≡ true
less_transitive a [] c h k = absurd (less_nil a h)
less_transitive a (y ∷ b) [] h k = absurd (less_nil (y ∷ b) k)
less_transitive [] (y ∷ b) (z ∷ c) h k = less_some z c
less_transitive (x ∷ a) (y ∷ b) (z ∷ c) h k =
    ⊎_elim
    (λ (p : x < y). ⊎_elim (λ (q : y < z). less_first x z a c (omega arith)) (λ (q : (y ≡ z) × (less b c ≡ true)). less_first x z a c (omega (arith, q.0))) (less_cons y z b c k))
    (λ (p : (x ≡ y) × (less a b ≡ true)). ⊎_elim (λ (q : y < z). less_first x z a c (omega (arith, p.0))) (λ (q : (y ≡ z) × (less b c ≡ true)). less_rest x z a c (p.0 ∙ q.0) (less_transitive a b c p.1 q.1)) (less_cons y z b c k))
    (less_cons x y a b h)

less_not : (x y : ℕ) (a b : List ℕ) → less (x ∷ a) (y ∷ b) ≡ false → (y < x) ⊎ ((x ≡ y) × (less a b ≡ false))
unfolding less
less_not x y a b h = by_first (eqb x y) refl h
  where
    by_first : (t : Bool) → eqb x y ≡ t → cond t (less a b) (ltb x y) ≡ false → (y < x) ⊎ ((x ≡ y) × (less a b ≡ false))
    by_first true e h = inr (eqb-true x y e, h)
    by_first false e h = elim (dec_lt y x) [ yes p ↦ inl p | no p ↦ absurd (eqb-false x y e (omega (arith, ltb-false x y h))) ]

-- of two strings one is less, or they are the same
pub less_connected : (a b : List ℕ) → less a b ≡ false → less b a ≡ false → a ≡ b
less_connected [] [] h k = refl
less_connected [] (y ∷ b) h k = absurd (false≢true (sym h ∙ less_some y b))
less_connected (x ∷ a) [] h k = absurd (false≢true (sym k ∙ less_some x a))
less_connected (x ∷ a) (y ∷ b) h k = both (less_connected a b) (less_not x y a b h) (less_not y x b a k)
  where
    both : (less a b ≡ false → less b a ≡ false → a ≡ b) → (y < x) ⊎ ((x ≡ y) × (less a b ≡ false)) → (x < y) ⊎ ((y ≡ x) × (less b a ≡ false)) → (x ∷ a) ≡ (y ∷ b)
    both g (inl p) (inl q) = absurd (omega arith)
    both g (inl p) (inr (e, q)) = absurd (omega arith)
    both g (inr (e, p)) (inl q) = absurd (omega arith)
    both g (inr (e, p)) (inr (f, q)) = let r = g p q in cc

-- ---- labels, then places
abbrev pub Tied : List ℕ → List ℕ → ℕ → ℕ → Type 0
Tied a b i j = (less a b ≡ true) ⊎ ((a ≡ b) × (i < j))

pub tied_transitive : (a b c : List ℕ) (i j k : ℕ) → Tied a b i j → Tied b c j k → Tied a c i k
tied_transitive a b c i j k (inl p) (inl q) = inl (less_transitive a b c p q)
tied_transitive a b c i j k (inl p) (inr (e, q)) = inl (ap (less a) (sym e) ∙ p)
tied_transitive a b c i j k (inr (e, p)) (inl q) = inl (ap (λ (l : List ℕ). less l c) e ∙ q)
tied_transitive a b c i j k (inr (e, p)) (inr (f, q)) = inr (e ∙ f, omega arith)

module _ (tags : List ℕ) (rows : List (List ℕ)) where
  pub label_shows : (i j : ℕ) → label_precedes tags rows i j ≡ true → Tied (label_at tags rows i) (label_at tags rows j) i j
  unfolding label_precedes
  label_shows i j h = by_less (less (label_at tags rows i) (label_at tags rows j)) refl (less (label_at tags rows j) (label_at tags rows i)) refl h
    where
      by_less : (t : Bool) → less (label_at tags rows i) (label_at tags rows j) ≡ t → (s : Bool) → less (label_at tags rows j) (label_at tags rows i) ≡ s
          → cond t true (cond s false (ltb i j)) ≡ true → Tied (label_at tags rows i) (label_at tags rows j) i j
      by_less true e s f h = inl e
      by_less false e true f h = absurd (false≢true h)
      by_less false e false f h = inr (less_connected (label_at tags rows i) (label_at tags rows j) e f, ltb-true i j h)

  pub label_shown : (i j : ℕ) → Tied (label_at tags rows i) (label_at tags rows j) i j → label_precedes tags rows i j ≡ true
  unfolding label_precedes
  label_shown i j (inl h) = simp h
  label_shown i j (inr (e, h)) =
      let f : less (label_at tags rows i) (label_at tags rows j) ≡ false = ap (less (label_at tags rows i)) (sym e) ∙ less_irreflexive (label_at tags rows i) in
      let g : less (label_at tags rows j) (label_at tags rows i) ≡ false = ap (less (label_at tags rows j)) e ∙ less_irreflexive (label_at tags rows j) in
      simp (f, g, lt-ltb i j h)
