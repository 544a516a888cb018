-- A place in a part as one of the whole index. Assumes nothing.
use mathlib.Core.Path.{◌≡◌, refl, sym, ap, ◌∙◌}
use mathlib.Core.Bool.{Bool}
use Prim.Native.Nat.{ℕ, zero, suc, ◌+◌, ◌-◌, ◌<◌, ◌≤◌}
use native.Mathlib.Omega.{arith}
use Rattle.std.specs.Prelude.{Option, Some, None, IfSome}
use mathlib.Core.Bool.{◌&&◌}
use mathlib.Core.List.{List}
use lib.ListN.{length, take, drop, length-take, length-drop}
use lib.Seq.{get_or-take, get_or-drop}
use lib.Dec.{eqb}
use Rattle.sender.specs.declared.Name.{Name}
use Rattle.store.specs.Store.{first, has_tag}
use Rattle.parts.specs.Parts.{has_words, find_among, find_within}
use Rattle.store.specs.Found.{found}
use Rattle.store.proofs.Found.{some_found, none_found, found_some, found_none}

-- tests that agree below n find the same
pub first_same : (p q : ℕ → Bool) (n : ℕ) → ((k : ℕ) → k < n → p k ≡ q k) → first p n ≡ first q n
unfolding first
first_same p q zero h = refl
first_same p q (suc n) h = simp (first_same p q n (λ k l. h k (omega arith)), h n (omega arith))

module _ (n from to f : ℕ) (z : to ≡ from + n) where
  none_moved : None ≡ found n f → None ≡ found to (from + f)
  none_moved e = sym (none_found to (from + f) (let a = found_none n f (sym e) in omega arith))

  some_moved : (x : ℕ) → Some x ≡ found n f → Some (from + x) ≡ found to (from + f)
  some_moved x e = let a = found_some n f x (sym e) in ap (λ (y : ℕ). Some (from + y)) (sym a.0) ∙ sym (some_found to (from + f) (omega (arith, a.1)))

module _ (tags slots : List ℕ) (units : List (List ℕ)) (from to : ℕ) (name : Name) (h : from ≤ to) (l : to ≤ length tags) where
  among : ℕ → Bool
  among k = has_tag (take (to - from) (drop from tags)) name.tag k && has_words slots units name.words (from + k)

  within : ℕ → Bool
  within k = has_tag tags name.tag (from + k) && has_words slots units name.words (from + k)

  long : length (take (to - from) (drop from tags)) ≡ to - from
  long = simp (length-take, length-drop) (omega arith)

  alike : first among (length (take (to - from) (drop from tags))) ≡ first within (to - from)
  unfolding has_tag among within
  alike =
      ap (first among) long
      ∙ first_same among within (to - from) (λ k a. ap (λ (x : ℕ). eqb x name.tag && has_words slots units name.words (from + k)) (get_or-take (to - from) (drop from tags) k 0 a ∙ get_or-drop from tags k 0))

  pub within_none : None ≡ find_among (take (to - from) (drop from tags)) slots units from name → None ≡ find_within tags slots units from to name
  unfolding find_among find_within among within
  within_none e = none_moved _ from to _ (omega (arith, long)) e ∙ ap (λ (f : ℕ). found to (from + f)) alike

  pub within_some : (x : ℕ) → Some x ≡ find_among (take (to - from) (drop from tags)) slots units from name → Some (from + x) ≡ find_within tags slots units from to name
  unfolding find_among find_within among within
  within_some x e = some_moved _ from to _ (omega (arith, long)) x e ∙ ap (λ (f : ℕ). found to (from + f)) alike

-- what lies below a place lies below each later one
pub found_below : (o : Option ℕ) (a b : ℕ) → a ≤ b → IfSome o (λ i. i < a) → IfSome o (λ i. i < b)
found_below None a b h w = w
found_below (Some i) a b h w = omega arith
