-- The first dimension that lacks (specs/Rules), turn by turn; where none lacks, all hold. Assumes nothing.
use mathlib.Core.Path.{◌≡◌, refl, sym, ap, subst, ◌∙◌}
use mathlib.Core.Bool.{Bool, true, false, cond, not, ◌&&◌}
use Prim.Native.Nat.{ℕ, zero, suc, ◌<◌, ◌≤◌}
use native.Mathlib.Omega.{arith}
use native.Mathlib.Decide.{ℕ_discrete}
use lib.Dec.{ltb}
use borrow.Author.Tests.{lt-ltb, le-ltb, ltb-true, ltb-false}
use Rattle.flow.specs.Flow.{dims, all}
use Rattle.std.specs.Option.{MatchOption}
use Rattle.std.specs.List.{AllWithin, HoldsAt, range_with_len}
use Rattle.std.proofs.lemmas.List.FromFn.{length-range_with_len}
use Rattle.flow.proofs.Parts.{place}
use denote.Param.Members.{Shared}
use lib.ListN.{length}
use native.Mathlib.Nat.{lt_trans}
use Rattle.std.specs.declared.option.Option.{Option}
use Rattle.std.specs.declared.option.Option.TheVariants.{Some, None}
use Rattle.verdict.specs.Rules.{lacking, first}

-- ---- the one that is found
here : (p : ℕ → Bool) (i : ℕ) → lacking p i ≡ i → p i ≡ false → lacking p (suc i) ≡ i
unfolding lacking
here p i e f = simp (e, f, le-ltb i i (omega arith))

on : (p : ℕ → Bool) (n i : ℕ) → lacking p n ≡ i → i < n → lacking p (suc n) ≡ i
unfolding lacking
on p n i e h = simp (e, lt-ltb i n h)

pub lacking_found : (p : ℕ → Bool) (n i : ℕ) → i < n → lacking p i ≡ i → p i ≡ false → lacking p n ≡ i
lacking_found p zero i h e f = absurd (omega arith)
lacking_found p (suc n) i h e f = go (λ l. lacking_found p n i l e f) (ℕ_discrete i n)
  where
    go : (i < n → lacking p n ≡ i) → Dec (i ≡ n) → lacking p (suc n) ≡ i
    go r (yes q) = ap (λ (k : ℕ). lacking p (suc k)) (sym q) ∙ here p i e f
    go r (no q) = on p n i (r (omega arith)) (omega arith)

-- ---- where all before it hold
abbrev pub Before : (p : ℕ → Bool) (n : ℕ) → Type 0
Before p n = (d : ℕ) → d < n → p d ≡ true

pub lacking_all : (p : ℕ → Bool) (n : ℕ) → Before p n → lacking p n ≡ n
unfolding lacking
lacking_all p zero h = refl
lacking_all p (suc n) h = simp (lacking_all p n (λ d l. h d (omega arith)), h n (omega arith), le-ltb n n (omega arith))

-- a search for the first dimension that lacks
turned : (b c : Bool) → c ≡ not b → b ≡ not c
turned true c e = rw e
turned false c e = rw e

module _ {F : Type 0} (g : Shared F (ℕ × Unit {0}) Bool) where
  pub position_first : (f : F) (p : ℕ → Bool) → ((d : ℕ) (x : Bool) → d < dims → g.post f (d, tt) x → x ≡ not (p d))
      → (r : Option ℕ) → MatchOption r (AllWithin (λ d. g.post f (d, tt) false) (range_with_len 0 dims) 0 (length (range_with_len 0 dims))) (λ i. (i < length (range_with_len 0 dims)) × HoldsAt (λ d. g.post f (d, tt) true) (range_with_len 0 dims) i × AllWithin (λ d. g.post f (d, tt) false) (range_with_len 0 dims) 0 i)
      → r ≡ first (lacking p dims)
  unfolding first
  position_first f p is None h =
      simp (lacking_all p dims (λ d l. turned (p d) false (is d false l (subst (λ (k : ℕ). g.post f (k, tt) false) (place d l) (h d 0 (omega arith) (omega (arith, length-range_with_len 0 dims)))))))
  position_first f p is (Some i) h =
      let l : i < dims = omega (arith, h.0, length-range_with_len 0 dims) in
      simp (
        lacking_found p dims i l
            (lacking_all p i (λ d k. turned (p d) false (is d false (lt_trans k l) (subst (λ (k : ℕ). g.post f (k, tt) false) (place d (lt_trans k l)) (h.2 d 0 (omega arith) k)))))
            (turned (p i) true (is i true l (subst (λ (k : ℕ). g.post f (k, tt) true) (place i l) (h.1 0)))),
        lt-ltb i dims l,
      )

-- ---- all hold exactly where none lacks; the one found lacks, and those before it hold
pub record Found (p : ℕ → Bool) (n l : ℕ) (a : Bool) : Type 0 where
  pub holds : a ≡ not (ltb l n)
  pub within : l ≤ n
  pub before : Before p l
  pub lacks : l < n → p l ≡ false

step : (p : ℕ → Bool) (n l : ℕ) (a b c : Bool) → ltb l n ≡ b → p n ≡ c → Found p n l a → Found p (suc n) (cond b l (cond c (suc n) n)) (a && c)
step p n l a true c e g f =
    let x : l < suc n = omega (arith, f.within) in
    record {
      holds = rw (f.holds, e, lt-ltb l (suc n) x);
      within = omega (arith, f.within);
      before = f.before;
      lacks = λ h. f.lacks (ltb-true l n e);
    }
step p n l a false true e g f =
    let x : l ≡ n = omega (arith, f.within, ltb-false l n e) in
    record {
      holds = rw (f.holds, e, le-ltb (suc n) (suc n) (omega arith));
      within = omega arith;
      before = λ d h. go d h x (ℕ_discrete d n);
      lacks = λ h. absurd (omega arith);
    }
  where
    go : (d : ℕ) → d < suc n → l ≡ n → Dec (d ≡ n) → p d ≡ true
    go d h x (yes q) = ap p q ∙ g
    go d h x (no q) = f.before d (omega arith)
step p n l a false false e g f =
    let x : n < suc n = omega arith in
    record {
      holds = rw (f.holds, e, lt-ltb n (suc n) x);
      within = omega arith;
      before = λ d h. f.before d (omega (arith, f.within, ltb-false l n e));
      lacks = λ h. g;
    }

pub found : (p : ℕ → Bool) (n : ℕ) → Found p n (lacking p n) (all p n)
unfolding lacking all
found p zero = record { holds = refl; within = omega arith; before = λ d h. absurd (omega arith); lacks = λ h. absurd (omega arith) }
found p (suc n) = step p n (lacking p n) (all p n) (ltb (lacking p n) n) (p n) refl refl (found p n)
