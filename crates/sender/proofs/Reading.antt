-- What a record reads as, and that a search by tag and words is one by what is read. Assumes nothing.
use mathlib.Core.Path.{◌≡◌, refl, sym, ap, ◌∙◌}
use mathlib.Core.Bool.{Bool, true, false, true≢false}
use Rattle.sender.specs.Sender.{name_of, is_overflow, same_name, reads}
use Rattle.sender.specs.Laws.{Reads}
use Rattle.sender.specs.declared.Unit.{Unit}
use Rattle.sender.specs.declared.Unit.TheVariants.{Corroborated, Group as Grouped, NoAddress, Overflow}
use Rattle.sender.specs.declared.Name.{Name}
use Rattle.sender.proofs.Naming.{name_injective}
pub use Rattle.sender.proofs.SameNames.{name_ext, words_same, words_self, names_same, names_self}
pub use Rattle.sender.proofs.ReadBack.{read_own, read_only}

pub is_shared : (u : Unit) → is_overflow u ≡ true → u ≡ Overflow
unfolding is_overflow
is_shared (Corroborated k) e = absurd (true≢false (sym e))
is_shared (Grouped g) e = absurd (true≢false (sym e))
is_shared NoAddress e = absurd (true≢false (sym e))
is_shared Overflow e = refl

read_rest : (n : Name) → ((u : Unit) → is_overflow u ≡ false → n ≡ name_of u → ⊥) → reads n ≡ Overflow
read_rest n f = go (is_overflow (reads n)) refl
  where
    go : (b : Bool) → is_overflow (reads n) ≡ b → reads n ≡ Overflow
    go true e = is_shared (reads n) e
    go false e = absurd (f (reads n) e (read_only (reads n) n e refl))

pub reading : Reads
reading = record { own = read_own; only = read_only; rest = read_rest }

-- ---- a search by tag and words is one by what is read
alike : (b c : Bool) → (b ≡ true → c ≡ true) → (c ≡ true → b ≡ true) → b ≡ c
alike true c f g = sym (f refl)
alike false true f g = g refl
alike false false f g = refl

-- of a unit that is not overflow, and whose record reads as it
pub read_same : (u : Unit) (n : Name) → reads (name_of u) ≡ u → is_overflow u ≡ false → same_name (name_of (reads n)) (name_of u) ≡ same_name n (name_of u)
read_same u n r o =
    alike _ _ (λ e. there (name_injective (reads n) u (names_same (name_of (reads n)) (name_of u) e)))
    (λ e. back (names_same n (name_of u) e))
  where
    there : reads n ≡ u → same_name n (name_of u) ≡ true
    there e = ap (λ (m : Name). same_name m (name_of u)) (read_only u n o e) ∙ names_self (name_of u)

    back : n ≡ name_of u → same_name (name_of (reads n)) (name_of u) ≡ true
    back e = ap (λ (v : Unit). same_name (name_of v) (name_of u)) (ap reads e ∙ r) ∙ names_self (name_of u)

-- and of overflow
pub read_shared : (n : Name) → same_name (name_of (reads n)) (name_of Overflow) ≡ is_overflow (reads n)
read_shared n =
    alike _ _ (λ e. ap is_overflow (name_injective (reads n) Overflow (names_same (name_of (reads n)) (name_of Overflow) e)) ∙ shared)
    (λ e. ap (λ (v : Unit). same_name (name_of v) (name_of Overflow)) (is_shared (reads n) e) ∙ names_self (name_of Overflow))
  where
    shared : is_overflow Overflow ≡ true
    shared = unfold is_overflow in refl
