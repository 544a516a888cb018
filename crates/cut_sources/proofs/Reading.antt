-- Finding a source by what it reads as. Assumes nothing.
use Rattle.std.proofs.Common.{◌≡◌, ℕ, zero, suc, ◌<◌, Bool, true, false, ◌&&◌, List, refl, sym, ap, ◌∙◌, arith, true≢false, Some, None}
use Rattle.sender.specs.Sender.{name_of, is_overflow, reads, same_name}
use Rattle.sender.specs.declared.Unit.{Unit}
use Rattle.sender.specs.declared.Name.{Name}
use Rattle.sender.specs.declared.Unit.TheVariants.{Overflow}
use Rattle.sender.proofs.Naming.{name_injective}
use Rattle.sender.proofs.Reading.{names_same, names_self, read_same, read_shared}
use Rattle.store.specs.Store.{first, has_tag, same, words_at, unit_at, name_at}
use Rattle.store.specs.Found.{found}
use Rattle.store.proofs.Found.{some_found, none_found}
use Rattle.store.proofs.Steps.{first_all, first_found, first_holds, first_least, first_some}
use Rattle.cut_sources.specs.Counted.{counted_is, counted_find}
use Rattle.cut_sources.specs.Finding.{FindsSources}

-- two tests that agree everywhere find the same
pub first_alike : (p q : ℕ → Bool) → ((k : ℕ) → p k ≡ q k) → (n : ℕ) → first p n ≡ first q n
unfolding first
first_alike p q e zero = refl
first_alike p q e (suc n) = rw (first_alike p q e n, e n) refl

-- of a unit that is not overflow: the raw tag and words are compared
abbrev pub raw_at : List ℕ → List (List ℕ) → Name → ℕ → Bool
raw_at tags rows name k = has_tag tags name.tag k && same (words_at rows k) name.words

pub find_own : (tags : List ℕ) (rows : List (List ℕ)) (u : Unit) (n : ℕ) → reads (name_of u) ≡ u → is_overflow u ≡ false → first (raw_at tags rows (name_of u)) n ≡ counted_find tags rows (name_of u) n
unfolding counted_find counted_is unit_at same_name has_tag
find_own tags rows u n r o = first_alike _ _ (λ k. sym (read_same u (name_at tags rows k) r o)) n

-- and of overflow: what is read is
module _ (tags : List ℕ) (rows : List (List ℕ)) where
  abbrev pub shared_at : ℕ → Bool
  shared_at k = is_overflow (unit_at tags rows k)

  shared_find : (n : ℕ) → counted_find tags rows (name_of Overflow) n ≡ first shared_at n
  unfolding counted_find counted_is unit_at
  shared_find n = first_alike _ _ (λ k. read_shared (name_at tags rows k)) n

  pub shared_here : (n i : ℕ) → i < n → ((k : ℕ) → k < i → shared_at k ≡ false) → shared_at i ≡ true → Some i ≡ found n (counted_find tags rows (name_of Overflow) n)
  shared_here n i h f e = sym (ap (found n) (shared_find n ∙ first_found shared_at n i h (first_all shared_at i (λ k a b. f k b)) e) ∙ some_found n i h)

  pub shared_none : (n : ℕ) → ((k : ℕ) → k < n → shared_at k ≡ false) → None ≡ found n (counted_find tags rows (name_of Overflow) n)
  shared_none n f = sym (none_found n _ (omega (arith, shared_find n, first_all shared_at n (λ k a b. f k b))))

-- ---- what is found is the first that reads as the unit
module _ (tags : List ℕ) (rows : List (List ℕ)) (u : Unit) where
  counts_as : (i : ℕ) → unit_at tags rows i ≡ u → counted_is tags rows (name_of u) i ≡ true
  unfolding counted_is
  counts_as i e = ap (λ (v : Unit). same_name (name_of v) (name_of u)) e ∙ names_self (name_of u)

  as_counted : (i : ℕ) → counted_is tags rows (name_of u) i ≡ true → unit_at tags rows i ≡ u
  unfolding counted_is
  as_counted i e = name_injective (unit_at tags rows i) u (names_same (name_of (unit_at tags rows i)) (name_of u) e)

pub finds_sources : FindsSources
unfolding counted_find
finds_sources tags rows u n = record {
  reads = λ l. as_counted tags rows u _ (first_holds (counted_is tags rows (name_of u)) n l);
  first = λ j l e. true≢false (sym (counts_as tags rows u j e) ∙ first_least (counted_is tags rows (name_of u)) n j l);
  some = λ i l e. first_some (counted_is tags rows (name_of u)) n i l (counts_as tags rows u i e);
}
