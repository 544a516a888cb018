-- A search reads the part of the unit's table alone. Assumes nothing.
use mathlib.Core.Path.{◌≡◌, ap, ◌∙◌}
use mathlib.Core.Bool.{Bool, ◌&&◌}
use mathlib.Core.List.{List, []}
use Prim.Native.Nat.{ℕ, ◌+◌, ◌-◌, ◌<◌, ◌≤◌}
use native.Mathlib.Omega.{arith}
use lib.ListN.{get_or}
use Rattle.sender.specs.declared.Name.{Name}
use Rattle.sender.specs.Sender.{table_of_tag}
use Rattle.store.specs.Store.{first, has_tag, words_at}
use Rattle.store.specs.Found.{found}
use Rattle.parts.specs.Parts.{Rows, begin, end, slot_at, has_words, find_within, find}
use Rattle.parts.specs.Laws.{Agree, Alone}
use Rattle.parts.proofs.Finding.{first_same}

-- the words of two rows that are the same
same_words : (us vs : List (List ℕ)) (i j : ℕ) → get_or us i [] ≡ get_or vs j [] → words_at us i ≡ words_at vs j
unfolding words_at
same_words us vs i j e =
    ap (λ (r : List ℕ). record { kind = get_or r 0 0; a = get_or r 1 0; b = get_or r 2 0; c = get_or r 3 0; d = get_or r 4 0 }) e

module _ (m k : Rows) (name : Name) (g : Agree m k (table_of_tag name.tag)) where
  abbrev t : ℕ
  t = table_of_tag name.tag

  abbrev is : Rows → ℕ → Bool
  is r i = has_tag r.tags name.tag i && has_words r.slots r.units name.words i

  same_test : (i : ℕ) → begin m t ≤ i → i < end m t → is m i ≡ is k i
  unfolding has_tag
  same_test i h l = rw (g.tags i h l, same_words m.units k.units (slot_at m i) (slot_at k i) (g.words i h l))

  same_find : find m name ≡ find k name
  unfolding find find_within
  same_find =
      ap (λ (i : ℕ). found (end m t) (begin m t + i)) (first_same (λ (i : ℕ). is m (begin m t + i)) (λ (i : ℕ). is k (begin m t + i)) (end m t - begin m t) (λ i l. same_test (begin m t + i) (omega arith) (omega arith)))
      ∙ ap (λ (x : ℕ). found (end m t) (x + first (λ (i : ℕ). is k (x + i)) (end m t - x))) g.begins
      ∙ ap (λ (y : ℕ). found y (begin k t + first (λ (i : ℕ). is k (begin k t + i)) (y - begin k t))) g.ends

pub alone : Alone
alone m k name g = same_find m k name g
