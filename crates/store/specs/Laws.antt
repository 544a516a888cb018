-- Which record is a unit's: the first that reads as it. A statement; who searches proves it.
use Rattle.std.specs.Prelude.{◌≡◌, ◌<◌, ℕ, List}
use Rattle.sender.specs.declared.Unit.{Unit}
use Rattle.store.specs.Store.{unit_at}

-- of the first n records f is the first that reads as the unit; none does where f is not below n
pub record FirstThatReads (tags : List ℕ) (rows : List (List ℕ)) (u : Unit) (n f : ℕ) : Type 0 where
  pub reads : f < n → unit_at tags rows f ≡ u
  pub first : (j : ℕ) → j < f → unit_at tags rows j ≡ u → ⊥
  pub some : (i : ℕ) → i < n → unit_at tags rows i ≡ u → f < n
