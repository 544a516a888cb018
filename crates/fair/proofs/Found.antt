-- A row of the model's list, found by its name and replaced at its place. Assumes nothing.
use mathlib.Core.Path.{◌≡◌, refl, ap}
use mathlib.Core.Bool.{Bool, true, false}
use mathlib.Core.List.{List, [], ◌∷◌}
use Prim.Native.Nat.{ℕ, zero, suc, ◌<◌}
use native.Mathlib.Omega.{arith}
use lib.ListN.{length, get_or, set}
use Rattle.flow.specs.declared.Use.{Use}
use Rattle.fair.specs.Store as model
use Rattle.fair.specs.Demand.{Kept, absent, present}

module _ (Name : Type 0) (same : Name → Name → Bool) (shares : Name → Bool) (room : ℕ) where
  abbrev R : Type 0
  R = model.Row Name same shares room

  abbrev find : Name → List R → Kept
  find u rs = model.find Name same shares room u rs

  abbrev replaced : Name → Use → List R → List R
  replaced u x rs = model.replaced Name same shares room u x rs

  module _ (u : Name) (d : R) where
    pub found_none : (rs : List R) → ((j : ℕ) → j < length rs → same u (get_or rs j d).name ≡ false) → find u rs ≡ absent
    found_none [] f = refl
    found_none (r ∷ rs) f = rw (f 0 (omega arith)) (found_none rs (λ j h. f (suc j) (omega arith)))

    -- the first that has the name stands at i
    pub found_at : (rs : List R) (i : ℕ) → i < length rs → ((j : ℕ) → j < i → same u (get_or rs j d).name ≡ false)
        → same u (get_or rs i d).name ≡ true → find u rs ≡ present (get_or rs i d).used
    found_at [] i h f e = absurd (omega arith)
    found_at (r ∷ rs) zero h f e = rw e refl
    found_at (r ∷ rs) (suc i) h f e = rw (f 0 (omega arith)) (found_at rs i (omega arith) (λ j k. f (suc j) (omega arith)) e)

    pub replaced_at : (x : Use) (rs : List R) (i : ℕ) → i < length rs → ((j : ℕ) → j < i → same u (get_or rs j d).name ≡ false)
        → same u (get_or rs i d).name ≡ true → replaced u x rs ≡ set rs i (record { name = (get_or rs i d).name; used = x })
    replaced_at x [] i h f e = absurd (omega arith)
    replaced_at x (r ∷ rs) zero h f e = rw e refl
    replaced_at x (r ∷ rs) (suc i) h f e =
        rw (f 0 (omega arith)) (ap (λ (l : List R). r ∷ l) (replaced_at x rs i (omega arith) (λ j k. f (suc j) (omega arith)) e))
