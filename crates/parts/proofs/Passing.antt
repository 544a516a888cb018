-- A drop by the steps of the code: the first stale entry, the pass from there on, the entries closed up, the rows cleared, the offsets
-- lowered. Assumes nothing.
use mathlib.Core.Path.{◌≡◌, refl, sym, ap, ◌∙◌}
use mathlib.Core.List.{List}
use Prim.Native.Nat.{ℕ, ◌+◌, ◌-◌, ◌≤◌}
use native.Mathlib.Omega.{arith}
use lib.ListN.{length}
use lib.Ieee.{Float}
use Rattle.store.specs.Store.{None}
use Rattle.shifting.specs.Shifting.{part, closed}
use Rattle.shifting.specs.Offsets.{from_on}
use Rattle.parts.specs.Parts.{Rows, rows, begin, end, goes, sifted, sifting, cleared, cleared_rows, dropped, left, no_entry, no_words, no_floats}
use Rattle.parts.specs.Held.{Sized}
use Rattle.parts.proofs.Sifting.{sifted_none, past}
use Rattle.parts.proofs.Closing.{left_none, left_some, drop_none, drop_some}

module _ (m : Rows) (n t now : ℕ) (z : Sized m) (r : n ≤ length m.units) (h : begin m t ≤ end m t) (l : end m t ≤ n)
    (i : ℕ) (u : begin m t ≤ i) (v : i ≤ end m t) (still : None (goes m.slots m.units now) (begin m t) i) where
  abbrev f : ℕ
  f = length m.units - n

  past_them : sifted m.tags m.slots m.free m.units i (end m t) f now ≡ sifted m.tags m.slots m.free m.units (begin m t) (end m t) f now
  past_them = past m.tags m.slots m.free m.units (begin m t) i (end m t) f now u v (omega (arith, z.slots)) (omega (arith, z.tags)) (omega (arith, z.free)) still

  -- none is stale
  module _ (q : i ≡ end m t) where
    all_stay : sifting (end m t) m.tags m.slots m.free ≡ sifted m.tags m.slots m.free m.units (begin m t) (end m t) f now
    all_stay = sifted_none m.tags m.slots m.free m.units (end m t) f now ∙ ap (λ (k : ℕ). sifted m.tags m.slots m.free m.units k (end m t) f now) (sym q) ∙ past_them

    pub none_left : n ≡ left m n t now
    none_left = left_none m.tags m.slots m.offsets m.free m.units m.uses n t now h l r z.tags z.slots z.free (end m t) m.tags m.slots m.free all_stay refl

    pub none_dropped : m ≡ dropped m n t now
    none_dropped = drop_none m.tags m.slots m.offsets m.free m.units m.uses n t now h l r z.tags z.slots z.free (end m t) m.tags m.slots m.free all_stay refl refl refl

  -- some are: a, b and c are the lists after the pass, with the entries closed up, and with the rows cleared
  module _ (j : ℕ) (a b c : Rows) (e : sifting j a.tags a.slots a.free ≡ sifted m.tags m.slots m.free m.units i (end m t) f now) where
    pub some_left : n - (end m t - j) ≡ left m n t now
    some_left = left_some m.tags m.slots m.offsets m.free m.units m.uses n t now h l r z.tags z.slots z.free j a.tags a.slots a.free (e ∙ past_them)

    pub some_dropped : (os : List ℕ) → a.offsets ≡ m.offsets → a.units ≡ m.units → a.uses ≡ m.uses
        → b.tags ≡ closed a.tags j (end m t) n no_entry → b.slots ≡ closed a.slots j (end m t) n no_entry → b.free ≡ a.free → b.offsets ≡ a.offsets → b.units ≡ a.units → b.uses ≡ a.uses
        → c ≡ cleared_rows b f (f + (end m t - j)) → os ≡ from_on (λ (o : ℕ). o - (end m t - j)) c.offsets (t + 1)
        → rows c.tags c.slots os c.free c.units c.uses ≡ dropped m n t now
    unfolding cleared_rows
    some_dropped os a1 a2 a3 b1 b2 b3 b4 b5 b6 c1 o =
        ap (λ (x : List ℕ). rows c.tags c.slots os x c.units c.uses) (ap (λ (x : Rows). x.free) c1 ∙ b3)
        ∙ drop_some m.tags m.slots m.offsets m.free m.units m.uses n t now h l r z.tags z.slots z.free j a.tags a.slots a.free (e ∙ past_them) c.tags c.slots os c.units c.uses
        (ap (λ (x : Rows). x.tags) c1 ∙ b1) (ap (λ (x : Rows). x.slots) c1 ∙ b2)
        (ap (λ (x : Rows). x.units) c1 ∙ ap (λ (x : List ℕ). cleared no_words b.units (part x f (f + (end m t - j)))) b3 ∙ ap (λ (x : List (List ℕ)). cleared no_words x (part a.free f (f + (end m t - j)))) (b5 ∙ a2))
        (ap (λ (x : Rows). x.uses) c1 ∙ ap (λ (x : List ℕ). cleared no_floats b.uses (part x f (f + (end m t - j)))) b3 ∙ ap (λ (x : List (List Float)). cleared no_floats x (part a.free f (f + (end m t - j)))) (b6 ∙ a3))
        (o ∙ ap (λ (x : List ℕ). from_on (λ (y : ℕ). y - (end m t - j)) x (t + 1)) (ap (λ (x : Rows). x.offsets) c1 ∙ b4 ∙ a1))

-- the offsets are as they were until they are lowered
pub offsets_stay : (m a b c : Rows) (f k : ℕ) → a.offsets ≡ m.offsets → b.offsets ≡ a.offsets → c ≡ cleared_rows b f k → c.offsets ≡ m.offsets
unfolding cleared_rows
offsets_stay m a b c f k p q r = ap (λ (x : Rows). x.offsets) r ∙ q ∙ p
