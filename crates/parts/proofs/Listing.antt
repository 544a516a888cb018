-- The store as one list of records, and the slots that its entries name. Assumes nothing.
use mathlib.Core.Path.{◌≡◌, refl, sym, ap, ◌∙◌}
use mathlib.Core.Bool.{Bool, true, false, cond}
use mathlib.Core.List.{List, [], ◌∷◌}
use Prim.Native.Nat.{ℕ, zero, suc, ◌-◌, ◌<◌, ◌≤◌}
use native.Mathlib.Omega.{arith}
use native.Mathlib.Decide.{dec_le}
use lib.Dec.{ltb}
use lib.Ieee.{Float}
use lib.ListN.{length, get_or, set, take, length-append, length-set, get_or-append}
use lib.Seq.{get_or-take, length-take-le, get_or-set_other}
use borrow.Author.Tests.{lt-ltb, ltb-true}
use Rattle.store.specs.Store.{Record}
use Rattle.shifting.proofs.Places.{later}
use Rattle.parts.specs.Parts.{Rows, cleared, slot_of, slot_at}
use Rattle.parts.specs.Laws.{one_if, times, standing, Once, record_at, listed}
use Rattle.parts.proofs.Slots.{stands}

pub length_listed : (s : Rows) (n : ℕ) → length (listed s n) ≡ n
unfolding listed
length_listed s zero = refl
length_listed s (suc n) = omega (arith, length-append (listed s n) (record_at s n ∷ []), length_listed s n)

pub listed_at : (d : Record) (s : Rows) (n k : ℕ) → k < n → get_or (listed s n) k d ≡ record_at s k
unfolding listed
listed_at d s zero k h = absurd (omega arith)
listed_at d s (suc n) k h = elim (dec_le n k) [
  | yes a ↦ (let e : k ≡ n = omega arith in
      let z : k - n ≡ 0 = omega arith in
      later d (listed s n) (record_at s n ∷ []) n k (length_listed s n) a ∙ ap (λ (i : ℕ). get_or (record_at s n ∷ []) i d) z ∙ sym (ap (record_at s) e))
  | no a ↦ get_or-append (listed s n) (record_at s n ∷ []) d k (omega (arith, length_listed s n)) ∙ listed_at d s n k (omega arith)
]

abbrev pub a_record : ℕ → List ℕ → List Float → Record
a_record tag words floats = record { tag = tag; words = words; floats = floats }

pub no_record : Record
no_record = a_record 0 [] []

pub same_record : (a a' : ℕ) (b b' : List ℕ) (c c' : List Float) → a ≡ a' → b ≡ b' → c ≡ c' → a_record a b c ≡ a_record a' b' c'
same_record a a' b b' c c' p q r = cc

-- ---- slots
pub one_if_low : (b : Bool) → 1 ≤ one_if b → b ≡ true
one_if_low true h = refl
one_if_low false h = absurd (omega arith)

pub one_if_high : (b : Bool) → one_if b ≤ 1
one_if_high true = omega arith
one_if_high false = omega arith

module _ (s : Rows) (n : ℕ) (o : Once s n) where
  pub few : (x : ℕ) → standing s n x ≤ 1
  few x = omega (arith, o x, one_if_high (ltb x (length s.units)))

  pub low : (x : ℕ) → 1 ≤ standing s n x → x < length s.units
  low x h = ltb-true x (length s.units) (one_if_low (ltb x (length s.units)) (omega (arith, o x)))

  pub live : (k : ℕ) → k < n → n ≤ length s.slots → 1 ≤ times (get_or s.slots k 0) (take n s.slots)
  live k h l = stands (get_or s.slots k 0) (take n s.slots) k (omega (arith, length-take-le n s.slots l)) (get_or-take n s.slots k 0 h)

  pub own : (k : ℕ) → k < n → n ≤ length s.slots → slot_at s k ≡ get_or s.slots k 0
  own k h l = ap (λ (b : Bool). cond b (get_or s.slots k 0) 0) (lt-ltb (get_or s.slots k 0) (length s.units) (low (get_or s.slots k 0) (omega (arith, live k h l))))

  pub slot_low : (k : ℕ) → k < n → n ≤ length s.slots → slot_at s k < length s.units
  slot_low k h l = omega (arith, own k h l, low (get_or s.slots k 0) (omega (arith, live k h l)))

-- ---- a row that is not cleared
pub cleared_other : {A : Type 0} (d z : A) (rows : List A) (es : List ℕ) (y : ℕ) → ((j : ℕ) → j < length es → y ≡ slot_of (get_or es j 0) (length rows) → ⊥) → get_or (cleared z rows es) y d ≡ get_or rows y d
unfolding cleared
cleared_other d z rows [] y h = refl
cleared_other d z rows (e ∷ es) y h =
    cleared_other d z (set rows (slot_of e (length rows)) z) es y (λ j l q. h (suc j) (omega arith) (q ∙ ap (slot_of (get_or es j 0)) (length-set rows (slot_of e (length rows)) z)))
    ∙ get_or-set_other rows (slot_of e (length rows)) y z d (h 0 (omega arith))
