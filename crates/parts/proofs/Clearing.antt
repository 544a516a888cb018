-- Rows cleared, one after the other. Assumes nothing.
use mathlib.Core.Path.{◌≡◌, refl, sym, ap, subst, ◌∙◌}
use mathlib.Core.List.{List, [], ◌∷◌, ◌++◌}
use Prim.Native.Nat.{ℕ, zero, suc, ◌+◌, ◌<◌, ◌≤◌}
use mathlib.Core.Bool.{Bool, cond}
use native.Mathlib.Omega.{arith}
use native.Mathlib.Decide.{dec_lt, ℕ_discrete}
use lib.Seq.{get_or-set_same, get_or-set_other}
use borrow.Author.Tests.{lt-ltb, le-ltb}
use lib.Ieee.{Float}
use lib.ListN.{length, get_or, set, length-set}
use Rattle.shifting.specs.Shifting.{part}
use Rattle.shifting.proofs.Laying.{part_none, part_more}
use Rattle.parts.specs.Parts.{Rows, rows, cleared, cleared_one, cleared_rows, slot_of, no_words, no_floats}

pub rows_same : (t t' s s' o o' f f' : List ℕ) (u u' : List (List ℕ)) (v v' : List (List Float)) → t ≡ t' → s ≡ s' → o ≡ o' → f ≡ f' → u ≡ u' → v ≡ v' → rows t s o f u v ≡ rows t' s' o' f' u' v'
rows_same t t' s s' o o' f f' u u' v v' a b c d e g = cc

pub clear_end : {A : Type 0} (z : A) (rows : List A) (es : List ℕ) (e : ℕ) → cleared z rows (es ++ (e ∷ [])) ≡ set (cleared z rows es) (slot_of e (length rows)) z
unfolding cleared
clear_end z rows [] e = refl
clear_end z rows (x ∷ es) e =
    clear_end z (set rows (slot_of x (length rows)) z) es e
    ∙ ap (λ (n : ℕ). set (cleared z (set rows (slot_of x (length rows)) z) es) (slot_of e n) z) (length-set rows (slot_of x (length rows)) z)

pub length_cleared : {A : Type 0} (z : A) (rows : List A) (es : List ℕ) → length (cleared z rows es) ≡ length rows
unfolding cleared
length_cleared z rows [] = refl
length_cleared z rows (x ∷ es) = length_cleared z (set rows (slot_of x (length rows)) z) es ∙ length-set rows (slot_of x (length rows)) z

unfoldable pub clearing : {A : Type 0} → A → List A → List ℕ → ℕ → ℕ → List A
clearing z rows fs a k = cleared z rows (part fs a k)

pub clear_none : {A : Type 0} (z : A) (rows : List A) (fs : List ℕ) (a : ℕ) → rows ≡ clearing z rows fs a a
unfolding clearing cleared
clear_none z rows fs a = sym (ap (cleared z rows) (part_none fs a))

pub length_clearing : {A : Type 0} (z : A) (rows : List A) (fs : List ℕ) (a k : ℕ) → length (clearing z rows fs a k) ≡ length rows
unfolding clearing
length_clearing z rows fs a k = length_cleared z rows (part fs a k)

pub clear_turn : {A : Type 0} (z : A) (rows : List A) (fs : List ℕ) (a k s : ℕ) → a ≤ k → k < length fs → s ≡ slot_of (get_or fs k 0) (length rows) → set (clearing z rows fs a k) s z ≡ clearing z rows fs a (k + 1)
unfolding clearing
clear_turn z rows fs a k s h l e =
    ap (λ (n : ℕ). set (cleared z rows (part fs a k)) n z) e ∙ sym (clear_end z rows (part fs a k) (get_or fs k 0)) ∙ sym (ap (cleared z rows) (part_more 0 fs a k h l))

pub rows_none : (m : Rows) (a : ℕ) → m ≡ cleared_rows m a a
unfolding cleared_rows clearing
rows_none m a = rows_same _ _ _ _ _ _ _ _ _ _ _ _ refl refl refl refl (clear_none no_words m.units m.free a) (clear_none no_floats m.uses m.free a)

pub rows_turn : (m : Rows) (a k : ℕ) → a ≤ k → k < length m.free → length m.uses ≡ length m.units → cleared_one (cleared_rows m a k) k ≡ cleared_rows m a (k + 1)
unfolding cleared_rows clearing
rows_turn m a k h l e =
    let z : length (cleared no_words m.units (part m.free a k)) ≡ length m.units = length_cleared no_words m.units (part m.free a k) in
    rows_same _ _ _ _ _ _ _ _ _ _ _ _ refl refl refl refl
    (clear_turn no_words m.units m.free a k _ h l (ap (slot_of (get_or m.free k 0)) z))
    (clear_turn no_floats m.uses m.free a k _ h l (ap (slot_of (get_or m.free k 0)) (z ∙ sym e)))

-- ---- what the entries name is zero bits then
slot_below : (e room : ℕ) → 0 < room → slot_of e room < room
slot_below e room h = elim (dec_lt e room) [
  | yes l ↦ subst (λ (b : Bool). cond b e 0 < room) (sym (lt-ltb e room l)) l
  | no l ↦ subst (λ (b : Bool). cond b e 0 < room) (sym (le-ltb e room (omega arith))) h
]

stays_clear : {A : Type 0} (d z : A) (rows : List A) (es : List ℕ) (y : ℕ) → y < length rows → get_or rows y d ≡ z → get_or (cleared z rows es) y d ≡ z
unfolding cleared
stays_clear d z rows [] y l e = e
stays_clear d z rows (x ∷ es) y l e =
    stays_clear d z (set rows (slot_of x (length rows)) z) es y (omega (arith, length-set rows (slot_of x (length rows)) z))
    (elim (ℕ_discrete y (slot_of x (length rows))) [
      | yes q ↦ subst (λ (k : ℕ). get_or (set rows k z) y d ≡ z) q (get_or-set_same rows y z d l)
      | no q ↦ get_or-set_other rows (slot_of x (length rows)) y z d q ∙ e
    ])

pub cleared_there : {A : Type 0} (d z : A) (rows : List A) (es : List ℕ) (k : ℕ) → 0 < length rows → k < length es → get_or (cleared z rows es) (slot_of (get_or es k 0) (length rows)) d ≡ z
unfolding cleared
cleared_there d z rows [] k h l = absurd (omega arith)
cleared_there d z rows (x ∷ es) zero h l =
    let y = slot_of x (length rows) in
    let b = slot_below x (length rows) h in
    stays_clear d z (set rows y z) es y (omega (arith, length-set rows y z)) (get_or-set_same rows y z d b)
cleared_there d z rows (x ∷ es) (suc k) h l =
    let u = length-set rows (slot_of x (length rows)) z in
    subst (λ (n : ℕ). get_or (cleared z (set rows (slot_of x (length rows)) z) es) (slot_of (get_or es k 0) n) d ≡ z) u
    (cleared_there d z (set rows (slot_of x (length rows)) z) es k (omega arith) (omega arith))
