-- Words and names that pass the tests are equal. Assumes nothing.
use mathlib.Core.Path.{◌≡◌, refl}
use mathlib.Core.Bool.{true}
use Prim.Native.Nat.{ℕ}
use lib.Dec.{eqb}
use borrow.Author.Tests.{eqb-true, eq-eqb}
use Rattle.std.proofs.lemmas.Bool.{and_parts}
use Rattle.sender.specs.Sender.{same, same_name}
use Rattle.sender.specs.declared.Words.{Words}
use Rattle.sender.specs.declared.Name.{Name}

words_ext : (a b c d e a' b' c' d' e' : ℕ) → a ≡ a' → b ≡ b' → c ≡ c' → d ≡ d' → e ≡ e' → ◌≡◌ {A = Words} (record { kind = a; a = b; b = c; c = d; d = e }) (record { kind = a'; a = b'; b = c'; c = d'; d = e' })
words_ext a b c d e a' b' c' d' e' p q r s t = cc

pub name_ext : (a a' : ℕ) (w w' : Words) → a ≡ a' → w ≡ w' → ◌≡◌ {A = Name} (record { tag = a; words = w }) (record { tag = a'; words = w' })
name_ext a a' w w' p q = cc

pub words_same : (v w : Words) → same v w ≡ true → v ≡ w
unfolding same
words_same v w e =
    let d = and_parts _ (eqb v.d w.d) e in
    let c = and_parts _ (eqb v.c w.c) d.0 in
    let b = and_parts _ (eqb v.b w.b) c.0 in
    let a = and_parts (eqb v.kind w.kind) (eqb v.a w.a) b.0 in
    words_ext v.kind v.a v.b v.c v.d w.kind w.a w.b w.c w.d
    (eqb-true v.kind w.kind a.0) (eqb-true v.a w.a a.1) (eqb-true v.b w.b b.1) (eqb-true v.c w.c c.1) (eqb-true v.d w.d d.1)

pub words_self : (v : Words) → same v v ≡ true
unfolding same
words_self v = simp (eq-eqb v.kind v.kind refl, eq-eqb v.a v.a refl, eq-eqb v.b v.b refl, eq-eqb v.c v.c refl, eq-eqb v.d v.d refl)

pub names_same : (m n : Name) → same_name m n ≡ true → m ≡ n
unfolding same_name
names_same m n e =
    let a = and_parts (eqb m.tag n.tag) (same m.words n.words) e in
    name_ext m.tag n.tag m.words n.words (eqb-true m.tag n.tag a.0) (words_same m.words n.words a.1)

pub names_self : (n : Name) → same_name n n ≡ true
unfolding same_name
names_self n = simp (eq-eqb n.tag n.tag refl, words_self n.words)
