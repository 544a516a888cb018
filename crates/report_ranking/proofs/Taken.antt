-- Sources taken for the keys that their words name: what they are taken for, and that none stands behind what it reads as. Assumes nothing.
use mathlib.Core.Path.{◌≡◌, refl, sym, ap, ◌∙◌}
use mathlib.Core.Bool.{Bool, true, false, cond, false≢true}
use mathlib.Core.Logic.{◌⊎◌, inl, inr}
use mathlib.Core.List.{List, [], ◌∷◌}
use Prim.Native.Nat.{ℕ, zero, suc, ◌<◌}
use native.Mathlib.Omega.{arith}
use borrow.Author.Tests.{eqb-true, eq-eqb, ne_eqb}
use lib.Dec.{eqb, ltb}
use lib.ListN.{length, get_or}
use Rattle.sender.specs.Sender.{tag_of_hash, hash_of, name_by_hash, name_of, words_of, unit_of, same_name, reads, is_overflow, Ranged}
use Rattle.sender.specs.declared.PublicKey.{PublicKey}
use Rattle.sender.specs.declared.Name.{Name}
use Rattle.sender.specs.declared.Group.{Group}
use Rattle.sender.specs.declared.Group.TheVariants.{V4, V6}
use Rattle.sender.specs.declared.Unit.{Unit}
use Rattle.sender.specs.declared.Unit.TheVariants.{Corroborated, Group as Grouped, NoAddress, Overflow}
use Rattle.sender.specs.declared.Words.{Words}
use Rattle.sender.proofs.Reading.{read_own, name_ext}
use Rattle.store.specs.Store.{words_at, name_at, unit_at}
use Rattle.report_ranking.specs.Taken.{key_in, key_tag, key_tags, taken, IsOwn}

-- ---- words that name a key
abbrev pub is_key : Unit → Bool
is_key (Corroborated k) = true
is_key (Grouped g) = false
is_key NoAddress = false
is_key Overflow = false

pub key_named : (w : Words) → eqb w.kind 0 ≡ true → unit_of w ≡ Corroborated (key_in w)
unfolding unit_of
key_named w e = simp e

neither : (t : Bool) (u v : Unit) → is_key u ≡ false → is_key v ≡ false → is_key (cond t u v) ≡ false
neither true u v e f = e
neither false u v e f = f

group_named : (t : Bool) (g : Group) → is_key (cond t (Grouped g) Overflow) ≡ false
group_named t g = neither t (Grouped g) Overflow refl refl

other_named : (w : Words) → eqb w.kind 0 ≡ false → is_key (unit_of w) ≡ false
unfolding unit_of
other_named w e =
    rw e
    (neither (eqb w.kind 1) _ _ (group_named (ltb w.a 65536) (V4 w.a))
    (neither (eqb w.kind 2) _ _ (group_named (ltb w.a 4294967296) (V6 w.a)) (neither (eqb w.kind 3) NoAddress Overflow refl refl)))

no_key : (u : Unit) (k : PublicKey) → is_key u ≡ false → u ≡ Corroborated k → ⊥
no_key u k e f = false≢true (sym e ∙ ap is_key f)

-- ---- the tags of keys
key_tag_at : (tags : List ℕ) (rows : List (List ℕ)) (i : ℕ) → i < length tags → i < length rows → get_or (key_tags tags rows) i 0 ≡ key_tag (get_or tags i 0) (get_or rows i [])
unfolding key_tags
key_tag_at [] rows i h g = absurd (omega arith)
key_tag_at (t ∷ tags) [] i h g = absurd (omega arith)
key_tag_at (t ∷ tags) (r ∷ rows) zero h g = refl
key_tag_at (t ∷ tags) (r ∷ rows) (suc i) h g = key_tag_at tags rows i (omega arith) (omega arith)

words_own : (n a b c d : ℕ) → n ≡ 0 → ◌≡◌ {A = Words} (record { kind = n; a = a; b = b; c = c; d = d }) (words_of (Corroborated (record { a = a; b = b; c = c; d = d })))
unfolding words_of
words_own n a b c d e = cc

own_words : (w : Words) → eqb w.kind 0 ≡ true → w ≡ words_of (Corroborated (key_in w))
own_words w e = words_own w.kind w.a w.b w.c w.d (eqb-true w.kind 0 e)

-- a record with a key's words and its tag is the key's
own_key : (tag : ℕ) (w : Words) → tag ≡ tag_of_hash (hash_of (Corroborated (key_in w))) → eqb w.kind 0 ≡ true → reads (record { tag = tag; words = w }) ≡ Corroborated (key_in w)
own_key tag w e f = ap reads (name_is tag w e f) ∙ read_own (Corroborated (key_in w)) (unfold Ranged in tt)
  where
    name_is : (tag : ℕ) (w : Words) → tag ≡ tag_of_hash (hash_of (Corroborated (key_in w))) → eqb w.kind 0 ≡ true → ◌≡◌ {A = Name} (record { tag = tag; words = w }) (name_of (Corroborated (key_in w)))
    name_is tag w e f = unfold name_by_hash in name_ext tag (tag_of_hash (hash_of (Corroborated (key_in w)))) w (words_of (Corroborated (key_in w))) e (own_words w f)

-- a record reads as the unit that its words name, or as overflow
read_as : (n : Name) → (reads n ≡ unit_of n.words) ⊎ (reads n ≡ Overflow)
unfolding reads
read_as n = by (same_name (name_of (unit_of n.words)) n)
  where
    by : (t : Bool) → (cond t (unit_of n.words) Overflow ≡ unit_of n.words) ⊎ (cond t (unit_of n.words) Overflow ≡ Overflow)
    by true = inl refl
    by false = inr refl

module _ (tags : List ℕ) (rows : List (List ℕ)) (i : ℕ) (h : i < length tags) (g : i < length rows) where
  key_tag_is : eqb (words_at rows i).kind 0 ≡ true → get_or (key_tags tags rows) i 0 ≡ tag_of_hash (hash_of (Corroborated (key_in (words_at rows i))))
  unfolding words_at key_tag
  key_tag_is e = key_tag_at tags rows i h g ∙ simp e

  other_tag_is : eqb (words_at rows i).kind 0 ≡ false → get_or (key_tags tags rows) i 0 ≡ get_or tags i 0
  unfolding words_at key_tag
  other_tag_is e = key_tag_at tags rows i h g ∙ simp e

  taken_key : eqb (words_at rows i).kind 0 ≡ true → unit_at (key_tags tags rows) rows i ≡ Corroborated (key_in (words_at rows i))
  unfolding unit_at
  taken_key e = own_key (get_or (key_tags tags rows) i 0) (words_at rows i) (key_tag_is e) e

  taken_other : eqb (words_at rows i).kind 0 ≡ false → unit_at (key_tags tags rows) rows i ≡ unit_at tags rows i
  unfolding unit_at
  taken_other e = ap (λ (tag : ℕ). reads (record { tag = tag; words = words_at rows i })) (other_tag_is e)

read_at : (tags : List ℕ) (rows : List (List ℕ)) (i : ℕ) → (unit_at tags rows i ≡ unit_of (words_at rows i)) ⊎ (unit_at tags rows i ≡ Overflow)
unfolding unit_at
read_at tags rows i = read_as (name_at tags rows i)

other_read : (tags : List ℕ) (rows : List (List ℕ)) (i : ℕ) → eqb (words_at rows i).kind 0 ≡ false → is_key (unit_at tags rows i) ≡ false
other_read tags rows i e = by (read_at tags rows i)
  where
    by : (unit_at tags rows i ≡ unit_of (words_at rows i)) ⊎ (unit_at tags rows i ≡ Overflow) → is_key (unit_at tags rows i) ≡ false
    by (inl q) = ap is_key q ∙ other_named (words_at rows i) e
    by (inr q) = ap is_key q

-- ---- what a source is taken for, by its words
module _ (tags : List ℕ) (rows : List (List ℕ)) (i : ℕ) (h : i < length tags) (g : i < length rows) (tagged : Bool) (t : tagged ≡ false) (w : Words) (s : w ≡ words_at rows i) where
  kind_at : (w.kind ≡ 0 → ⊥) → eqb (words_at rows i).kind 0 ≡ false
  kind_at f = ne_eqb (words_at rows i).kind 0 (λ e. f (ap (λ (v : Words). v.kind) s ∙ e))

  pub words_key : w.kind ≡ 0 → unit_at (taken tagged tags rows) rows i ≡ Corroborated (key_in w)
  unfolding taken
  words_key e = rw t (taken_key tags rows i h g (eq-eqb (words_at rows i).kind 0 (sym (ap (λ (v : Words). v.kind) s) ∙ e)) ∙ ap (λ (v : Words). Corroborated (key_in v)) (sym s))

  pub words_other : (w.kind ≡ 0 → ⊥) → unit_at (taken tagged tags rows) rows i ≡ unit_at tags rows i
  unfolding taken
  words_other f = rw t (taken_other tags rows i h g (kind_at f))

  pub words_unlike : (w.kind ≡ 0 → ⊥) → (k : PublicKey) → unit_at (taken tagged tags rows) rows i ≡ Corroborated k → ⊥
  words_unlike f k e = no_key (unit_at tags rows i) k (other_read tags rows i (kind_at f)) (sym (words_other f) ∙ e)

pub by_tags : (tags : List ℕ) (rows : List (List ℕ)) (i : ℕ) (tagged : Bool) → tagged ≡ true → unit_at (taken tagged tags rows) rows i ≡ unit_at tags rows i
unfolding taken
by_tags tags rows i tagged t = rw t refl

module _ (tags : List ℕ) (rows : List (List ℕ)) (i : ℕ) (h : i < length tags) (g : i < length rows) where
  -- ---- its own tag
  own_by : (b : Bool) → eqb (words_at rows i).kind 0 ≡ b → is_overflow (unit_at tags rows i) ≡ false → IsOwn (key_tags tags rows) tags rows i
  own_by true e f = taken_key tags rows i h g e ∙ sym (key_named (words_at rows i) e) ∙ sym (by (read_at tags rows i))
    where
      by : (unit_at tags rows i ≡ unit_of (words_at rows i)) ⊎ (unit_at tags rows i ≡ Overflow) → unit_at tags rows i ≡ unit_of (words_at rows i)
      by (inl q) = q
      by (inr q) = absurd (false≢true (sym f ∙ ap is_overflow q ∙ unfold is_overflow in refl))
  own_by false e f = taken_other tags rows i h g e

  pub own_key_read : is_overflow (unit_at tags rows i) ≡ false → IsOwn (taken false tags rows) tags rows i
  unfolding taken
  own_key_read f = own_by (eqb (words_at rows i).kind 0) refl f

  other_by : (b : Bool) → eqb (words_at rows i).kind 0 ≡ b → ((k : PublicKey) → unit_of (words_at rows i) ≡ Corroborated k → ⊥) → unit_at (key_tags tags rows) rows i ≡ unit_at tags rows i
  other_by true e f = absurd (f (key_in (words_at rows i)) (key_named (words_at rows i) e))
  other_by false e f = taken_other tags rows i h g e

  pub own_other : ((k : PublicKey) → unit_of (words_at rows i) ≡ Corroborated k → ⊥) → IsOwn (taken false tags rows) tags rows i
  unfolding taken
  own_other f = other_by (eqb (words_at rows i).kind 0) refl f

  -- ---- what it is taken for is what it reads as, or a key where it reads as overflow
  apart_by : (b : Bool) → eqb (words_at rows i).kind 0 ≡ b → (unit_at (key_tags tags rows) rows i ≡ unit_at tags rows i) ⊎ ((unit_at (key_tags tags rows) rows i ≡ Corroborated (key_in (words_at rows i))) × (unit_at tags rows i ≡ Overflow))
  apart_by false e = inl (taken_other tags rows i h g e)
  apart_by true e = by (read_at tags rows i)
    where
      by : (unit_at tags rows i ≡ unit_of (words_at rows i)) ⊎ (unit_at tags rows i ≡ Overflow) → (unit_at (key_tags tags rows) rows i ≡ unit_at tags rows i) ⊎ ((unit_at (key_tags tags rows) rows i ≡ Corroborated (key_in (words_at rows i))) × (unit_at tags rows i ≡ Overflow))
      by (inl q) = inl (taken_key tags rows i h g e ∙ sym (key_named (words_at rows i) e) ∙ sym q)
      by (inr q) = inr (taken_key tags rows i h g e, q)

  pub apart : (unit_at (key_tags tags rows) rows i ≡ unit_at tags rows i) ⊎ ((unit_at (key_tags tags rows) rows i ≡ Corroborated (key_in (words_at rows i))) × (unit_at tags rows i ≡ Overflow))
  apart = apart_by (eqb (words_at rows i).kind 0) refl
