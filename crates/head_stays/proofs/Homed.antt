-- The store stays well, its records named by units, and a search gives the first record that reads as its unit. Assumes nothing.
use mathlib.Core.Path.{◌≡◌, refl, sym, ap, subst, ◌∙◌}
use mathlib.Core.Bool.{Bool, true, false, ◌&&◌}
use mathlib.Core.List.{List, ◌++◌}
use Prim.Native.Nat.{ℕ, zero, suc, ◌+◌, ◌≤◌, ◌<◌}
use native.Mathlib.Numerals.{add-one}
use native.Mathlib.Omega.{arith}
use native.Mathlib.Decide.{dec_le}
use lib.Dec.{eqb}
use lib.ListN.{length, get_or, set, take, length-append, get_or-append}
use lib.Seq.{length-take-le, get_or-take, get_or-set_other}
use borrow.Author.Tests.{eqb-true, eq-eqb}
use Rattle.std.specs.Prelude.{⊤}
use Rattle.std.proofs.lemmas.Bool.{and_parts}
use Rattle.flow.specs.declared.Use.{Use}
use Rattle.sender.specs.declared.Unit.{Unit}
use Rattle.sender.specs.declared.Name.{Name}
use Rattle.sender.specs.Sender.{Tells, Ranged, name_of, is_overflow, table_of_tag, same_name, same, reads}
use Rattle.sender.proofs.Naming.{name_injective}
use Rattle.sender.proofs.Reading.{read_own, read_only, names_same, names_self, name_ext, words_same, words_self}
use Rattle.shifting.specs.Offsets.{Whole}
use Rattle.shifting.proofs.Whole.{whole_below}
use Rattle.store.specs.Store.{Record, with_tags, words_at, has_tag, first}
use Rattle.store.specs.Found.{found}
use Rattle.store.specs.Held.{sizes_of}
use Rattle.parts.specs.Parts.{Rows, is_at, find, slot_at}
use Rattle.parts.specs.Laws.{Well, Every, record_at, with_use}
use Rattle.parts.proofs.Laws.{comes, puts, leave}
use Rattle.parts.proofs.Begun.{starts}
use Rattle.parts.proofs.Searching.{searches, lies}
use Rattle.wants.specs.Wants.{Hist}
use Rattle.head.specs.declared.Shedder.{Shedder}
use Rattle.head.specs.Questions.{start_asked}
use Rattle.head.specs.Start.{start}
use Rattle.store_entry.specs.Own.{name_at, At}
use Rattle.store_entry.proofs.Own.{table_below, named_is, is_named}
use Rattle.head_stays.specs.Homed.{Known, Lasts, Same, reads_as, Homes}
use Rattle.head_stays.proofs.Lasting.{Steps, lasts}

-- ---- other tags behind those of the unit records
module _ (m : Rows) (n : ℕ) (ts : List ℕ) (w : Well m n) where
  abbrev B : Rows
  B = with_tags m (take (length m.units) m.tags ++ ts)

  tag_same : (k : ℕ) → k < n → get_or B.tags k 0 ≡ get_or m.tags k 0
  tag_same k l =
      let s = w.sound in
      let z = s.sized.tags in
      let r = s.room in
      get_or-append (take (length m.units) m.tags) ts 0 k (omega (arith, length-take-le (length m.units) m.tags z)) ∙ get_or-take (length m.units) m.tags k 0 (omega arith)

  behind_well : Well B n
  behind_well =
      let s = w.sound in
      let z = s.sized in
      let t = z.tags in
      record {
        sound = record {
          sized = record { some = z.some; most = z.most; tags = omega (arith, length-append (take (length m.units) m.tags) ts, length-take-le (length m.units) m.tags t); slots = z.slots; free = z.free; uses = z.uses };
          room = s.room;
          offsets = s.offsets;
          whole = s.whole;
          once = s.once;
        };
        homed = λ table k l p q.
            let b = whole_below m.offsets n s.whole (table + 1) (omega arith) in
            ap table_of_tag (tag_same k (omega (arith, q, b))) ∙ w.homed table k l p q;
      }

  behind_at : (k : ℕ) → k < n → record_at B k ≡ record_at m k
  unfolding record_at
  behind_at k l = rw (tag_same k l) refl

-- ---- that the store is well
steps_well : Steps (λ u. ⊤) Well
steps_well = record {
  well = λ m n w. w;
  starts = λ m z. (starts m z).well;
  comes = λ m n u x w l o q. (comes m n (name_of u) x w.sound l (table_below u)).well w.homed;
  puts = λ m n k x w l. (puts m n k x w.sound l).well w.homed;
  leaves = λ m n t at_ms w l. (leave m n t at_ms w.sound l).well w.homed;
  behind = λ m n ts w. behind_well m n ts w;
}

-- ---- that each record has the name of a unit
-- the name that a record has
abbrev name_in : Record → Name
name_in r = record { tag = r.tag; words = record { kind = get_or r.words 0 0; a = get_or r.words 1 0; b = get_or r.words 2 0; c = get_or r.words 3 0; d = get_or r.words 4 0 } }

name_is : (m : Rows) (k : ℕ) → name_at m k ≡ name_in (record_at m k)
unfolding words_at record_at
name_is m k = refl

module _ (Q : Unit → Type 0) where
  record Told (r : Record) : Type 0 where
    pub unit : Unit
    pub own : is_overflow unit ≡ false
    pub holds : Q unit
    pub named : name_in r ≡ name_of unit

  -- a use changes words 5 and 6 alone
  name_with : (r : Record) (x : Use) → name_in (with_use r x) ≡ name_in r
  unfolding with_use
  name_with r x =
      let five : List ℕ = set r.words 5 x.at_ms in
      let g = λ (i : ℕ) (l : i < 5). get_or-set_other five 6 i x.fresh 0 (λ e. absurd (omega arith)) ∙ get_or-set_other r.words 5 i x.at_ms 0 (λ e. absurd (omega arith)) in
      simp (g 0 (omega arith), g 1 (omega arith), g 2 (omega arith), g 3 (omega arith), g 4 (omega arith))

  told_with : (r : Record) (x : Use) → Told r → Told (with_use r x)
  told_with r x t = record { unit = t.unit; own = t.own; holds = t.holds; named = name_with r x ∙ t.named }

  record Tells-all (m : Rows) (n : ℕ) : Type 0 where
    pub well : Well m n
    pub all : Every Told m n

  steps_told : Steps Q Tells-all
  steps_told = record {
    well = λ m n w. w.well;
    starts = λ m z. record { well = (starts m z).well; all = λ k l. absurd (omega arith) };
    comes = λ m n u x w l o q.
        let a = comes m n (name_of u) x w.well.sound l (table_below u) in
        record { well = a.well w.well.homed; all = a.every Told (record { unit = u; own = o; holds = q; named = refl }) w.all };
    puts = λ m n k x w l.
        let a = puts m n k x w.well.sound l in
        record { well = a.well w.well.homed; all = a.every Told (told_with (record_at m k) x (w.all k l)) w.all };
    leaves = λ m n t at_ms w l.
        let a = leave m n t at_ms w.well.sound l in
        record { well = a.well w.well.homed; all = a.every Told w.all };
    behind = λ m n ts w. record { well = behind_well m n ts w.well; all = λ k l. subst Told (sym (behind_at m n ts w.well k l)) (w.all k l) };
  }

  to_known : (m : Rows) (n : ℕ) → Tells-all m n → Known Q m n
  to_known m n w = record { well = w.well; named = λ k l. let t = w.all k l in record { unit = t.unit; own = t.own; holds = t.holds; named = name_is m k ∙ t.named } }

  of_known : (m : Rows) (n : ℕ) → Known Q m n → Tells-all m n
  of_known m n w = record { well = w.well; all = λ k l. let t = w.named k l in record { unit = t.unit; own = t.own; holds = t.holds; named = sym (name_is m k) ∙ t.named } }

  known : Lasts Q (Known Q)
  known =
      let s = lasts Q Tells-all steps_told in
      record {
        start = λ h m k g rate ceiling e. to_known _ _ (s.start h m k g rate ceiling e);
        judge = λ h m u cost stamp q w. to_known _ _ (s.judge h m u cost stamp q (of_known m.rows _ w));
        cut = λ h m k u c cost q w. to_known _ _ (s.cut h m k u c cost q (of_known m _ w));
        rates = λ h m k rate ceiling stamp w. to_known _ _ (s.rates h m k rate ceiling stamp (of_known m _ w));
      }

-- ---- a refused start
refused : (h : Shedder) (m : Rows) (k : List (List ℕ)) (g : Hist) (rate ceiling : List ℕ) → (start_asked rate (sizes_of m k) ≡ 0 → ⊥) → Same h m (start h m k g rate ceiling).head (start h m k g rate ceiling).rows
unfolding start
refused h m k g rate ceiling n = go (eqb (start_asked rate (sizes_of m k)) 0) refl
  where
    go : (b : Bool) → eqb (start_asked rate (sizes_of m k)) 0 ≡ b → Same h m (start h m k g rate ceiling).head (start h m k g rate ceiling).rows
    go true e = absurd (n (eqb-true (start_asked rate (sizes_of m k)) 0 e))
    go false e = rw e (refl, refl)

-- ---- each record lies in the part of its unit's table
home : (Q : Unit → Type 0) (m : Rows) (n k : ℕ) (s : Known Q m n) (l : k < n) → At m (s.named k l).unit k
home Q m n k s l =
    let b = s.named k l in
    let w = s.well in
    let r = lies m.offsets n k w.sound.whole l in
    let z : r.0 ≡ table_of_tag (name_of b.unit).tag = sym (w.homed r.0 k r.1 r.2 r.3) ∙ ap (λ (x : Name). table_of_tag x.tag) b.named in
    record { low = subst (λ (t : ℕ). get_or m.offsets t 0 ≤ k) z r.2; high = subst (λ (t : ℕ). k < get_or m.offsets (t + 1) 0) z r.3; named = b.named }

-- ---- what a record reads as
read : (m : Rows) (n k : ℕ) (s : Known Ranged m n) (l : k < n) → reads (name_at m k) ≡ (s.named k l).unit
read m n k s l = let b = s.named k l in ap reads b.named ∙ read_own b.unit b.holds

tells : (m : Rows) (u : Unit) (k : ℕ) → Tells (reads_as m u k) (reads (name_at m k) ≡ u)
tells m u k = record {
  shows = λ e. name_injective (reads (name_at m k)) u (names_same (name_of (reads (name_at m k))) (name_of u) e);
  shown = λ e. ap (λ (v : Unit). same_name (name_of v) (name_of u)) e ∙ names_self (name_of u);
}

-- ---- the search: a record passes its test exactly if it has the name, and so exactly if it reads as the unit
alike : (b c : Bool) → (b ≡ true → c ≡ true) → (c ≡ true → b ≡ true) → b ≡ c
alike true c f g = sym (f refl)
alike false true f g = g refl
alike false false f g = refl

first_same : (p q : ℕ → Bool) → ((k : ℕ) → p k ≡ q k) → (n : ℕ) → first p n ≡ first q n
unfolding first
first_same p q e zero = refl
first_same p q e (suc n) = simp (first_same p q e n, e n)

search : (m : Rows) (n : ℕ) (u : Unit) → Ranged u → is_overflow u ≡ false → Well m n → find m (name_of u) ≡ found n (first (reads_as m u) n)
search m n u r o w =
    (searches m n (name_of u) w.sound.whole (table_below u)).everywhere w.homed
    ∙ ap (found n) (first_same (is_at m (name_of u)) (reads_as m u) (λ k. alike _ _ (λ e. (tells m u k).shown (ap reads (is_named m (name_of u) k e) ∙ read_own u r))
    (λ e. named_is m (name_of u) k (read_only u (name_at m k) o ((tells m u k).shows e)))) n)

pub homes : Homes
homes = record { well = lasts (λ u. ⊤) Well steps_well; known = known; refused = refused; home = home; read = read; tells = tells; search = search }
