-- What holds of the rows from a start on, whatever comes in, is put back or is dropped, holds after every call. Assumes nothing.
use mathlib.Core.Path.{◌≡◌, refl, sym, subst, ◌∙◌}
use mathlib.Core.Bool.{Bool, true, false, cond, ◌&&◌}
use mathlib.Core.List.{List, ◌++◌}
use Prim.Native.Nat.{ℕ, ◌+◌, ◌≤◌, ◌<◌, max}
use native.Mathlib.Omega.{arith}
use lib.Dec.{eqb, leb, ltb}
use lib.Ieee.{Float}
use lib.ListN.{length, get_or, take}
use borrow.Author.Tests.{eqb-true, eq-eqb, leb-true, lt-ltb, le-ltb, ltb-true, ltb-false}
use Rattle.std.specs.Prelude.{Option, Some, None, IfSome}
use Rattle.std.proofs.lemmas.Bool.{and_parts}
use Rattle.flow.specs.Flow as flow
use Rattle.flow.specs.Flow.{numbers}
use Rattle.flow.specs.declared.Use.{Use}
use Rattle.sender.specs.declared.Unit.{Unit}
use Rattle.sender.specs.declared.Name.{Name}
use Rattle.sender.specs.Sender.{name_of, is_overflow, table_of_tag}
use Rattle.shifting.specs.Offsets.{«PARTS»}
use Rattle.shifting.proofs.Whole.{whole_below}
use Rattle.store.specs.declared.lent.Sizes.{Sizes}
use Rattle.store.specs.Store.{with_tags}
use Rattle.store.specs.Held.{sizes_of}
use Rattle.store.specs.declared.Cause.{Cause}
use Rattle.parts.specs.Parts.{Rows, begin, end, is_at, find, put, added, dropped, left, started}
use Rattle.parts.specs.Held.{Sized}
use Rattle.parts.specs.Laws.{Well}
use Rattle.parts.proofs.Searching.{searches}
use Rattle.wants.specs.Wants.{Hist}
use Rattle.wants.specs.Wants as wants
use Rattle.verdict.specs.Verdict.{is_admitted}
use Rattle.verdict.specs.declared.Verdict.{Verdict}
use Rattle.head.specs.declared.Shedder.{Shedder}
use Rattle.head.specs.Questions.{is_unbounded, rates_whole, sizes_whole, tags_whole, slots_whole, rooms_whole, start_asked, judge_asked, cut_asked, whole_with}
use Rattle.head.specs.Start.{opening, start}
use Rattle.head.specs.Readings.{index_of}
use Rattle.head.proofs.Tests.{zero_yes, no_yes}
use Rattle.head.proofs.Whole.{tables_sum}
use Rattle.head.proofs.Asked.{asked_ready, cut_ready}
use Rattle.store_entry.specs.Entering.{Entered, entered, place, entry, used_at, back, put_back}
use Rattle.store_entry.proofs.Own.{table_below}
use Rattle.cut_sources.specs.Counted as counts
use Rattle.cut_counts.specs.Counting.{Tally, tally, source_tags, cause_of, tallied, count_verdict}
use Rattle.cut_counts.specs.Counting as counting
use Rattle.scan_trim.specs.Trimming.{trimmed}
use Rattle.scan.specs.Scanning.{Scanning, scanning, scanned, visited, visit, again, ended, ended_at, opened, begun, scanned_from}
use Rattle.scan.specs.Scanning as scan
use Rattle.judge.specs.Judging.{outcome_at, judged, Memory, Judged, bounded, judge}
use Rattle.cut.specs.Cutting.{KeptBy, kept_by, hands_back, handed_back, Cut, noted, cut_after, cut}
use Rattle.head_stays.proofs.Whole.{Kept, judge_memory, memory_counted}
use Rattle.head_stays.proofs.Stays.{judged_kept, handed_kept, counted_kept, judged_room, latest, kept_of}
use Rattle.head_stays.proofs.Rates.{rates_hold}
use Rattle.head_stays.specs.Homed.{Lasts}

-- ---- what a start is asked shows that the lists have the lengths of a room
sized_asked : (rate : List ℕ) (m : Rows) (k : List (List ℕ)) → start_asked rate (sizes_of m k) ≡ 0 → Sized m
unfolding start_asked sizes_whole tags_whole slots_whole rooms_whole
sized_asked rate m k e =
    let a = zero_yes (rates_whole rate) _ 0 e in
    let b = zero_yes (sizes_whole (sizes_of m k)) 0 1 a.1 in
    let c = and_parts (eqb (length m.tags) (length m.units + length k)) _ b.0 in
    let d = and_parts (slots_whole (sizes_of m k)) (rooms_whole (length m.units) (length k) 0 0) c.1 in
    let f = and_parts (eqb (length m.slots) (length m.units)) (eqb (length m.free) (length m.units) && eqb (length m.uses) (length m.units)) d.0 in
    let g = and_parts (eqb (length m.free) (length m.units)) (eqb (length m.uses) (length m.units)) f.1 in
    let x = no_yes (ltb (length m.units) 1) _ d.1 in
    let y = no_yes (ltb 131072 (length m.units)) _ x.1 in
    record {
      some = ltb-false (length m.units) 1 x.0;
      most = ltb-false 131072 (length m.units) y.0;
      tags = omega (arith, eqb-true (length m.tags) (length m.units + length k) c.0);
      slots = eqb-true (length m.slots) (length m.units) f.0;
      free = eqb-true (length m.free) (length m.units) g.0;
      uses = eqb-true (length m.uses) (length m.units) g.1;
    }

-- a call that is not refused found the head whole
judge_whole : (h : Shedder) (s : Sizes) (os cost : List ℕ) (stamp : ℕ) → judge_asked h s os cost stamp ≡ 0 → whole_with h os ≡ true
unfolding judge_asked
judge_whole h s os cost stamp e = (zero_yes (whole_with h os) _ 2 e).0

cut_whole : (h : Shedder) (s : Sizes) (os cost : List ℕ) → cut_asked h s os cost ≡ 0 → whole_with h os ≡ true
unfolding cut_asked
cut_whole h s os cost e = (zero_yes (whole_with h os) _ 2 e).0

-- the steps over which it has to hold; Q holds of a unit whose record comes in
pub record Steps (Q : Unit → Type 0) (P : Rows → ℕ → Type 0) : Type 0 where
  pub well : (m : Rows) (n : ℕ) → P m n → Well m n
  pub starts : (m : Rows) → Sized m → P (started m) 0
  pub comes : (m : Rows) (n : ℕ) (u : Unit) (x : Use) → P m n → n < length m.units → is_overflow u ≡ false → Q u → P (added m n (name_of u) x) (n + 1)
  pub puts : (m : Rows) (n k : ℕ) (x : Use) → P m n → k < n → P (put m k x) n
  pub leaves : (m : Rows) (n table at_ms : ℕ) → P m n → table < «PARTS» → P (dropped m n table at_ms) (left m n table at_ms)
  pub behind : (m : Rows) (n : ℕ) (ts : List ℕ) → P m n → P (with_tags m (take (length m.units) m.tags ++ ts)) n

module _ (Q : Unit → Type 0) (P : Rows → ℕ → Type 0) (s : Steps Q P) where
  -- ---- the record that a call uses: a live one, or none
  record Given (e : Entered) : Type 0 where
    pub holds : P e.rows e.place.tracked
    pub live : ltb e.place.at (length e.rows.units) ≡ true → e.place.at < e.place.tracked

  module _ (m : Rows) (n room : ℕ) (u : Unit) (now : ℕ) (p : P m n) (r : length m.units ≡ room) where
    none_given : Given (entered (place room n) m)
    none_given = record { holds = p; live = λ e. absurd (omega (arith, r, ltb-true room (length m.units) e)) }

    inside : (o : Option ℕ) → find m (name_of u) ≡ o → IfSome o (λ i. i < n)
    inside None e = tt
    inside (Some i) e =
        let w = s.well m n p in
        let z = subst (λ (o : Option ℕ). IfSome o (λ i. (begin m (table_of_tag (name_of u).tag) ≤ i) × (i < end m (table_of_tag (name_of u).tag)) × (is_at m (name_of u) i ≡ true))) e (searches m n (name_of u) w.sound.whole (table_below u)).inside in
        omega (arith, z.1, whole_below m.offsets n w.sound.whole (table_of_tag (name_of u).tag + 1) (omega (arith, table_below u)))

    new_given : is_overflow u ≡ false → Q u → n < room → Given (entered (place (end m (table_of_tag (name_of u).tag)) (n + 1)) (added m n (name_of u) (flow.added now)))
    new_given o q l =
        let w = s.well m n p in
        record {
          holds = s.comes m n u (flow.added now) p (omega (arith, r)) o q;
          live = λ e. omega (arith, whole_below m.offsets n w.sound.whole (table_of_tag (name_of u).tag + 1) (omega (arith, table_below u)));
        }

    by_shared : is_overflow u ≡ true → entered (place room n) m ≡ entry m n room u now
    unfolding entry
    by_shared e = simp e

    by_found : is_overflow u ≡ false → (i : ℕ) → find m (name_of u) ≡ Some i → i < room → entered (place i n) m ≡ entry m n room u now
    unfolding entry
    by_found e i g l = simp (e, g, lt-ltb i room l)

    by_added : is_overflow u ≡ false → find m (name_of u) ≡ None → n < room → entered (place (end m (table_of_tag (name_of u).tag)) (n + 1)) (added m n (name_of u) (flow.added now)) ≡ entry m n room u now
    unfolding entry
    by_added e g l = simp (e, g, le-ltb room room (omega arith), lt-ltb n room l)

    by_full : is_overflow u ≡ false → find m (name_of u) ≡ None → room ≤ n → entered (place room n) m ≡ entry m n room u now
    unfolding entry
    by_full e g l = simp (e, g, le-ltb room room (omega arith), le-ltb n room l)

    entry_given : Q u → Given (entry m n room u now)
    entry_given q = by (is_overflow u) refl (find m (name_of u)) refl (ltb n room) refl
      where
        by : (a : Bool) → is_overflow u ≡ a → (f : Option ℕ) → find m (name_of u) ≡ f → (d : Bool) → ltb n room ≡ d → Given (entry m n room u now)
        by true e f g d h = subst Given (by_shared e) none_given
        by false e (Some i) g d h =
            let l = inside (Some i) g in
            let w = s.well m n p in
            subst Given (by_found e i g (omega (arith, l, r, w.sound.room))) (record { holds = p; live = λ z. l })
        by false e None g true h = subst Given (by_added e g (ltb-true n room h)) (new_given e q (ltb-true n room h))
        by false e None g false h = subst Given (by_full e g (ltb-false n room h)) none_given

  back_holds : (e : Entered) (o x : Use) → Given e → P (put_back e.rows o e.place.at x).rows e.place.tracked
  unfolding put_back
  back_holds e o x g = go (ltb e.place.at (length e.rows.units)) refl
    where
      go : (b : Bool) → ltb e.place.at (length e.rows.units) ≡ b → P (cond b (back o (put e.rows e.place.at x)) (back x e.rows)).rows e.place.tracked
      go true z = s.puts e.rows e.place.tracked e.place.at x g.holds (g.live z)
      go false z = g.holds

  judged_holds : (h : Shedder) (m : Rows) (u : Unit) (cost : List Float) (now : ℕ) → Q u → P m h.tracked → length m.units ≡ h.unit_room → P (judged h m u cost now).rows (judged h m u cost now).head.tracked
  unfolding judged
  judged_holds h m u cost now q p r =
      let e = entry m h.tracked h.unit_room u now in
      back_holds e h.overflow (outcome_at h u cost now e).used (entry_given m h.tracked h.unit_room u now p r q)

  handed_holds : (h : Shedder) (m : Rows) (u : Unit) (cost : List Float) → Q u → P m h.tracked → length m.units ≡ h.unit_room → P (handed_back (kept_by h m) u cost).rows (handed_back (kept_by h m) u cost).head.tracked
  unfolding handed_back
  handed_holds h m u cost q p r =
      let e = entry m h.tracked h.unit_room u h.flow.at_ms in
      back_holds e h.overflow (flow.handed_back (used_at e.rows h.overflow e.place.at) cost) (entry_given m h.tracked h.unit_room u h.flow.at_ms p r q)

  -- ---- the counts: other tags behind those of the unit records
  tallied_holds : (h : Shedder) (m : Rows) (k : List (List ℕ)) (n : Name) (cause receptions : ℕ) → P m h.tracked → length m.units ≡ h.unit_room
      → P (with_tags m (tallied (tally h m.tags k) n cause receptions).tags) (tallied (tally h m.tags k) n cause receptions).head.tracked
  unfolding tallied counting.added
  tallied_holds h m k n cause receptions p r =
      let own : List ℕ = source_tags (tally h m.tags k) in
      let ts = counts.pruned_tags (counts.count own k h.counted n cause) (counts.count_tags own k h.counted n) in
      subst (λ (i : ℕ). P (with_tags m (take i m.tags ++ ts)) h.tracked) r (s.behind m h.tracked ts p)

  counted_holds : (h : Shedder) (m : Rows) (k : List (List ℕ)) (n : Name) (v : Verdict) (cost : List ℕ) → P m h.tracked → length m.units ≡ h.unit_room
      → P (with_tags m (count_verdict (tally h m.tags k) n v cost).tags) (count_verdict (tally h m.tags k) n v cost).head.tracked
  unfolding count_verdict
  counted_holds h m k n v cost p r = go (is_admitted v)
    where
      go : (b : Bool) → P (with_tags m (cond b (tally h m.tags k) (tallied (tally h m.tags k) n (cause_of v) (get_or cost 0 0))).tags) (cond b (tally h m.tags k) (tallied (tally h m.tags k) n (cause_of v) (get_or cost 0 0))).head.tracked
      go true = p
      go false = tallied_holds h m k n (cause_of v) (get_or cost 0 0) p r

  -- ---- a scan
  record Goes (h : Shedder) (m : Rows) : Type 0 where
    pub holds : P m h.tracked
    pub tables : 1 ≤ h.scan.remaining → h.scan.remaining + h.scan.next ≤ 64

  abbrev Going : Scanning → Type 0
  Going x = Goes x.head x.rows

  visit_goes : (x : Scanning) → Going x → 1 ≤ x.head.scan.remaining → Going (visit x)
  unfolding visit visited
  visit_goes x g l = record { holds = s.leaves x.rows x.head.tracked x.head.scan.next x.head.scan.at_ms g.holds (omega (arith, g.tables l, l)); tables = λ r. omega (arith, g.tables l, l, r) }

  again_goes : (x : Scanning) → Going x → Going (again x)
  unfolding again
  again_goes x g = go (leb 1 x.head.scan.remaining) refl
    where
      go : (b : Bool) → leb 1 x.head.scan.remaining ≡ b → Going (cond b (visit x) x)
      go true e = visit_goes x g (leb-true 1 x.head.scan.remaining e)
      go false e = g

  ended_goes : (x : Scanning) → Going x → P x.rows (ended x.head x.hist).tracked
  unfolding ended trimmed
  ended_goes x g = go (eqb x.head.scan.remaining 0)
    where
      go : (b : Bool) → P x.rows (cond b (trimmed x.head x.hist) x.head).tracked
      go true = g.holds
      go false = g.holds

  begun_goes : (h : Shedder) (g : Hist) (clock : ℕ) (m : Rows) → Goes h m → Goes (begun h g clock).head m
  unfolding begun opened
  begun_goes h g clock m w = go (leb 1 h.scan.remaining) (ltb clock (h.scan.began_ms + 500))
    where
      go : (c d : Bool) → Goes (cond c (scan.started h g) (cond d (scan.started h g) (scan.started (opened h clock) wants.cleared))).head m
      go true d = w
      go false true = w
      go false false = record { holds = w.holds; tables = λ l. omega arith }

  from_holds : (m : Rows) (b : scan.Started) → Goes b.head m → P (scanned_from m b).rows (scanned_from m b).head.tracked
  from_holds m b w = go (leb 1 b.head.scan.remaining) refl
    where
      go : (c : Bool) → leb 1 b.head.scan.remaining ≡ c → P (cond c (ended_at (again (visit (scanning b.head m b.hist)))) (scanning b.head m b.hist)).rows (cond c (ended_at (again (visit (scanning b.head m b.hist)))) (scanning b.head m b.hist)).head.tracked
      go true e = ended_goes (again (visit (scanning b.head m b.hist))) (again_goes (visit (scanning b.head m b.hist)) (visit_goes (scanning b.head m b.hist) w (leb-true 1 b.head.scan.remaining e)))
      go false e = w.holds

  scanned_holds : (x : Scanning) (clock : ℕ) → Going x → P (scanned x clock).rows (scanned x clock).head.tracked
  unfolding scanned
  scanned_holds x clock g = from_holds x.rows (begun x.head x.hist clock) (begun_goes x.head x.hist clock x.rows g)

  -- ---- the calls
  start_holds : (h : Shedder) (m : Rows) (k : List (List ℕ)) (g : Hist) (rate ceiling : List ℕ) → start_asked rate (sizes_of m k) ≡ 0
      → P (start h m k g rate ceiling).rows (start h m k g rate ceiling).head.tracked
  unfolding start opening
  start_holds h m k g rate ceiling e = rw (eq-eqb (start_asked rate (sizes_of m k)) 0 e) (s.starts m (sized_asked rate m k e))

  bounded_holds : (h : Shedder) (m : Memory) (u : Unit) (cost : List ℕ) (stamp : ℕ) → Q u → P m.rows h.tracked → Kept h m.rows → max stamp h.flow.at_ms < 9007199254740992 → length m.counted ≡ h.counted_room
      → P (bounded h m u cost stamp).memory.rows (bounded h m u cost stamp).head.tracked
  unfolding bounded
  bounded_holds h m u cost stamp q p w l e =
      let clock = max stamp h.flow.at_ms in
      let j = judged h m.rows u (numbers cost) clock in
      let t = count_verdict (tally j.head j.rows.tags m.counted) (name_of u) j.verdict cost in
      let jk = judged_kept h m.rows u (numbers cost) clock w l in
      let tk = counted_kept j.head j.rows m.counted (name_of u) j.verdict cost jk (e ∙ sym (judged_room h m.rows u (numbers cost) clock)) in
      let jr = jk.rows in
      let th = tk.head in
      let a = counted_holds j.head j.rows m.counted (name_of u) j.verdict cost (judged_holds h m.rows u (numbers cost) clock q p (let f = w.rows in f.units)) jr.units in
      scanned_holds (scanning t.head (with_tags j.rows t.tags) m.hist) clock (record { holds = a; tables = λ r. omega (arith, tables_sum t.head.scan.remaining t.head.scan.next th.tables r) })

  abbrev After : Judged → Type 0
  After j = P j.memory.rows j.head.tracked

  cond_judged : (b : Bool) (x y : Judged) → (b ≡ true → After x) → After y → After (cond b x y)
  cond_judged true x y f g = f refl
  cond_judged false x y f g = g

  judge_holds : (h : Shedder) (m : Memory) (u : Unit) (cost : List ℕ) (stamp : ℕ) → Q u → P m.rows h.tracked → After (judge h m u cost stamp)
  unfolding judge
  judge_holds h m u cost stamp q p =
      let a = judge_asked h (sizes_of m.rows m.counted) m.rows.offsets cost stamp in
      let w = s.well m.rows h.tracked p in
      cond_judged (eqb a 0) _ _ (λ e.
      let z = eqb-true a 0 e in
      let r = asked_ready h (sizes_of m.rows m.counted) m.rows.offsets cost stamp z in
      cond_judged (is_unbounded h.flow.rate) _ _ (λ y. p)
      (bounded_holds h m u cost stamp q p (kept_of h m.rows m.counted w.sound.offsets (judge_whole h _ m.rows.offsets cost stamp z) r.cut) (latest stamp h.flow.at_ms r.stamp_held r.clock_held)
      (memory_counted h (sizes_of m.rows m.counted) (judge_memory h _ m.rows.offsets cost stamp z)))) p

  abbrev Then : Cut → Type 0
  Then c = P c.rows c.head.tracked

  cond_cut : (b : Bool) (x y : Cut) → (b ≡ true → Then x) → Then y → Then (cond b x y)
  cond_cut true x y f g = f refl
  cond_cut false x y f g = g

  after_holds : (x : KeptBy) (k : List (List ℕ)) (u : Unit) (c : Cause) (cost : List ℕ) → P x.rows x.head.tracked → length x.rows.units ≡ x.head.unit_room → Then (cut_after k u c cost x)
  unfolding noted
  after_holds x k u c cost p r = tallied_holds x.head x.rows k (name_of u) (index_of c) (get_or cost 0 0) p r

  cut_holds : (h : Shedder) (m : Rows) (k : List (List ℕ)) (u : Unit) (c : Cause) (cost : List ℕ) → Q u → P m h.tracked → Then (cut h m k u c cost)
  unfolding cut
  cut_holds h m k u c cost q p =
      let a = cut_asked h (sizes_of m k) m.offsets cost in
      let w = s.well m h.tracked p in
      cond_cut (eqb a 0) _ _ (λ e.
      let z = eqb-true a 0 e in
      let f = kept_of h m k w.sound.offsets (cut_whole h _ m.offsets cost z) (cut_ready h (sizes_of m k) m.offsets cost z) in
      let r : length m.units ≡ h.unit_room = (let g = f.rows in g.units) in
      let v = handed_kept h m u (numbers cost) f in
      cond_cut (hands_back h.flow.rate c) _ _ (λ y. after_holds (handed_back (kept_by h m) u (numbers cost)) k u c cost (handed_holds h m u (numbers cost) q p r) (let g = v.rows in g.units))
      (after_holds (kept_by h m) k u c cost p r)) p

  pub lasts : Lasts Q P
  lasts = record { start = start_holds; judge = judge_holds; cut = cut_holds; rates = rates_hold P }
