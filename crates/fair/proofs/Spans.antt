-- No judgement and no cut changes how many tags there are. Assumes nothing.
use mathlib.Core.Path.{◌≡◌, refl, sym, ap, ◌∙◌, subst}
use mathlib.Core.Bool.{Bool, true, false, cond}
use mathlib.Core.List.{List, ◌++◌}
use Prim.Native.Nat.{ℕ, ◌-◌, ◌+◌, ◌<◌, max}
use native.Mathlib.Omega.{arith}
use lib.Dec.{leb, ltb}
use lib.ListN.{length, get_or, take, drop, replicate, length-append, length-replicate, take-append-drop}
use lib.Ieee.{Float}
use Rattle.std.specs.Prelude.{unwrap_or}
use borrow.Author.Tests.{ltb-true, leb-true}
use Rattle.flow.specs.Flow as flow
use Rattle.flow.specs.declared.Use.{Use}
use Rattle.verdict.specs.Verdict.{is_admitted}
use Rattle.verdict.specs.declared.Verdict.{Verdict}
use Rattle.sender.specs.declared.Name.{Name}
use Rattle.sender.specs.declared.Unit.{Unit}
use Rattle.sender.specs.Sender.{name_of, is_overflow, table_of_tag}
use Rattle.shifting.specs.Shifting.{part}
use Rattle.shifting.specs.Offsets.{«PARTS»}
use Rattle.shifting.proofs.Laying.{part_length, length_over}
use Rattle.shifting.proofs.Places.{length_inserted}
use Rattle.shifting.proofs.Whole.{whole_below}
use Rattle.store.specs.Store.{with_tags}
use Rattle.parts.specs.Parts.{Rows, begin, end, find, put, added, dropped, left, those, stays, squeezed}
use Rattle.parts.specs.Laws.{Sound}
use Rattle.parts.proofs.Closing.{tagged}
use Rattle.parts.proofs.Keeping.{fits_of, rise, inside, counts}
use Rattle.store_entry.specs.Entering.{entered, place, entry, back, put_back}
use Rattle.store_entry.proofs.Own.{table_below}
use Rattle.wants.specs.Wants.{Hist}
use Rattle.cut_sources.specs.Counted as counting
use Rattle.cut_sources.proofs.Tagged.{count_long, pruned_long}
use Rattle.head.specs.declared.Shedder.{Shedder}
use Rattle.store.specs.declared.Cause.{Cause}
use Rattle.fair.specs.Given as goal
use Rattle.fair.specs.Given.{Memory}
use Rattle.fair.proofs.Entry as model_entry
use Rattle.fair.proofs.Stored.{Held, held_dropped}
use Rattle.fair.proofs.Scanned.{Counted, visits}
use Rattle.fair.proofs.Tied.{Tied, begun_tied, visits_are}
use Rattle.fair.proofs.Judging as judging

-- ---- the rows
put_span : (m : Rows) (k : ℕ) (x : Use) → length (put m k x).tags ≡ length m.tags
unfolding put
put_span m k x = refl

module _ (m : Rows) (n : ℕ) (s : Sound m n) where
  added_span : (w : Name) (x : Use) → n < length m.units → table_of_tag w.tag < «PARTS» → length (added m n w x).tags ≡ length m.tags
  unfolding added
  added_span w x l t =
      let z = s.sized.tags in
      let i = whole_below m.offsets n s.whole (table_of_tag w.tag + 1) (omega arith) in
      length_inserted 0 m.tags (end m (table_of_tag w.tag)) n w.tag i (omega arith)

  dropped_span : (t at_ms : ℕ) → t < «PARTS» → length (dropped m n t at_ms).tags ≡ length m.tags
  unfolding dropped squeezed
  dropped_span t at_ms h =
      let y = s.sized in
      let yt = y.tags in
      let r = s.room in
      let u = rise m n t at_ms (fits_of m n s) h in
      let i = inside m n t at_ms (fits_of m n s) h in
      let k = those (stays m.slots m.units at_ms) (begin m t) (part m.tags (begin m t) (end m t)) in
      let c = counts m n t at_ms (fits_of m n s) h in
      let g = tagged m.tags m.slots m.offsets m.free m.units m.uses n t at_ms u i r yt y.slots y.free in
      let p = part m.tags (end m t) n in
      let z : List ℕ = replicate (end m t - (begin m t + length k)) 0 in
      let v = length-replicate {A = ℕ} (end m t - (begin m t + length k)) 0 in
      length_over m.tags (begin m t) ((k ++ p) ++ z) (omega (arith, v, length-append (k ++ p) z, length-append k p, part_length m.tags (end m t) n (omega arith)))

-- ---- the record that a call uses, its use put back, and a scan
module _ (room : ℕ) (m : Rows) (n : ℕ) (h : Held room m n) where
  entry_span : (u : Unit) (now : ℕ) → length (entry m n room u now).rows.tags ≡ length m.tags
  unfolding entry
  entry_span u now = by (is_overflow u) (ltb (unwrap_or (find m (name_of u)) room) room) (ltb n room) refl
    where
      by : (a b c : Bool) → ltb n room ≡ c
          → length (cond a (entered (place room n) m) (cond b (entered (place (unwrap_or (find m (name_of u)) room) n) m)
          (cond c (entered (place (end m (table_of_tag (name_of u).tag)) (n + 1)) (added m n (name_of u) (flow.added now)))
          (entered (place room n) m)))).rows.tags ≡ length m.tags
      by true b c e = refl
      by false true c e = refl
      by false false true e =
          let l = ltb-true n room e in
          added_span m n h.well.sound (name_of u) (flow.added now) (omega (arith, h.room_is)) (table_below u)
      by false false false e = refl

  visits_span : (one two : Bool) (t at_ms : ℕ) → (one ≡ true → t < «PARTS») → (two ≡ true → t + 1 < «PARTS»)
      → length (visits one two (record { rows = m; count = n }) t at_ms).rows.tags ≡ length m.tags
  visits_span false two t at_ms f g = refl
  visits_span true false t at_ms f g = dropped_span m n h.well.sound t at_ms (f refl)
  visits_span true true t at_ms f g =
      let k = held_dropped room m n t at_ms h (f refl) in
      dropped_span (dropped m n t at_ms) (left m n t at_ms) k.well.sound (t + 1) at_ms (g refl) ∙ dropped_span m n h.well.sound t at_ms (f refl)

back_span : (m : Rows) (o : Use) (i : ℕ) (x : Use) → length (put_back m o i x).rows.tags ≡ length m.tags
unfolding put_back
back_span m o i x = by (ltb i (length m.units))
  where
    by : (c : Bool) → length (cond c (back o (put m i x)) (back x m)).rows.tags ≡ length m.tags
    by true = put_span m i x
    by false = refl

-- ---- counting
tallied_span : (h : Shedder) (i : List ℕ) (k : List (List ℕ)) (n : Name) (c r : ℕ) → length (goal.tallied (goal.tally h i k) n c r).tags ≡ length i
unfolding goal.tallied
tallied_span h i k n c r =
    let room : ℕ = h.unit_room in
    let s = counting.count (drop room i) k h.counted n c in
    let x : List ℕ = counting.count_tags (drop room i) k h.counted n in
    length-append (take room i) (counting.pruned_tags s x)
    ∙ ap (λ (z : ℕ). length (take room i) + z) (pruned_long s x ∙ count_long (drop room i) k h.counted n)
    ∙ sym (length-append (take room i) (drop room i)) ∙ ap (λ (l : List ℕ). length l) (take-append-drop room i)

counted_span : (h : Shedder) (i : List ℕ) (k : List (List ℕ)) (n : Name) (v : Verdict) (cost : List ℕ) → length (goal.count_verdict (goal.tally h i k) n v cost).tags ≡ length i
unfolding goal.count_verdict
counted_span h i k n v cost = go (is_admitted v)
  where
    go : (c : Bool) → length (cond c (goal.tally h i k) (goal.tallied (goal.tally h i k) n (goal.cause_of v) (get_or cost 0 0))).tags ≡ length i
    go true = refl
    go false = tallied_span h i k n (goal.cause_of v) (get_or cost 0 0)

-- ---- THE JUDGEMENT and THE CUT
module _ (room : ℕ) (rate ceiling : List ℕ) where
  scanned_span : (h : Shedder) (m : Rows) (g : Hist) (st : model_entry.S room) (clk : ℕ) → Tied room rate ceiling h m st clk
      → length (goal.scanned (goal.scanning h m g) clk).rows.tags ≡ length m.tags
  unfolding goal.scanned
  scanned_span h m g st clk b =
      let s = goal.begun h g clk in
      let r = s.head.scan.remaining in
      let a = begun_tied room rate ceiling h m g st clk b in
      ap (λ (c : Counted). length c.rows.tags) (visits_are room rate ceiling m s)
      ∙ visits_span room m s.head.tracked a.held (leb 1 r) (leb 1 (r - 1)) s.head.scan.next s.head.scan.at_ms
      (λ e. omega (arith, leb-true 1 r e, a.tables_is)) (λ e. omega (arith, leb-true 1 (r - 1) e, a.tables_is))

  module _ (h : Shedder) (m : Rows) (st : model_entry.S room) (clk : ℕ) (b : Tied room rate ceiling h m st clk) (u : Unit) (cost : List Float) where
    used_span : (now : ℕ) → length (entry m h.tracked h.unit_room u now).rows.tags ≡ length m.tags
    used_span now = subst (λ (r : ℕ). length (entry m h.tracked r u now).rows.tags ≡ length m.tags) (sym b.room_is) (entry_span room m h.tracked b.held u now)

    judged_span : (now : ℕ) → length (goal.judged h m u cost now).rows.tags ≡ length m.tags
    unfolding goal.judged
    judged_span now = back_span _ _ _ _ ∙ used_span now

    handed_span : length (goal.handed_back (goal.kept_by h m) u cost).rows.tags ≡ length m.tags
    unfolding goal.handed_back
    handed_span = back_span _ _ _ _ ∙ used_span h.flow.at_ms

    pub on_span : (c : Bool) → length (cond c (goal.handed_back (goal.kept_by h m) u cost) (goal.kept_by h m)).rows.tags ≡ length m.tags
    on_span true = handed_span
    on_span false = refl

  pub bounded_span : (h : Shedder) (m : Memory) (st : model_entry.S room) → Tied room rate ceiling h m.rows st h.flow.at_ms → (u : Unit) (cost : List ℕ) (t : ℕ)
      → length (goal.bounded h m u cost t).memory.rows.tags ≡ length m.rows.tags
  unfolding goal.bounded
  bounded_span h m st b u cost t =
      let now = max t h.flow.at_ms in
      let p = goal.judged h m.rows u (goal.numbers cost) now in
      let y = goal.count_verdict (goal.tally p.head p.rows.tags m.counted) (name_of u) p.verdict cost in
      scanned_span y.head (with_tags p.rows y.tags) m.hist _ now
      (judging.verdict_tied room rate ceiling p.head m.counted (name_of u) p.verdict cost p.rows _ now (judging.judged_tied room rate ceiling h m.rows st b u cost t))
      ∙ counted_span p.head p.rows.tags m.counted (name_of u) p.verdict cost ∙ judged_span h m.rows st h.flow.at_ms b u (goal.numbers cost) now

pub after_span : (s : goal.KeptBy) (k : List (List ℕ)) (u : Unit) (c : Cause) (cost : List ℕ) → length (goal.cut_after k u c cost s).rows.tags ≡ length s.rows.tags
unfolding goal.noted
after_span s k u c cost = tallied_span s.head s.rows.tags k (name_of u) (goal.index_of c) (get_or cost 0 0)
