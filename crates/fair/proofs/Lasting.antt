-- After every list of calls from a start, head and memory pass the questions: no list leaves a state that refuses for good. Assumes nothing.
use mathlib.Core.Path.{◌≡◌, refl, sym, ap, ◌∙◌, subst}
use Prim.Native.Nat.{ℕ, ◌+◌, ◌≤◌, ◌<◌, max}
use native.Mathlib.Nat.{le_refl}
use native.Mathlib.Omega.{arith}
use mathlib.Core.Bool.{Bool, true, false, cond, ◌||◌}
use mathlib.Core.List.{List, [], ◌∷◌}
use lib.Dec.{ltb}
use lib.ListN.{length}
use borrow.Author.Tests.{lt-ltb, le-ltb, le-leb, eq-eqb, ne_eqb}
use Rattle.sender.specs.declared.Unit as unit
use Rattle.store.specs.Held.{sizes_of}
use Rattle.parts.specs.Parts.{Rows, started}
use Rattle.head.proofs.Asked.{with_is}
use Rattle.store.specs.declared.lent.Sizes.{Sizes}
use Rattle.head.specs.declared.Shedder.{Shedder}
use Rattle.store.specs.declared.Cause.{Cause}
use Rattle.fair.specs.Given as goal
use Rattle.fair.specs.Given.{Memory, memory}
use Rattle.fair.specs.Calls as calls
use Rattle.fair.specs.Calls.{State, Call, Judge, Cut, Rates, Read, Lasts, Lasting}
use Rattle.fair.specs.Changes.{rate_of}
use Rattle.fair.proofs.Tied.{Tied}
use Rattle.fair.proofs.Spans.{bounded_span, after_span, on_span}
use Rattle.fair.proofs.Steady as steady
use Rattle.fair.proofs.Steady.{Tables, running, none, Fine}
use Rattle.fair.proofs.Judging as judging
use Rattle.fair.proofs.Cutting as cutting
use Rattle.fair.proofs.Changing as changing
use Rattle.fair.proofs.Begun as begun
use Rattle.fair.proofs.Begun.{Rooms}
use Rattle.fair.proofs.Calls as real

-- ---- the questions, from what they ask
tables_yes : (r n : ℕ) → Tables r n → goal.tables_whole r n ≡ true
unfolding goal.tables_whole
tables_yes r n (running e) = rw (le-leb r 64 (omega arith), le-leb n 64 (omega arith), eq-eqb (r + n) 64 e)
tables_yes r n (none e f) = rw (le-leb r 64 (omega arith), le-leb n 64 (omega arith), ne_eqb (r + n) 64 (λ q. omega arith), eq-eqb (r + n) 0 (omega arith))

rooms_yes : (u c t k : ℕ) → Rooms u c → t ≤ u → k < c → goal.rooms_whole u c t k ≡ true
unfolding goal.rooms_whole
rooms_yes u c t k r p q = rw (le-ltb u 1 r.some, le-ltb 131072 u r.most, le-ltb c 2 r.two, le-ltb 4097 c r.counted, le-ltb u t p, lt-ltb k c q)

stamps_yes : (a b c d : ℕ) → a < 9007199254740992 → b < 9007199254740992 → c < 9007199254740992 → d < 9007199254740992 → goal.stamps_whole a b c d ≡ true
unfolding goal.stamps_whole goal.is_stamp
stamps_yes a b c d p q r s = rw (lt-ltb a 9007199254740992 p, lt-ltb b 9007199254740992 q, lt-ltb c 9007199254740992 r, lt-ltb d 9007199254740992 s)

or_right : (a : Bool) → a || true ≡ true
or_right true = refl
or_right false = refl

head_yes : (h : Shedder) (rate : List ℕ) (room size : ℕ) → h.flow.rate ≡ rate → goal.all_rates rate ≡ true → h.unit_room ≡ room → Rooms room size → h.tracked ≤ room
    → h.flow.at_ms < 9007199254740992 → Fine size h h.flow.at_ms → goal.head_whole h ≡ true
unfolding goal.head_whole
head_yes h rate room size e rates f r p low fine =
    let a : goal.all_rates h.flow.rate ≡ true = ap goal.all_rates e ∙ rates in
    let s : goal.stamps_whole h.flow.at_ms h.scan.at_ms h.scan.began_ms h.scan.read_ms ≡ true =
    stamps_yes h.flow.at_ms h.scan.at_ms h.scan.began_ms h.scan.read_ms low (omega (arith, fine.at)) (omega (arith, fine.began)) (omega (arith, fine.read)) in
    let t = tables_yes h.scan.remaining h.scan.next fine.tables in
    let q : goal.rooms_whole h.unit_room h.counted_room h.tracked h.counted ≡ true =
    rooms_yes h.unit_room h.counted_room h.tracked h.counted (subst (λ (n : ℕ). Rooms n h.counted_room) (sym f) (subst (Rooms room) (sym fine.room) r)) (omega arith) (omega (arith, fine.room, fine.few)) in
    rw (a, s, t, q, or_right (goal.is_unbounded h.flow.rate))

memory_yes : (h : Shedder) (s : Sizes) → s.tags ≡ s.units + s.counted → s.slots ≡ s.units → s.free ≡ s.units → s.uses ≡ s.units → s.units ≡ h.unit_room → s.counted ≡ h.counted_room
    → goal.memory_whole h s ≡ true
unfolding goal.memory_whole goal.tags_whole goal.slots_whole
memory_yes h s a b c d e f =
    rw (eq-eqb s.tags (s.units + s.counted) a, eq-eqb s.slots s.units b, eq-eqb s.free s.units c, eq-eqb s.uses s.units d, eq-eqb s.units h.unit_room e, eq-eqb s.counted h.counted_room f)

-- ---- calls that pass the questions are not refused
judge_asked_yes : (h : Shedder) (s : Sizes) (os cost : List ℕ) (t : ℕ) → goal.whole_with h os ≡ true → goal.memory_whole h s ≡ true → goal.costs_held cost ≡ true → goal.is_stamp t ≡ true → goal.judge_asked h s os cost t ≡ 0
unfolding goal.judge_asked
judge_asked_yes h s os cost t a b c d = rw (a, b, c, d)

cut_asked_yes : (h : Shedder) (s : Sizes) (os cost : List ℕ) → goal.whole_with h os ≡ true → goal.memory_whole h s ≡ true → goal.costs_held cost ≡ true → goal.cut_asked h s os cost ≡ 0
unfolding goal.cut_asked
cut_asked_yes h s os cost a b c = rw (a, b, c)

judge_open : (h : Shedder) (m : Memory) (u : unit.Unit) (cost : List ℕ) (t : ℕ) → goal.judge_asked h (sizes_of m.rows m.counted) m.rows.offsets cost t ≡ 0 → goal.is_unbounded h.flow.rate ≡ false
    → goal.judge h m u cost t ≡ goal.bounded h m u cost t
unfolding goal.judge
judge_open h m u cost t e f = rw (e, f)

bounded_taken : (h : Shedder) (m : Memory) (u : unit.Unit) (cost : List ℕ) (t : ℕ) → ltb 0 (goal.judge_number (goal.bounded h m u cost t).answer) ≡ false
unfolding goal.bounded
bounded_taken h m u cost t = real.verdict_taken (goal.judged h m.rows u (goal.numbers cost) (max t h.flow.at_ms)).verdict

cut_picked : (b : Bool) (x y : goal.Cut) → ltb 0 (goal.cut_number x.answer) ≡ false → ltb 0 (goal.cut_number y.answer) ≡ false → ltb 0 (goal.cut_number (cond b x y).answer) ≡ false
cut_picked true x y p q = p
cut_picked false x y p q = q

cut_open : (h : Shedder) (m : Memory) (u : unit.Unit) (c : Cause) (cost : List ℕ) → goal.cut_asked h (sizes_of m.rows m.counted) m.rows.offsets cost ≡ 0 → calls.refused (calls.state_of h m) (Cut u c cost) ≡ false
unfolding goal.cut goal.noted goal.answer_number
cut_open h m u c cost e = rw e
    (cut_picked (goal.hands_back h.flow.rate c) (goal.cut_after m.counted u c cost (goal.handed_back (goal.kept_by h m.rows) u (goal.numbers cost))) (goal.cut_after m.counted u c cost (goal.kept_by h m.rows)) refl refl)

rates_asked_yes : (h : Shedder) (s : Sizes) (os rate : List ℕ) (t : ℕ) → goal.whole_with h os ≡ true → goal.memory_whole h s ≡ true → goal.all_rates rate ≡ true → goal.is_stamp t ≡ true → goal.is_unbounded h.flow.rate ≡ false
    → goal.rates_asked h s os rate t ≡ 0
unfolding goal.rates_asked goal.both_bounded
rates_asked_yes h s os rate t a b c d e = rw (a, b, c, d, e, judging.not_unbounded rate c)

rates_open : (h : Shedder) (m : Memory) (rate ceiling : List ℕ) (t : ℕ) → goal.rates_asked h (sizes_of m.rows m.counted) m.rows.offsets rate t ≡ 0 → calls.refused (calls.state_of h m) (Rates rate ceiling t) ≡ false
unfolding goal.set_rates goal.answer_number
rates_open h m rate ceiling t e = rw e refl

-- ---- every list
module _ (room size : ℕ) (rate ceiling : List ℕ) (rates : goal.all_rates rate ≡ true) (rooms : Rooms room size) where
  pub record Steady (s : State) : Type 0 where
    pub span : length s.memory.rows.tags ≡ room + size
    pub lasts : steady.Lasts size s.head s.memory.counted s.head.flow.at_ms
    pub low : s.head.flow.at_ms < 9007199254740992

  on_lasts : (h : Shedder) (m : Memory) (u : unit.Unit) (c : Cause) (cost : List ℕ) → steady.Lasts size h m.counted h.flow.at_ms → steady.Lasts size (cutting.cut_on h m.rows u c cost).head m.counted h.flow.at_ms
  on_lasts h m u c cost b = go (goal.hands_back h.flow.rate c)
    where
      go : (x : Bool) → steady.Lasts size (cond x (goal.handed_back (goal.kept_by h m.rows) u (goal.numbers cost)) (goal.kept_by h m.rows)).head m.counted h.flow.at_ms
      go true = record { fine = steady.handed_fine size h m.rows u (goal.numbers cost) h.flow.at_ms b.fine; long = b.long }
      go false = b

  step_steady : (s : State) (ms : List (real.C room rate ceiling rates)) {x y : List ℕ} → real.Tie room rate ceiling rates s ms x y → (c : Call) → calls.refused s c ≡ false → Steady s → Steady (calls.step s c)
  step_steady s ms {x} {y} b (Judge u cost t) f k =
      let h = s.head in
      let m = s.memory in
      let st = real.store_of room rate ceiling rates ms in
      let tied = real.at_clock room rate ceiling rates s ms b in
      let a = judging.judge_tied room x y b.bounded h m st tied u cost t f in
      let e : (goal.judge h m u cost t).head.flow.at_ms ≡ max t h.flow.at_ms = a.clock_is in
      let i = (judging.took room x y b.bounded h m st tied u cost t f).is in
      record {
        span = ap (λ (j : goal.Judged). length j.memory.rows.tags) i ∙ bounded_span room x y h m st tied u cost t ∙ k.span;
        lasts = subst (λ (n : ℕ). steady.Lasts size (goal.judge h m u cost t).head (goal.judge h m u cost t).memory.counted n) (sym e)
            (subst (λ (j : goal.Judged). steady.Lasts size j.head j.memory.counted (max t h.flow.at_ms)) (sym i) (steady.bounded_lasts size h m u cost t k.lasts));
        low = omega (arith, judging.judge_stamp room x y b.bounded h m st tied u cost t f, k.low);
      }
  step_steady s ms {x} {y} b (Cut u c cost) f k =
      let h = s.head in
      let m = s.memory in
      let st = real.store_of room rate ceiling rates ms in
      let tied = real.at_clock room rate ceiling rates s ms b in
      let j = goal.cut h m.rows m.counted u c cost in
      let a = cutting.cut_tied room x y b.bounded h m st tied u c cost f in
      let e : j.head.flow.at_ms ≡ h.flow.at_ms = a.clock_is in
      let i = (cutting.took room x y b.bounded h m st tied u c cost f).is in
      record {
        span = ap (λ (j : goal.Cut). length j.rows.tags) i
            ∙ after_span (cutting.cut_on h m.rows u c cost) m.counted u c cost ∙ on_span room x y h m.rows st h.flow.at_ms tied u (goal.numbers cost) (goal.hands_back h.flow.rate c) ∙ k.span;
        lasts = subst (λ (n : ℕ). steady.Lasts size j.head j.counted n) (sym e)
            (subst (λ (j : goal.Cut). steady.Lasts size j.head j.counted h.flow.at_ms) (sym i)
            (steady.noted_lasts size (cutting.cut_on h m.rows u c cost).head (cutting.cut_on h m.rows u c cost).rows.tags m.counted u c cost h.flow.at_ms (on_lasts h m u c cost k.lasts)));
        low = omega (arith, k.low);
      }
  step_steady s ms {x} {y} b (Rates r z t) f k =
      let h = s.head in
      let m = s.memory in
      let st = real.store_of room rate ceiling rates ms in
      let tied = real.at_clock room rate ceiling rates s ms b in
      let j = goal.set_rates h m.rows m.counted r z t in
      let a = changing.rates_tied room x y h m st tied r z t f in
      let e : j.head.flow.at_ms ≡ max t h.flow.at_ms = a.clock_is in
      let i = (changing.took room x y h m st tied r z t f).is in
      record {
        span = k.span;
        lasts = subst (λ (n : ℕ). steady.Lasts size j.head m.counted n) (sym e)
            (subst (λ (j : goal.Changed). steady.Lasts size j.head m.counted (max t h.flow.at_ms)) (sym i)
            (record { fine = steady.turned_fine size h r z t k.lasts.fine; long = k.lasts.long }));
        low = omega (arith, (changing.asked room x y h m st tied r z t f).stamp, k.low);
      }
  step_steady s ms b (Read q) f k = k

  module _ (first : State) (b : Tied room rate ceiling first.head first.memory.rows (real.store_of room rate ceiling rates []) 0) (k : Steady first) where
    all_steady : (h : List Call) → Steady (calls.state first h)
    unfolding calls.state
    all_steady [] = k
    all_steady (c ∷ h) = go (all_steady h) (calls.refused (calls.state first h) c) refl
      where
        go : Steady (calls.state first h) → (x : Bool) → calls.refused (calls.state first h) c ≡ x → Steady (calls.step (calls.state first h) c)
        go k true f = subst Steady (sym (real.refused_kept room rate ceiling rates (calls.state first h) c f)) k
        go k false f = step_steady (calls.state first h) _ (real.whole room rate ceiling rates first b h).tie c f k

    head_lasts : (h : List Call) → goal.whole_with (calls.state first h).head (calls.state first h).memory.rows.offsets ≡ true
    head_lasts h =
        let i = (real.whole room rate ceiling rates first b h).tie in
        let t = i.tied in
        let s = all_steady h in
        let w = t.held.well.sound in
        with_is (calls.state first h).head (calls.state first h).memory.rows.offsets
        (head_yes (calls.state first h).head (rate_of rate (calls.events first h)) room size t.rate_is i.bounded t.room_is rooms (omega (arith, w.room, t.held.room_is)) s.low s.lasts.fine) w.whole

    memory_lasts : (h : List Call)
        → goal.memory_whole (calls.state first h).head (sizes_of (calls.state first h).memory.rows (calls.state first h).memory.counted) ≡ true
    memory_lasts h =
        let t = (real.whole room rate ceiling rates first b h).tie.tied in
        let s = all_steady h in
        let z = t.held.well.sound.sized in
        memory_yes (calls.state first h).head _ (omega (arith, s.span, t.held.room_is, s.lasts.long)) z.slots z.free z.uses (t.held.room_is ∙ sym t.room_is) (s.lasts.long ∙ sym s.lasts.fine.room)

    still_bounded : (h : List Call) → goal.is_unbounded (calls.state first h).head.flow.rate ≡ false
    still_bounded h =
        let i = (real.whole room rate ceiling rates first b h).tie in
        ap goal.is_unbounded i.tied.rate_is ∙ judging.not_unbounded (rate_of rate (calls.events first h)) i.bounded

    pub lasting : Lasting first
    lasting = record {
      judge = λ h u cost t c d.
          let s = calls.state first h in
          ap (λ (j : goal.Judged). ltb 0 (goal.judge_number j.answer)) (judge_open s.head s.memory u cost t (judge_asked_yes s.head _ s.memory.rows.offsets cost t (head_lasts h) (memory_lasts h) c d) (still_bounded h)) ∙ bounded_taken s.head s.memory u cost t;
      cut = λ h u c cost d. let s = calls.state first h in cut_open s.head s.memory u c cost (cut_asked_yes s.head _ s.memory.rows.offsets cost (head_lasts h) (memory_lasts h) d);
      rates = λ h r z t c d. let s = calls.state first h in rates_open s.head s.memory r z t (rates_asked_yes s.head _ s.memory.rows.offsets r t (head_lasts h) (memory_lasts h) c d (still_bounded h));
      head = head_lasts;
      memory = memory_lasts;
    }

-- ---- from a start
opening_lasts : (rate ceiling : List ℕ) (room : ℕ) (k : List (List ℕ)) → 2 ≤ length k → steady.Lasts (length k) (goal.opening rate ceiling room (length k)) k 0
unfolding goal.opening
opening_lasts rate ceiling room k l = record { fine = record { clock = refl; at = le_refl 0; began = le_refl 0; read = le_refl 0; tables = none refl refl; room = refl; few = omega arith }; long = refl }

opening_from : (rate ceiling : List ℕ) (room : ℕ) (k : List (List ℕ)) → 2 ≤ length k → steady.Lasts (length k) (goal.opening rate ceiling room (length k)) k (goal.opening rate ceiling room (length k)).flow.at_ms
unfolding goal.opening
opening_from rate ceiling room k l = opening_lasts rate ceiling room k l

started_tags : (m : Rows) → length (started m).tags ≡ length m.tags
unfolding started
started_tags m = refl

-- THE THEOREM
pub it_lasts : Lasts
it_lasts was m rate ceiling rates e =
    let z = begun.start_sizes was m rate ceiling e in
    let room = length m.rows.units in
    let size = length m.counted in
    let t = begun.left_tied was m rate ceiling e rates in
    let o = begun.left_is was m rate ceiling e in
    lasting room size rate ceiling rates z.rooms (calls.left was m rate ceiling) t (record {
      span = ap (λ (s : goal.Beginning). length s.rows.tags) o ∙ started_tags m.rows ∙ z.tags;
      lasts = subst (λ (s : goal.Beginning). steady.Lasts size s.head m.counted s.head.flow.at_ms) (sym o) (opening_from rate ceiling room m.counted z.rooms.two);
      low = omega (arith, t.clock_is);
    })
