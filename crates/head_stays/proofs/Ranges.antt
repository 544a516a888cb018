-- Trims in 0.5 to 1 and levels of at least 1 are set at a start and stay so (specs/Ranges.antt). Assumes nothing.
use mathlib.Core.Path.{◌≡◌, refl, sym, ap, ◌∙◌, subst}
use mathlib.Core.Bool.{Bool, true, false, cond, ◌||◌}
use mathlib.Core.List.{List}
use Prim.Native.Nat.{ℕ, ◌*◌, ◌^◌, ◌≤◌, ◌<◌, max}
use native.Mathlib.Nat.{le_trans, le_of_eq, mul-le-mul_right}
use native.Mathlib.Omega.{arith}
use lib.Dec.{eqb, leb}
use lib.ListN.{length, get_or, get_or-replicate, length-replicate}
use lib.Ieee as Ieee
use lib.Ieee.{Float, nan, binary64, of_bits, of_int, le}
use borrow.Author.Tests.{eqb-true, eq-eqb, leb-true, le-leb}
use Rattle.ieee.specs.Doubles.{nothing, one, whole}
use Rattle.ieee.specs.Units.{power, units}
use Rattle.ieee.specs.Extremes.{least}
use Rattle.ieee.proofs.Power.{power-is}
use Rattle.ieee.proofs.Value.{one_is}
use Rattle.ieee.proofs.Order.{le_is}
use Rattle.ieee.proofs.Laws.{int_is}
use Rattle.ieee.proofs.Extremes.{least-is}
use Rattle.flow.specs.Flow.{at, zeros, numbers, dims}
use Rattle.flow.proofs.Parts.{upto_at, all-at}
use Rattle.verdict.specs.Verdict.{is_admitted}
use Rattle.verdict.specs.declared.Verdict.{Verdict}
use Rattle.sender.specs.declared.Unit.{Unit}
use Rattle.sender.specs.declared.Name.{Name}
use Rattle.sender.specs.Sender.{name_of}
use Rattle.store.specs.Store.{Rows, with_tags}
use Rattle.store.specs.Held.{sizes_of}
use Rattle.wants.specs.Wants.{Hist}
use Rattle.std.proofs.lemmas.Bool.{and_parts}
use Rattle.head.specs.declared.Shedder.{Shedder}
use Rattle.store.specs.declared.Cause.{Cause}
use Rattle.head.specs.Questions.{is_rate, is_max, all_rates, is_unbounded, rates_whole, head_whole, start_asked, judge_asked, cut_asked}
use Rattle.head.specs.Start.{first_levels, opening, start}
use Rattle.head.proofs.Tests.{zero_yes}
use Rattle.head.proofs.Whole.{whole_of}
use Rattle.scan_trim.specs.Laws.{Rates, Trim, Levels}
use Rattle.scan.specs.Scanning.{scanning}
use Rattle.scan.proofs.Laws as scans
use Rattle.cut_counts.specs.Counting.{tally, added, cause_of, tallied, count_verdict}
use Rattle.judge.specs.Judging.{flowed, judged, Memory, Judged, bounded, judge}
use Rattle.cut.specs.Cutting.{KeptBy, kept_by, hands_back, flowed_back, handed_back, Cut, noted, cut_after, cut}
use Rattle.head_stays.proofs.Rates.{rates_in}
use Rattle.head_stays.specs.Ranges.{InRange, Ranges}

-- ---- rates
-- a rate of a whole head is 2 ^ 64 − 1, or 1 to 2 ^ 40
data Rate (n : ℕ) : Type 0 where
  top : n ≡ 18446744073709551615 → Rate n
  some : 1 ≤ n → n ≤ 2 ^ 40 → Rate n

of_max : (n : ℕ) → is_max n ≡ true → Rate n
unfolding is_max
of_max n e = top (eqb-true n 18446744073709551615 e)

of_rate : (n : ℕ) → is_rate n ≡ true → Rate n
unfolding is_rate
of_rate n e = let y = and_parts (leb 1 n) (leb n 1099511627776) e in some (leb-true 1 n y.0) (omega (arith, leb-true n 1099511627776 y.1))

each_rate : (rate : List ℕ) → rates_whole rate ≡ true → (d : ℕ) → d < dims → Rate (get_or rate d 0)
unfolding is_unbounded all_rates
each_rate rate e d small = go (is_unbounded rate) refl e
  where
    go : (b : Bool) → is_unbounded rate ≡ b → (b || all_rates rate) ≡ true → Rate (get_or rate d 0)
    go true f e = of_max (get_or rate d 0) (all-at (λ (d : ℕ). is_max (get_or rate d 0)) dims d small f)
    go false f e = of_rate (get_or rate d 0) (all-at (λ (d : ℕ). is_rate (get_or rate d 0)) dims d small e)

below : (n : ℕ) → Rate n → n < 2 ^ 64
below n (top e) = omega (arith, e)
below n (some l m) = omega (arith, l, m)

rates_of : (h : Shedder) → head_whole h ≡ true → Rates h
rates_of h w d small = below (get_or h.flow.rate d 0) (each_rate h.flow.rate (whole_of h w).rates d small)

-- ---- a start
quadrillion : of_bits binary64 0x430c_6bf5_2634_0000 ≡ whole 1000000000000000
unfolding of_bits of_int
quadrillion = refl

endless : le one (least (whole 18446744073709551615) (of_bits binary64 0x430c_6bf5_2634_0000)) ≡ true
unfolding of_bits of_int Ieee.lt Ieee.ne Ieee.eq le
endless = refl

first_one : (n : ℕ) → Rate n → le one (least (whole n) (of_bits binary64 0x430c_6bf5_2634_0000)) ≡ true
first_one n (top e) = subst (λ (k : ℕ). le one (least (whole k) (of_bits binary64 0x430c_6bf5_2634_0000)) ≡ true) (sym e) endless
first_one n (some l m) =
    let i = int_is n (le_trans (let w : n ≤ 2 ^ 53 = omega (arith, m) in w) (le_of_eq (power-is 53))) in
    let j = int_is 1000000000000000 (le_trans (let w : 1000000000000000 ≤ 2 ^ 53 = omega arith in w) (le_of_eq (power-is 53))) in
    let r = least-is i j in
    let a : 1 * power 1074 ≤ n * power 1074 = mul-le-mul_right (power 1074) l in
    let b : 1 * power 1074 ≤ 1000000000000000 * power 1074 = mul-le-mul_right (power 1074) (let w : 1 ≤ 1000000000000000 = omega arith in w) in
    subst (λ (x : Float). le one (least (whole n) x) ≡ true) (sym quadrillion)
    (le_is one (least (whole n) (whole 1000000000000000)) one_is.amount r.amount ∙ le-leb (units one) (units (least (whole n) (whole 1000000000000000))) (omega (arith, one_is.worth, r.worth)))

first_in : (rate : List ℕ) → rates_whole rate ≡ true → Levels (first_levels (numbers rate))
unfolding first_levels numbers
first_in rate e d small =
    subst (λ (x : Float). le one x ≡ true)
    (sym (upto_at nan (λ (d : ℕ). least (at (numbers rate) d) (of_bits binary64 0x430c_6bf5_2634_0000)) dims zeros d small (omega (arith, length-replicate dims nothing))
    ∙ ap (λ (x : Float). least x (of_bits binary64 0x430c_6bf5_2634_0000)) (upto_at nan (λ (d : ℕ). whole (get_or rate d 0)) dims zeros d small (omega (arith, length-replicate dims nothing)))))
    (first_one (get_or rate d 0) (each_rate rate e d small))

trim_one : Trim one
unfolding of_bits Ieee.lt Ieee.eq le
trim_one = record { least = refl; most = refl }

opening_in : (rate ceiling : List ℕ) (units counted : ℕ) → rates_whole rate ≡ true → InRange (opening rate ceiling units counted)
unfolding opening
opening_in rate ceiling units counted e = record {
  trims = λ d small. subst Trim (sym (get_or-replicate dims d one nan small)) trim_one;
  levels = first_in rate e;
}

start_in : (h : Shedder) (m : Rows) (k : List (List ℕ)) (g : Hist) (rate ceiling : List ℕ) → start_asked rate (sizes_of m k) ≡ 0 → InRange (start h m k g rate ceiling).head
unfolding start
start_in h m k g rate ceiling e = rw (eq-eqb (start_asked rate (sizes_of m k)) 0 e) (opening_in rate ceiling (length m.units) (length k) (asked e))
  where
    asked : start_asked rate (sizes_of m k) ≡ 0 → rates_whole rate ≡ true
    asked e = unfold start_asked in (zero_yes (rates_whole rate) _ 0 e).0

-- ---- a judgement: only its scan sets trims and levels
Held : Shedder → Type 0
Held h = Rates h × InRange h

judged_in : (h : Shedder) (m : Rows) (u : Unit) (cost : List Float) (now : ℕ) → Held h → Held (judged h m u cost now).head
unfolding judged flowed Held
judged_in h m u cost now p = (p.0, record { trims = p.1.trims; levels = p.1.levels })

tallied_in : (h : Shedder) (i : List ℕ) (k : List (List ℕ)) (n : Name) (cause receptions : ℕ) → Held h → Held (tallied (tally h i k) n cause receptions).head
unfolding tallied added Held
tallied_in h i k n cause receptions p = (p.0, record { trims = p.1.trims; levels = p.1.levels })

counted_in : (h : Shedder) (i : List ℕ) (k : List (List ℕ)) (n : Name) (v : Verdict) (cost : List ℕ) → Held h → Held (count_verdict (tally h i k) n v cost).head
unfolding count_verdict
counted_in h i k n v cost p = go (is_admitted v)
  where
    go : (b : Bool) → Held (cond b (tally h i k) (tallied (tally h i k) n (cause_of v) (get_or cost 0 0))).head
    go true = p
    go false = tallied_in h i k n (cause_of v) (get_or cost 0 0) p

bounded_in : (h : Shedder) (m : Memory) (u : Unit) (cost : List ℕ) (stamp : ℕ) → Held h → InRange (bounded h m u cost stamp).head
unfolding bounded Held
bounded_in h m u cost stamp p =
    let clock = max stamp h.flow.at_ms in
    let j = judged h m.rows u (numbers cost) clock in
    let t = count_verdict (tally j.head j.rows.tags m.counted) (name_of u) j.verdict cost in
    let q = counted_in j.head j.rows.tags m.counted (name_of u) j.verdict cost (judged_in h m.rows u (numbers cost) clock p) in
    let s = scanning t.head (with_tags j.rows t.tags) m.hist in
    record { trims = (scans.stays).trims s clock q.0 q.1.trims; levels = (scans.stays).levels s clock q.1.levels }

cond_judged : (b : Bool) (x y : Judged) → InRange x.head → InRange y.head → InRange (cond b x y).head
cond_judged true x y p q = p
cond_judged false x y p q = q

judge_in : (h : Shedder) (m : Memory) (u : Unit) (cost : List ℕ) (stamp : ℕ) → head_whole h ≡ true → InRange h → InRange (judge h m u cost stamp).head
unfolding judge Held
judge_in h m u cost stamp w p =
    cond_judged (eqb (judge_asked h (sizes_of m.rows m.counted) m.rows.offsets cost stamp) 0) _ _
    (cond_judged (is_unbounded h.flow.rate) _ _ p (bounded_in h m u cost stamp (rates_of h w, p))) p

-- ---- a cut
handed_in : (h : Shedder) (m : Rows) (u : Unit) (cost : List Float) → InRange h → InRange (handed_back (kept_by h m) u cost).head
unfolding handed_back flowed_back
handed_in h m u cost p = record { trims = p.trims; levels = p.levels }

after_in : (s : KeptBy) (k : List (List ℕ)) (u : Unit) (c : Cause) (cost : List ℕ) → InRange s.head → InRange (cut_after k u c cost s).head
unfolding noted tallied added
after_in s k u c cost p = record { trims = p.trims; levels = p.levels }

cond_cut : (b : Bool) (x y : Cut) → InRange x.head → InRange y.head → InRange (cond b x y).head
cond_cut true x y p q = p
cond_cut false x y p q = q

cut_in : (h : Shedder) (m : Rows) (k : List (List ℕ)) (u : Unit) (c : Cause) (cost : List ℕ) → InRange h → InRange (cut h m k u c cost).head
unfolding cut
cut_in h m k u c cost p =
    cond_cut (eqb (cut_asked h (sizes_of m k) m.offsets cost) 0) _ _
    (cond_cut (hands_back h.flow.rate c) _ _ (after_in (handed_back (kept_by h m) u (numbers cost)) k u c cost (handed_in h m u (numbers cost) p))
    (after_in (kept_by h m) k u c cost p)) p

pub ranges : Ranges
ranges = record { start = start_in; judge = judge_in; cut = cut_in; rates = rates_in }
