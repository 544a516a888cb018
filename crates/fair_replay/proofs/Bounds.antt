-- Demand 3's three claims, of one run of a list. Assumes nothing.
use Rattle.std.proofs.Common.{◌≡◌, ℕ, zero, suc, ◌+◌, ◌-◌, ◌*◌, ◌%◌, ◌^◌, ◌<◌, ◌≤◌, Bool, true, false, T, List, [], ◌∷◌, length, get_or, sym, refl, ap, ◌∙◌, subst, true≢false, mul-le-mul_right, arith}
use native.Mathlib.Nat.{mod-le}
use lib.Ieee as Ieee
use Rattle.ieee.specs.Doubles.{one}
use Rattle.ieee.specs.Units.{power}
use Rattle.flow.specs.Flow.{dims}
use Rattle.sender.specs.declared.Unit as unit
use Rattle.std.proofs.Common.{Result, Ok, Err}
use Rattle.verdict.specs.declared.Verdict.{Verdict}
use Rattle.verdict.specs.declared.Verdict.TheVariants as verdict
use Rattle.head.specs.declared.Refusal.{Refusal}
use Rattle.fair.specs.Calls as calls
use Rattle.fair.specs.Calls.{State, Call, Judge, Event, Demand, event, events, by, span, admitted, handed, carried, burst_after, admitted_on, handed_on, fill_on, key, clock_at, want, judges, refused}
use Rattle.fair.specs.Runs.{sum, highest}
use Rattle.fair.proofs.Calls.{demand_three}
use Rattle.fair_row.specs.Replay.{Run, key_of, totals, is_over_share, over_share, ends_over_share}
use Rattle.fair_row.proofs.Totals.{parts_at}
use Rattle.fair_replay.specs.Bounds.{Begun, Relay, Share, Within, Spared}

demand : (rate ceiling : List ℕ) (first : State) → Begun rate ceiling first → Demand first
demand rate ceiling first b = subst (λ (s : State). Demand s) (sym b.left) (demand_three b.was b.memory rate ceiling b.bounded b.started)

total_most : (w : ℕ → State → Call → ℕ) (n : ℕ) (es : List Event) (d : ℕ) → d < dims → get_or (totals w n es) d 0 ≤ sum (by (w d)) n es
unfolding totals
total_most w n es d l = subst (λ (x : ℕ). x ≤ sum (by (w d)) n es) (sym (parts_at (λ (d : ℕ). sum (by (w d)) n es % 2 ^ 64) d l)) (mod-le (sum (by (w d)) n es) (2 ^ 64))

-- ---- the relay
-- a bound of every run of at least one call holds of the run of n: with no call nothing is admitted
relay_run : (a b burst gap : Event → List Event → ℕ) (es : List Event) (n : ℕ)
    → ((k : ℕ) → 256000 * sum a (suc k) es ≤ 256000 * highest burst (suc k) es + 256 * sum gap k es + 256000 * sum b (suc k) es + 1000 * suc k)
    → 256000 * sum a n es ≤ 256000 * highest burst n es + 256 * sum gap (n - 1) es + 256000 * sum b n es + 1000 * n
unfolding sum
relay_run a b burst gap es zero f = omega arith
relay_run a b burst gap es (suc k) f =
    subst (λ (j : ℕ). 256000 * sum a (suc k) es ≤ 256000 * highest burst (suc k) es + 256 * sum gap j es + 256000 * sum b (suc k) es + 1000 * suc k) (sym before) (f k)
  where
    before : suc k - 1 ≡ k
    before = omega arith

pub relay : (first : State) (x : Run) (total : List ℕ) → total ≡ totals admitted x.taken (events first x.list) → Relay first x total
relay first x total e rate ceiling begun d l =
    let es = events first x.list in
    let most : get_or total d 0 ≤ sum (by (admitted d)) x.taken es = subst (λ (t : List ℕ). get_or t d 0 ≤ sum (by (admitted d)) x.taken es) (sym e) (total_most admitted x.taken es d l) in
    let bound = relay_run (by (admitted d)) (by (handed d)) (by (burst_after d)) (carried d) es x.taken (λ k. (demand rate ceiling first begun).relay x.list d l k) in
    omega arith

-- ---- one record
share_run : (a b f : Event → List Event → ℕ) (p : ℕ) (es : List Event) (n : ℕ)
    → ((k : ℕ) → 256000 * sum a (suc k) es * p ≤ 256 * ((4000 + span es k) * highest f (suc k) es) + (256000 * sum b (suc k) es + 1000 * suc k) * p)
    → 256000 * sum a n es * p ≤ 256 * ((4000 + span es (n - 1)) * highest f n es) + (256000 * sum b n es + 1000 * n) * p
unfolding sum
share_run a b f p es zero g = omega arith
share_run a b f p es (suc k) g =
    subst (λ (j : ℕ). 256000 * sum a (suc k) es * p ≤ 256 * ((4000 + span es j) * highest f (suc k) es) + (256000 * sum b (suc k) es + 1000 * suc k) * p) (sym before) (g k)
  where
    before : suc k - 1 ≡ k
    before = omega arith

pub share : (watched : unit.Unit) (first : State) (x : Run) (total : List ℕ) → total ≡ totals (admitted_on (key_of watched)) x.taken (events first x.list) → Share watched first x total
share watched first x total e rate ceiling begun d l =
    let es = events first x.list in
    let r = key_of watched in
    let most : get_or total d 0 ≤ sum (by (admitted_on r d)) x.taken es = subst (λ (t : List ℕ). get_or t d 0 ≤ sum (by (admitted_on r d)) x.taken es) (sym e) (total_most (admitted_on r) x.taken es d l) in
    let times = mul-le-mul_right (power 1074) most in
    let bound = share_run (by (admitted_on r d)) (by (handed_on r d)) (by (fill_on r d)) (power 1074) es x.taken (λ k. (demand rate ceiling first begun).share r x.list d l k) in
    omega arith

-- ---- told over share
-- the list that ends with the newest call that was not refused
record Newest (first : State) (h : List Call) (e : Event) : Type 0 where
  pub before : List Call
  pub taken : refused (calls.state first before) e.call ≡ false
  pub state : calls.state first before ≡ e.before
  pub list : events first (e.call ∷ before) ≡ events first h

abbrev first_of : Event → List Event → Event
first_of d [] = d
first_of d (e ∷ es) = e

none_newest : (e : Event) (es : List Event) → [] ≡ e ∷ es → ⊥
none_newest e es f = let z = ap (length {A = Event}) f in omega arith

newest_by : (first : State) (c : Call) (h : List Call) (e : Event) (es : List Event) (b : Bool) → refused (calls.state first h) c ≡ b → (events first h ≡ e ∷ es → Newest first h e) → events first (c ∷ h) ≡ e ∷ es
    → Newest first (c ∷ h) e
unfolding events
newest_by first c h e es true r further f =
    let n = further (rw r at f) in
    record { before = n.before; taken = n.taken; state = n.state; list = n.list ∙ rw r refl }
newest_by first c h e es false r further f =
    let same : event (calls.state first h) c ≡ e = ap (first_of e) (rw r at f) in
    record {
      before = h;
      taken = subst (λ (x : Event). refused (calls.state first h) x.call ≡ false) same r;
      state = ap (λ (x : Event). x.before) same;
      list = ap (λ (x : Event). events first (x.call ∷ h)) (sym same);
    }

newest : (first : State) (h : List Call) (e : Event) (es : List Event) → events first h ≡ e ∷ es → Newest first h e
unfolding events
newest first [] e es f = absurd (none_newest e es f)
newest first (c ∷ h) e es f = newest_by first c h e es _ refl (newest first h e es) f

over_newest : (n : ℕ) (e : Event) (es : List Event) → ends_over_share n (e ∷ es) ≡ true → over_share e.before e.call ≡ true
unfolding ends_over_share
over_newest zero e es f = absurd (true≢false (sym f))
over_newest (suc n) e es f = f

answer_is : (a : Result Verdict Refusal) → is_over_share a ≡ true → a ≡ Ok verdict.OverShare
unfolding is_over_share
answer_is (Ok verdict.Admitted) f = absurd (true≢false (sym f))
answer_is (Ok verdict.OverShare) f = refl
answer_is (Ok verdict.RelayRate) f = absurd (true≢false (sym f))
answer_is (Err r) f = absurd (true≢false (sym f))

-- the third claim, of a state, a judgement and the calls up to it
abbrev Third : unit.Unit → List ℕ → ℕ → State → List Event → Type 0
Third u cost t s es = T (Ieee.le (want s u cost t) one) → Within (key s u (clock_at s t)) es → (judges s u cost t).answer ≡ Ok verdict.OverShare → ⊥

third : (rate ceiling : List ℕ) (first : State) (h : List Call) → Begun rate ceiling first → (s : State) (u : unit.Unit) (cost : List ℕ) (t : ℕ) → Newest first h (event s (Judge u cost t)) → Third u cost t s (events first h)
third rate ceiling first h begun s u cost t n =
    subst (λ (x : State). Third u cost t x (events first h)) n.state
    (subst (λ (es : List Event). Third u cost t (calls.state first n.before) es) n.list (λ w m a. (demand rate ceiling first begun).spared n.before u cost t n.taken w (λ d l k p. omega (arith, m d l k p)) a))

pub spared : (first : State) (x : Run) (over : Bool) → over ≡ ends_over_share x.taken (events first x.list) → Spared first x over
spared first x over e rate ceiling begun o s u cost t es f w m =
    third rate ceiling first x.list begun s u cost t (newest first x.list _ es f) w m
    (answer_is _ (over_newest x.taken (event s (Judge u cost t)) es (ap (ends_over_share x.taken) (sym f) ∙ sym e ∙ o)))
