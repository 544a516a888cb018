-- New rates leave the head whole, its trims and levels in range, and the number of its records as it was. Assumes nothing.
use mathlib.Core.Path.{◌≡◌, refl}
use mathlib.Core.Bool.{Bool, true, false, cond}
use mathlib.Core.List.{List}
use Prim.Native.Nat.{ℕ, ◌<◌, max}
use native.Mathlib.Omega.{arith}
use lib.Dec.{eqb}
use borrow.Author.Tests.{eqb-true}
use Rattle.store.specs.Store.{Rows}
use Rattle.store.specs.Held.{sizes_of}
use Rattle.store.specs.declared.lent.Sizes.{Sizes}
use Rattle.head.specs.declared.Shedder.{Shedder}
use Rattle.head.specs.Headed.{headed}
use Rattle.head.specs.Questions.{whole_with, memory_whole, rates_whole, is_stamp, both_bounded, rates_asked}
use Rattle.head.proofs.Tests.{zero_yes}
use Rattle.head.proofs.Asked.{with_of, with_is}
use Rattle.head.proofs.Whole.{Whole, stamp_of, whole_of, whole_is}
use Rattle.rates.specs.Rates.{Changed, turned, set_rates}
use Rattle.head_stays.specs.Whole.{changed_whole}
use Rattle.head_stays.specs.Ranges.{InRange}

cond_changed : (P : Changed → Type 0) (b : Bool) (x y : Changed) → (b ≡ true → P x) → P y → P (cond b x y)
cond_changed P true x y f q = f refl
cond_changed P false x y f q = q

-- what the questions show
pub taken : (h : Shedder) (s : Sizes) (os rate : List ℕ) (stamp : ℕ) → rates_asked h s os rate stamp ≡ 0 → (rates_whole rate ≡ true) × (is_stamp stamp ≡ true)
unfolding rates_asked
taken h s os rate stamp e =
    let a = zero_yes (whole_with h os) _ 2 e in
    let b = zero_yes (memory_whole h s) _ 3 a.1 in
    let c = zero_yes (rates_whole rate) _ 0 b.1 in
    let d = zero_yes (is_stamp stamp) _ 5 c.1 in
    (c.0, d.0)

latest : (a b : ℕ) → a < 9007199254740992 → b < 9007199254740992 → max a b < 9007199254740992
latest a b p q = omega arith

pub turned_head : (h : Shedder) (rate ceiling : List ℕ) (stamp : ℕ) → Whole h → (rates_whole rate ≡ true) × (is_stamp stamp ≡ true)
    → Whole (headed h (turned h.flow rate ceiling (max stamp h.flow.at_ms)) h.overflow h.tracked)
unfolding turned
turned_head h rate ceiling stamp w q = record {
  rates = q.0;
  clock = latest stamp h.flow.at_ms (stamp_of stamp q.1) w.clock;
  at = w.at;
  began = w.began;
  read = w.read;
  tables = w.tables;
  units_least = w.units_least;
  units_most = w.units_most;
  counted_least = w.counted_least;
  counted_most = w.counted_most;
  tracked_held = w.tracked_held;
  counted_held = w.counted_held;
}

turned_whole : (h : Shedder) (os rate ceiling : List ℕ) (stamp : ℕ) → whole_with h os ≡ true → (rates_whole rate ≡ true) × (is_stamp stamp ≡ true)
    → whole_with (headed h (turned h.flow rate ceiling (max stamp h.flow.at_ms)) h.overflow h.tracked) os ≡ true
turned_whole h os rate ceiling stamp e q =
    let a = with_of h os e in
    let h1 = headed h (turned h.flow rate ceiling (max stamp h.flow.at_ms)) h.overflow h.tracked in
    with_is h1 os (whole_is h1 (turned_head h rate ceiling stamp (whole_of h a.head) q)) a.parts

pub rates_keeps : (h : Shedder) (m : Rows) (k : List (List ℕ)) (rate ceiling : List ℕ) (stamp : ℕ) → whole_with h m.offsets ≡ true → changed_whole m (set_rates h m k rate ceiling stamp)
unfolding set_rates
rates_keeps h m k rate ceiling stamp e =
    let a = rates_asked h (sizes_of m k) m.offsets rate stamp in
    cond_changed (changed_whole m) (eqb a 0) _ _ (λ z. turned_whole h m.offsets rate ceiling stamp e (taken h (sizes_of m k) m.offsets rate stamp (eqb-true a 0 z))) e

pub rates_in : (h : Shedder) (m : Rows) (k : List (List ℕ)) (rate ceiling : List ℕ) (stamp : ℕ) → InRange h → InRange (set_rates h m k rate ceiling stamp).head
unfolding set_rates
rates_in h m k rate ceiling stamp p =
    let a = rates_asked h (sizes_of m k) m.offsets rate stamp in
    cond_changed (λ (c : Changed). InRange c.head) (eqb a 0) _ _ (λ z. record { trims = p.trims; levels = p.levels }) p

-- no record comes in or leaves
pub rates_hold : (P : Rows → ℕ → Type 0) (h : Shedder) (m : Rows) (k : List (List ℕ)) (rate ceiling : List ℕ) (stamp : ℕ) → P m h.tracked → P m (set_rates h m k rate ceiling stamp).head.tracked
unfolding set_rates
rates_hold P h m k rate ceiling stamp p =
    let a = rates_asked h (sizes_of m k) m.offsets rate stamp in
    cond_changed (λ (c : Changed). P m c.head.tracked) (eqb a 0) _ _ (λ z. p) p
