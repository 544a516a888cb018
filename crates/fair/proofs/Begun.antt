-- What a start at bounded rates leaves is tied to the model's first store, and every fill is lawful. Assumes nothing.
use mathlib.Core.Path.{◌≡◌, refl, sym, ap, ◌∙◌, subst}
use Prim.Native.Nat.{ℕ, ◌+◌, ◌*◌, ◌^◌, ◌≤◌, ◌<◌}
use native.Mathlib.Nat.{le_refl, le_of_eq, le_trans, mul-le-mul_right}
use native.Mathlib.Omega.{arith}
use mathlib.Core.Bool.{Bool, true, false, cond, ◌&&◌, ◌||◌}
use mathlib.Core.List.{List, []}
use lib.Dec.{eqb, ltb}
use lib.ListN.{length, get_or, replicate, length-replicate}
use lib.Ieee.{Float, nan, binary64, of_bits, of_int}
use Rattle.ieee.specs.Doubles.{nothing, whole}
use Rattle.ieee.specs.Units.{power, units, Amount}
use Rattle.ieee.proofs.Power.{power-is, power_times}
use Rattle.ieee.proofs.Laws.{int_is}
use Rattle.flow.specs.Flow as flow
use Rattle.ieee.specs.Extremes.{least}
use Rattle.flow.specs.Flow.{dims, at, bucket_at}
use Rattle.flow.specs.declared.Bucket.{Bucket}
use Rattle.flow.proofs.Parts.{upto_at, upto_length, buckets_at}
use Rattle.store.specs.Held.{sizes_of}
use Rattle.store.specs.declared.lent.Sizes.{Sizes}
use Rattle.parts.specs.Parts.{Rows, started}
use Rattle.parts.specs.Held.{Sized}
use Rattle.std.proofs.lemmas.Bool.{and_parts}
use Rattle.head.proofs.Tests.{zero_yes, no_yes}
use borrow.Author.Tests.{ltb-false, eqb-true}
use Rattle.wants.specs.Wants as wants
use Rattle.head.specs.declared.Shedder.{Shedder}
use Rattle.std.proofs.Common.{Ok}
use Rattle.head.specs.Answers.{refused}
use Rattle.fair.specs.Given as goal
use Rattle.fair.specs.Given.{Memory}
use Rattle.fair.specs.Tokens.{pot_of}
use Rattle.fair.specs.Store as model
use Rattle.fair.specs.Calls as calls
use Rattle.ieee.proofs.Extremes.{least-is}
use Rattle.fair.proofs.Level as lvl
use Rattle.fair.proofs.Level.{Level, finite}
use Rattle.fair.proofs.View.{Name, same, shares, listed}
use Rattle.fair.proofs.Stored.{held_started}
use Rattle.fair.proofs.Entry as entry
use Rattle.fair.proofs.Tied.{Tied}
use Rattle.fair.proofs.Judging as judging
use Rattle.fair.proofs.Judging.{bounded_rates}

numbers_at : (xs : List ℕ) (d : ℕ) → d < dims → at (goal.numbers xs) d ≡ whole (get_or xs d 0)
unfolding goal.numbers
numbers_at xs d small = upto_at nan (λ (d : ℕ). whole (get_or xs d 0)) dims goal.zeros d small (omega (arith, length-replicate dims nothing))

fills_at : (level rate : List Float) (d : ℕ) → d < dims → at (goal.fills level rate) d ≡ least (at level d) (at rate d)
unfolding goal.fills
fills_at level rate d small = upto_at nan (λ (d : ℕ). least (at level d) (at rate d)) dims goal.zeros d small (omega (arith, length-replicate dims nothing))

-- ---- a fill is a finite double from 0 to 2 ^ 40
pub fill_lawful : (h : Shedder) (rate : List ℕ) → h.flow.rate ≡ rate → goal.all_rates rate ≡ true → ((d : ℕ) → d < dims → Level (at h.level d)) → (d : ℕ) → d < dims
    → Amount (at (judging.fills h) d) × (units (at (judging.fills h) d) ≤ power 1114)
fill_lawful h rate e rates levels d small =
    let r = bounded_rates rate rates d small in
    let f = lvl.fill_is (at h.level d) (get_or rate d 0) r.0 r.1 (levels d small) in
    let q : at (judging.fills h) d ≡ least (at h.level d) (whole (get_or rate d 0)) =
    fills_at h.level (goal.numbers h.flow.rate) d small ∙ ap (least (at h.level d)) (numbers_at h.flow.rate d small ∙ ap (λ (xs : List ℕ). whole (get_or xs d 0)) e) in
    subst (λ (x : Float). Amount x × (units x ≤ power 1114)) (sym q) (f.amount, le_trans f.most (le_trans (mul-le-mul_right (power 1074) r.1) (le_of_eq (sym (power_times 40 1074)))))

-- ---- the first levels
quadrillion : of_bits binary64 0x430c_6bf5_2634_0000 ≡ whole 1000000000000000
unfolding of_bits of_int
quadrillion = refl

first_lawful : (rate : List ℕ) → goal.all_rates rate ≡ true → (d : ℕ) → d < dims → Level (at (goal.first_levels (goal.numbers rate)) d)
unfolding goal.first_levels
first_lawful rate rates d small =
    let r = bounded_rates rate rates d small in
    let n = get_or rate d 0 in
    let i = int_is n (le_trans (let w : n ≤ 2 ^ 53 = omega (arith, r.1) in w) (le_of_eq (power-is 53))) in
    let j = int_is 1000000000000000 (le_trans (let w : 1000000000000000 ≤ 2 ^ 53 = omega arith in w) (le_of_eq (power-is 53))) in
    let l = least-is i j in
    let q : at (flow.upto (λ (d : ℕ). least (at (goal.numbers rate) d) (of_bits binary64 0x430c_6bf5_2634_0000)) dims goal.zeros) d ≡ least (whole n) (whole 1000000000000000) =
    upto_at nan (λ (d : ℕ). least (at (goal.numbers rate) d) (of_bits binary64 0x430c_6bf5_2634_0000)) dims goal.zeros d small (omega (arith, length-replicate dims nothing))
    ∙ ap (λ (x : Float). least x (of_bits binary64 0x430c_6bf5_2634_0000)) (numbers_at rate d small) ∙ ap (least (whole n)) quadrillion in
    let a : 1 * power 1074 ≤ n * power 1074 = mul-le-mul_right (power 1074) r.0 in
    let b : 1 * power 1074 ≤ 1000000000000000 * power 1074 = mul-le-mul_right (power 1074) (let w : 1 ≤ 1000000000000000 = omega arith in w) in
    subst Level (sym q) (finite l.amount (omega (arith, l.worth)))

-- ---- the first buckets
buckets_long : (rate ceiling : List ℕ) → length (goal.buckets rate ceiling) ≡ dims
unfolding goal.buckets
buckets_long rate ceiling =
    upto_length (λ (d : ℕ). flow.opened (get_or rate d 0) (get_or ceiling d 0)) dims (replicate dims (record { tokens = nothing; burst = nothing; rate_per_ms = nothing }))
    ∙ length-replicate {A = Bucket} dims (record { tokens = nothing; burst = nothing; rate_per_ms = nothing })

buckets_are : (rate ceiling : List ℕ) (d : ℕ) → d < dims → bucket_at (goal.buckets rate ceiling) d ≡ flow.opened (get_or rate d 0) (get_or ceiling d 0)
unfolding goal.buckets
buckets_are rate ceiling d small =
    buckets_at (λ (d : ℕ). flow.opened (get_or rate d 0) (get_or ceiling d 0)) (replicate dims (record { tokens = nothing; burst = nothing; rate_per_ms = nothing })) d small
    (length-replicate {A = Bucket} dims (record { tokens = nothing; burst = nothing; rate_per_ms = nothing }))

abbrev pub by_dim : List ℕ → ℕ → ℕ
by_dim xs d = get_or xs d 0

-- ---- what a start leaves
opening_tied : (rate ceiling : List ℕ) (counted : ℕ) (m : Rows) → Sized m → goal.all_rates rate ≡ true
    → Tied (length m.units) rate ceiling (goal.opening rate ceiling (length m.units) counted) (started m) (model.store Name same shares (length m.units) (by_dim rate) (by_dim ceiling) []) 0
unfolding goal.opening model.store listed
opening_tied rate ceiling counted m z rates = record {
  rate_is = refl;
  ceiling_is = refl;
  room_is = refl;
  clock_is = refl;
  long = buckets_long rate ceiling;
  pot_is = λ d small. ap (λ (x : Bucket). pot_of x (get_or rate d 0) (get_or ceiling d 0)) (buckets_are rate ceiling d small);
  rows_is = refl;
  overflow_is = refl;
  whole = entry.new_whole 0;
  level_is = first_lawful rate rates;
  scan_is = le_refl 0;
  tables_is = let x : 0 ≤ 64 = omega arith in x;
  held = held_started (length m.units) m z refl;
}

-- ---- what question 2 shows
-- so many unit records and counted records
pub record Rooms (u c : ℕ) : Type 0 where
  pub some : 1 ≤ u
  pub most : u ≤ 131072
  pub two : 2 ≤ c
  pub counted : c ≤ 4097

rooms_of : (u c t k : ℕ) → goal.rooms_whole u c t k ≡ true → Rooms u c
unfolding goal.rooms_whole
rooms_of u c t k e =
    let a = no_yes (ltb u 1) _ e in
    let b = no_yes (ltb 131072 u) _ a.1 in
    let d = no_yes (ltb c 2) _ b.1 in
    let f = no_yes (ltb 4097 c) _ d.1 in
    record { some = ltb-false u 1 a.0; most = ltb-false 131072 u b.0; two = ltb-false c 2 d.0; counted = ltb-false 4097 c f.0 }

pub record SizesWhole (s : Sizes) : Type 0 where
  pub tags : s.tags ≡ s.units + s.counted
  pub slots : s.slots ≡ s.units
  pub free : s.free ≡ s.units
  pub uses : s.uses ≡ s.units
  pub rooms : Rooms s.units s.counted

asked_sizes : (rate : List ℕ) (s : Sizes) → goal.start_asked rate s ≡ 0 → SizesWhole s
unfolding goal.start_asked goal.sizes_whole goal.tags_whole goal.slots_whole
asked_sizes rate s e =
    let a = zero_yes (goal.is_unbounded rate || goal.all_rates rate) _ 0 e in
    let b = zero_yes (goal.sizes_whole s) 0 1 a.1 in
    let c = and_parts (eqb s.tags (s.units + s.counted)) _ b.0 in
    let d = and_parts (goal.slots_whole s) (goal.rooms_whole s.units s.counted 0 0) c.1 in
    let f = and_parts (eqb s.slots s.units) (eqb s.free s.units && eqb s.uses s.units) d.0 in
    let g = and_parts (eqb s.free s.units) (eqb s.uses s.units) f.1 in
    record {
      tags = eqb-true s.tags (s.units + s.counted) c.0;
      slots = eqb-true s.slots s.units f.0;
      free = eqb-true s.free s.units g.0;
      uses = eqb-true s.uses s.units g.1;
      rooms = rooms_of s.units s.counted 0 0 d.1;
    }

sized : (m : Rows) (k : List (List ℕ)) → SizesWhole (sizes_of m k) → Sized m
sized m k z = record {
  some = let a = z.rooms.some in omega arith;
  most = z.rooms.most;
  tags = let a = z.tags in omega arith;
  slots = z.slots;
  free = z.free;
  uses = z.uses;
}

-- ---- a start that is not refused
started_so : (n : ℕ) (h o : Shedder) (m r : Rows) (g k : wants.Hist) (a : Bool) → (cond a (goal.start_ends (Ok tt) o r k) (goal.start_ends (refused n) h m g)).answer ≡ Ok tt → a ≡ true
started_so n h o m r g k true e = refl
started_so n h o m r g k false e = absurd (let z : ◌≡◌ {A = ℕ} 0 1 = cc in omega arith)

module _ (was : Shedder) (m : Memory) (rate ceiling : List ℕ) (e : (calls.starts was m rate ceiling).answer ≡ Ok tt) where
  abbrev asked : ℕ
  asked = goal.start_asked rate (sizes_of m.rows m.counted)

  abbrev opens : Shedder
  opens = goal.opening rate ceiling (length m.rows.units) (length m.counted)

  asked_yes : eqb asked 0 ≡ true
  unfolding goal.start
  asked_yes = started_so asked was opens m.rows (started m.rows) m.hist wants.cleared (eqb asked 0) e

  pub start_sizes : SizesWhole (sizes_of m.rows m.counted)
  start_sizes = asked_sizes rate (sizes_of m.rows m.counted) (eqb-true asked 0 asked_yes)

  pub left_is : calls.starts was m rate ceiling ≡ goal.start_ends (Ok tt) opens (started m.rows) wants.cleared
  unfolding goal.start
  left_is = ap (λ (c : Bool). cond c (goal.start_ends (Ok tt) opens (started m.rows) wants.cleared) (goal.start_ends (refused asked) was m.rows m.hist)) asked_yes

  pub left_tied : goal.all_rates rate ≡ true
      → Tied (length m.rows.units) rate ceiling (calls.left was m rate ceiling).head (calls.left was m rate ceiling).memory.rows
      (model.store Name same shares (length m.rows.units) (by_dim rate) (by_dim ceiling) []) 0
  left_tied rates =
      subst (λ (s : goal.Beginning). Tied (length m.rows.units) rate ceiling s.head s.rows (model.store Name same shares (length m.rows.units) (by_dim rate) (by_dim ceiling) []) 0) (sym left_is)
      (opening_tied rate ceiling (length m.counted) m.rows (sized m.rows m.counted start_sizes) rates)
