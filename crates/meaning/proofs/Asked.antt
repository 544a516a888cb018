-- The page's questions are those of the crate head. Assumes nothing.
use mathlib.Core.Path.{◌≡◌, refl}
use mathlib.Core.Bool.{Bool, true, false, cond, not, ◌&&◌}
use mathlib.Core.List.{List}
use Prim.Native.Nat.{ℕ, zero, suc, ◌+◌}
use native.Mathlib.Omega.{arith}
use native.Mathlib.Decide.{dec_le}
use lib.Dec.{leb, ltb, leb-zero}
use lib.ListN.{length, get_or}
use borrow.Author.Tests.{lt-ltb, le-ltb, le-leb, lt-leb}
use Rattle.flow.specs.Flow.{all}
use Rattle.shifting.specs.Offsets.{rising, is_whole}
use Rattle.store.specs.Held.{sizes_of}
use Rattle.head.specs.Questions as asked
use Rattle.meaning.specs.State.{State, Shedder}
use Rattle.meaning.specs.Page as page

pub unbounded_is : (r : List ℕ) → page.is_unbounded r ≡ asked.is_unbounded r
unfolding page.is_unbounded asked.is_unbounded asked.is_max
unbounded_is r = refl

pub and_assoc : (a b c : Bool) → ((a && b) && c) ≡ (a && (b && c))
and_assoc true b c = refl
and_assoc false b c = refl

-- a test and its opposite
pub below_is : (a b : ℕ) (x : Bool) → cond (ltb b a) false x ≡ (leb a b && x)
below_is a b x = elim (dec_le a b) [ yes h ↦ rw (le-ltb b a h, le-leb a b h) refl | no h ↦ rw (lt-ltb b a (omega (arith, h)), lt-leb a b (omega (arith, h))) refl ]

pub ltb_not : (a b : ℕ) → ltb b a ≡ not (leb a b)
ltb_not a b = elim (dec_le a b) [ yes h ↦ rw (le-ltb b a h, le-leb a b h) refl | no h ↦ rw (lt-ltb b a (omega (arith, h)), lt-leb a b (omega (arith, h))) refl ]

pub rates_is : (r : List ℕ) → page.rates_whole r ≡ asked.rates_whole r
unfolding page.rates_whole page.is_unbounded asked.is_unbounded asked.is_max asked.all_rates asked.is_rate
rates_is r = refl

pub stamp_is : (t : ℕ) → page.is_stamp t ≡ asked.is_stamp t
unfolding page.is_stamp asked.is_stamp
stamp_is t = refl

pub costs_is : (cost : List ℕ) → page.costs_held cost ≡ asked.costs_held cost
unfolding page.costs_held asked.costs_held
costs_is cost = refl

rising_is : (os : List ℕ) (n : ℕ) → all (λ t. leb (get_or os t 0) (get_or os (t + 1) 0)) n ≡ rising os n
unfolding all rising
rising_is os zero = refl
rising_is os (suc n) = rw (rising_is os n) refl

offsets_is : (os : List ℕ) (n : ℕ) → page.offsets_whole os n ≡ is_whole os n
unfolding page.offsets_whole is_whole
offsets_is os n = rw (rising_is os 64) refl

pub head_is : (h : Shedder) (os : List ℕ) → page.head_whole h os ≡ asked.whole_with h os
unfolding page.head_whole page.rooms_whole asked.whole_with asked.head_whole asked.stamps_whole asked.tables_whole asked.rooms_whole
head_is h os = simp (rates_is, stamp_is, below_is, offsets_is, and_assoc)

-- ---- the memory
pub memory_is : (s : State) → page.memory_whole s ≡ asked.memory_whole s.head (sizes_of s.rows s.counted)
unfolding page.memory_whole page.records_whole asked.memory_whole asked.tags_whole asked.slots_whole
memory_is s = simp and_assoc

kept_one : (c : ℕ) → (leb 2 c && (leb c 4097 && ltb 0 c)) ≡ (leb 2 c && leb c 4097)
kept_one c = elim (dec_le 2 c) [ yes h ↦ rw (lt-ltb 0 c (omega (arith, h)), le-leb 2 c h) (last (leb c 4097)) | no h ↦ rw (lt-leb 2 c (omega (arith, h))) refl ]
  where
    last : (t : Bool) → (t && true) ≡ t
    last true = refl
    last false = refl

pub sizes_is : (s : State) → (page.records_whole s && page.rooms_whole (length s.rows.units) (length s.counted)) ≡ asked.sizes_whole (sizes_of s.rows s.counted)
unfolding page.records_whole page.rooms_whole asked.sizes_whole asked.tags_whole asked.slots_whole asked.rooms_whole
sizes_is s = simp (below_is, leb-zero, and_assoc, kept_one)
