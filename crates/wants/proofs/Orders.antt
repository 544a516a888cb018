-- The counts added in either order, and the buckets walked upward. Assumes nothing.
use Rattle.std.proofs.Common.{◌≡◌, ℕ, zero, suc, ◌+◌, ◌-◌, ◌*◌, ◌^◌, ◌<◌, ◌≤◌, List, get_or, sym, refl, ap, ap₂, ◌∙◌, subst, add-one, arith}
use lib.Ieee.{Float, binary64, add}
use Rattle.ieee.specs.Doubles.{nothing, whole}
use Rattle.ieee.specs.Units.{power, Is}
use Rattle.ieee.proofs.Laws.{int_is}
use Rattle.wants.specs.Wants.{Hist, counts_of, sums_of, counted, next, walked, found, level}
use Rattle.wants.specs.Laws.{counted_upward, first_units, last_units, Counts, Holds, EitherOrder, Total, level_upward, SameLevel, Alike, Upward}
use Rattle.wants.proofs.Whole.{within, sum_of, number_zero}

pub first_none : (cs : List ℕ) → first_units cs 0 ≡ 0
unfolding first_units
first_none cs = refl

pub first_next : (cs : List ℕ) (b : ℕ) → first_units cs (b + 1) ≡ first_units cs b + get_or cs b 0
unfolding first_units
first_next cs b = rw add-one

-- what stands before the last b of n buckets, and the last b of them
split : (cs : List ℕ) (n b : ℕ) → b ≤ n → last_units cs n b + first_units cs (n - b) ≡ first_units cs n
unfolding last_units
split cs n zero h =
    let e : n - 0 ≡ n = omega arith in
    omega (arith, ap (first_units cs) e)
split cs n (suc b) h =
    let e : n - b ≡ n - suc b + 1 = omega arith in
    let f : first_units cs (n - b) ≡ first_units cs (n - suc b) + get_or cs (n - suc b) 0 = ap (first_units cs) e ∙ first_next cs (n - suc b) in
    omega (arith, f, split cs n b (omega arith))

last_all : (cs : List ℕ) (n : ℕ) → last_units cs n n ≡ first_units cs n
last_all cs n =
    let e : n - n ≡ 0 = omega arith in
    let z : first_units cs (n - n) ≡ 0 = ap (first_units cs) e ∙ first_none cs in
    omega (arith, z, split cs n n (omega arith))

-- the first b counts come to b × 2 ^ 32 at most
bounded : (cs : List ℕ) (n b : ℕ) → Counts cs n → b ≤ n → first_units cs b ≤ b * 2 ^ 32
unfolding first_units
bounded cs n zero h l = omega arith
bounded cs n (suc b) h l = omega (arith, h b (omega arith), bounded cs n b h (omega arith))

less : (cs : List ℕ) (n b : ℕ) → b ≤ n → first_units cs b ≤ first_units cs n
less cs n b l =
    let e : n - (n - b) ≡ b = omega arith in
    let s : last_units cs n (n - b) + first_units cs b ≡ first_units cs n = ap (λ (k : ℕ). last_units cs n (n - b) + first_units cs k) (sym e) ∙ split cs n (n - b) (omega arith) in
    omega (arith, s)

-- as doubles
upward_is : (cs : List ℕ) (b : ℕ) → first_units cs b ≤ 2 ^ 53 → counted_upward cs b ≡ whole (first_units cs b)
unfolding counted_upward first_units
upward_is cs zero h = sym number_zero
upward_is cs (suc b) h =
    ap (λ (x : Float). add binary64 x (whole (get_or cs b 0))) (upward_is cs b (omega arith))
    ∙ sum_of (first_units cs b) (get_or cs b 0) h

downward_is : (cs : List ℕ) (n b : ℕ) → last_units cs n b ≤ 2 ^ 53 → counted cs n b ≡ whole (last_units cs n b)
unfolding counted last_units
downward_is cs n zero h = sym number_zero
downward_is cs n (suc b) h =
    ap (λ (x : Float). add binary64 x (whole (get_or cs (n - suc b) 0))) (downward_is cs n b (omega arith))
    ∙ sum_of (last_units cs n b) (get_or cs (n - suc b) 0) h

-- the whole number that the buckets come to is their sum from the top
pub from_the_top : (cs : List ℕ) (n total : ℕ) → total ≡ first_units cs n → total ≤ 2 ^ 53 → whole total ≡ counted cs n n
from_the_top cs n total e h =
    let all : last_units cs n n ≡ total = last_all cs n ∙ sym e in
    ap whole (sym all) ∙ sym (downward_is cs n n (omega (arith, all)))

holds : (x : Float) (n : ℕ) → x ≡ whole n → n ≤ 2 ^ 53 → Holds x n
holds x n e h = subst (λ (y : Float). Holds y n) (sym e) (int_is n (within n h))

pub either_order : Total
either_order cs n room h =
    let most : first_units cs n ≤ 2 ^ 53 = omega (arith, bounded cs n n h (omega arith), room) in
    record {
      upward = λ b l.
          let small : first_units cs b ≤ 2 ^ 53 = omega (arith, less cs n b l, most) in
          holds (counted_upward cs b) (first_units cs b) (upward_is cs b small) small;
      downward = λ b l.
          let small : last_units cs n b ≤ 2 ^ 53 = omega (arith, split cs n b l, most) in
          holds (counted cs n b) (last_units cs n b) (downward_is cs n b small) small;
      total = sym (from_the_top cs n (first_units cs n) refl most) ∙ sym (upward_is cs n most);
    }

pub same_level : SameLevel
unfolding level level_upward
same_level h d rate small =
    ap (λ (units : Float). found (walked (counts_of h d) (sums_of h d) rate units 768)) (either_order (counts_of h d) 768 (omega arith) small).total

pub upward : Upward
unfolding walked
upward cs ds ss ts rate units zero same = refl
upward cs ds ss ts rate units (suc b) same =
    simp (upward cs ds ss ts rate units b (λ k m. same k (omega arith)), (same b (omega arith)).0, (same b (omega arith)).1)
