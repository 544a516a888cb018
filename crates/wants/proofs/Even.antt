-- The part of its octave that a significand stands in is m, m + 1 or m + 2, with m its sixteenth by even steps. Assumes nothing.
use Rattle.std.proofs.Common.{◌≡◌, ℕ, ◌+◌, ◌-◌, ◌*◌, ◌/◌, ◌^◌, ◌<◌, ◌≤◌, Bool, true, false, ◌&&◌, T, leb, refl, subst, le_trans, lt_of_lt_of_le, not-le_of_lt, arith, leb→le, pow_mono, leb-false, leb-true}
use Rattle.std.specs.Int.{from_bool}
use native.Mathlib.Nat.{pow-le-pow_left, pow-lt-pow_left}
use native.Mathlib.Decide.{dec_le}
use lib.Ieee.Fits.{and_l, and_r}
use Rattle.wants.specs.Bucket.{From, Under, Sixteenth, Threshold}
use Rattle.wants.proofs.Each.{upto, each}
use Rattle.wants.proofs.Least.{under_last}

-- ---- an even step, (2 ^ 52 + m × 2 ^ 48) / 2 ^ 52, and the next one: 2 ^ m ≤ the one ^ 16, and the other ^ 16 ≤ 2 ^ (m + 3)
step : ℕ → ℕ
step m = 2 ^ 52 + m * 2 ^ 48

at : ℕ → Bool
at m = leb (2 ^ (832 + m)) (step m ^ 16) && leb (step (m + 1) ^ 16) (2 ^ (832 + (m + 3)))

tested : T (upto at 16)
unfolding upto at step
tested = tt

rule : (m : ℕ) → m < 16 → (2 ^ (832 + m) ≤ step m ^ 16) × (step (m + 1) ^ 16 ≤ 2 ^ (832 + (m + 3)))
unfolding at
rule m h =
    let a : Bool = leb (2 ^ (832 + m)) (step m ^ 16) in
    let b : Bool = leb (step (m + 1) ^ 16) (2 ^ (832 + (m + 3))) in
    let t : T (a && b) = each at 16 tested m h in
    (leb→le (2 ^ (832 + m)) (step m ^ 16) (and_l a b t), leb→le (step (m + 1) ^ 16) (2 ^ (832 + (m + 3))) (and_r a b t))

module _ (s m : ℕ) (h : m < 16) where
  from_step : step m ≤ s → From m s
  unfolding From
  from_step l = le_trans (rule m h).0 (pow-le-pow_left l 16)

  under_step : s < step (m + 1) → Under (m + 3) s
  unfolding Under
  under_step l = lt_of_lt_of_le (pow-lt-pow_left l (λ (e : 16 ≡ 0). omega arith)) (rule m h).1

-- ---- a power of two that is reached lies below one that is not
pub ordered : (i j s : ℕ) → From i s → Under j s → i < j
unfolding From Under
ordered i j s f u = elim (dec_le (i + 1) j) [
  | yes g ↦ omega arith
  | no g ↦ absurd (not-le_of_lt (lt_of_lt_of_le u (pow_mono {i = 832 + j} {j = 832 + i} (omega arith))) f)
]

-- ---- two comparisons tell which of the three it is
module _ (s m t u : ℕ) (small : s < 2 ^ 53) (f : From m s) (w : Under (m + 3) s) (x : Threshold (m + 1) t) (y : Threshold (m + 2) u) where
  part : (j k i : ℕ) → From j s → Under k s → k ≡ j + 1 → i ≡ j → Sixteenth s i
  part j k i f w next is = rw is (record { within = ordered j 16 s f (under_last 16 s (omega arith) small); from = f; under = subst (λ (n : ℕ). Under n s) next w })

  told : (a b : Bool) → leb t s ≡ a → leb u s ≡ b → Sixteenth s (m + from_bool a + from_bool b)
  told false false p q = part m (m + 1) _ f (x.under s small (leb-false t s p)) (omega arith) (omega arith)
  told true false p q = part (m + 1) (m + 2) _ (x.from s small (leb-true t s p)) (y.under s small (leb-false u s q)) (omega arith) (omega arith)
  told true true p q = part (m + 2) (m + 3) _ (y.from s small (leb-true u s q)) w (omega arith) (omega arith)
  told false true p q =
      let z : m + 2 < m + 1 = ordered (m + 2) (m + 1) s (y.from s small (leb-true u s q)) (x.under s small (leb-false t s p)) in absurd (omega arith)

pub sixteenth_is : (s t u : ℕ) → 2 ^ 52 ≤ s → s < 2 ^ 53 → Threshold ((s - 2 ^ 52) / 2 ^ 48 + 1) t → Threshold ((s - 2 ^ 52) / 2 ^ 48 + 2) u
    → Sixteenth s ((s - 2 ^ 52) / 2 ^ 48 + from_bool (leb t s) + from_bool (leb u s))
unfolding step
sixteenth_is s t u h l x y =
    let m : ℕ = (s - 2 ^ 52) / 2 ^ 48 in
    let k : m < 16 = omega arith in
    told s m t u l (from_step s m k (omega arith)) (under_step s m k (omega arith)) x y (leb t s) (leb u s) refl refl
