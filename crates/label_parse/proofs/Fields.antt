-- A field read from a text: where its reading stops, a turn of it, and that its number stays within its digits. Assumes nothing.
use mathlib.Core.Path.{◌≡◌, refl, sym, ap, ◌∙◌}
use mathlib.Core.List.{List}
use Prim.Native.Nat.{ℕ, zero, suc, ◌+◌, ◌-◌, ◌*◌, ◌^◌, ◌≤◌, ◌<◌}
use native.Mathlib.Nat.{pow-suc, pow-le-pow_right, mul-le-mul_right}
use native.Mathlib.Omega.{arith}
use borrow.Author.Tests.{lt-ltb, le-ltb}
use lib.ListN.{get_or}
use Rattle.label_parse.specs.declared.Field.{Field}
use Rattle.label_parse.specs.Parse.{digit, field, from, first_of, second-of}

module _ (base : ℕ) (s : List ℕ) (f : Field) where
  pub field_stop : (left : ℕ) → base ≤ digit (get_or s f.at 0) → field base left s f ≡ f
  unfolding field
  field_stop zero h = refl
  field_stop (suc left) h = simp (le-ltb _ _ h)

  pub field_end : (left : ℕ) → left ≤ 0 → field base left s f ≡ f
  unfolding field
  field_end zero h = refl
  field_end (suc left) h = absurd (omega arith)

  pub field_turn : (left : ℕ) → digit (get_or s f.at 0) < base
      → field base (suc left) s f ≡ field base left s (record { value = f.value * base + digit (get_or s f.at 0); at = f.at + 1 })
  unfolding field
  field_turn left h = simp (lt-ltb _ _ h)

-- a digit more, where the reading goes on to the place `end`
pub field_next : (base : ℕ) (s : List ℕ) (value at end d : ℕ) → at < end → d ≡ digit (get_or s at 0) → d < base
    → field base (end - at) s (record { value = value; at = at }) ≡ field base (end - (at + 1)) s (record { value = value * base + d; at = at + 1 })
field_next base s value at end d l e h =
    let k : end - at ≡ suc (end - (at + 1)) = omega arith in
    rw (e, k) (field_turn base s (record { value = value; at = at }) (end - (at + 1)) (rw e at h))

pub field_done : (base : ℕ) (s : List ℕ) (value at end : ℕ) (whole : Field) → end ≤ at → at ≤ end
    → field base (end - at) s (record { value = value; at = at }) ≡ whole → record { value = value; at = end } ≡ whole
field_done base s value at end whole h l e =
    let k : at ≡ end = omega arith in
    rw k at (sym (field_end base s (record { value = value; at = at }) (end - at) (omega arith)) ∙ e)

-- one digit more
pub grown : (base k : ℕ) {value d : ℕ} → value < base ^ k → d < base → value * base + d < base ^ suc k
grown base k {value} {d} h l =
    let m = mul-le-mul_right base h in
    rw (pow-suc base k) (omega (arith, m))

pub grown_within : (base k most : ℕ) {value d : ℕ} → value < base ^ k → d < base → k < most → value * base + d < base ^ most
grown_within base k most {value} {d} h l p = omega (arith, grown base k h l, pow-le-pow_right {n = base} (omega arith) {i = suc k} {j = most} p)

pub grown_next : (base start at : ℕ) {value d : ℕ} → start ≤ at → value < base ^ (at - start) → d < base → value * base + d < base ^ (at + 1 - start)
grown_next base start at from h l =
    let k : at + 1 - start ≡ suc (at - start) = omega arith in
    rw k (grown base (at - start) h l)

-- fewer digits than there may be
pub raised : (base k most value : ℕ) → value < base ^ k → k ≤ most → 0 < base → value < base ^ most
raised base k most value h l p = omega (arith, pow-le-pow_right {n = base} p {i = k} {j = most} l)

-- the second of two fields as they were read
pub second_is : (base most : ℕ) (s : List ℕ) (x y : Field) → x ≡ field base most s (from 3) → y ≡ field base most s (from (x.at + 1))
    → y.value ≡ (second-of base most s).value
unfolding first_of second-of
second_is base most s x y ex ey = ap (λ (w : Field). w.value) (ey ∙ ap (λ (w : Field). field base most s (from (w.at + 1))) ex)
