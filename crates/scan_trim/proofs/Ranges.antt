-- The trim stays in 0.5 to 1, and the level stored is at least 1 (specs/Laws.antt). Assumes nothing.
use mathlib.Core.Path.{◌≡◌, refl, sym, ap, ◌∙◌, subst}
use mathlib.Core.Logic.{◌⊎◌, inl, inr}
use mathlib.Core.Bool.{Bool, true, false, ◌&&◌, cond, true≢false}
use mathlib.Core.List.{List}
use Prim.Native.Nat.{ℕ, zero, suc, ◌-◌, ◌*◌, ◌%◌, ◌^◌, ◌<◌, ◌≤◌}
use native.Mathlib.Nat.{zero-mul, mul-le-mul_right, mul_assoc, mul-pos, mul-lt-mul_of_pos_right, lt_of_mul-lt-mul_right}
use native.Mathlib.Omega.{arith}
use lib.Dec.{T, eqb, leb, ltb, ltb→lt, lit<, lit≤}
use lib.IntN.{ℤ, pos}
use lib.ListN.{get_or}
use lib.Ieee as Ieee
use lib.Ieee.{Float, nan, inf, fin, binary64, fits, round, of_bits, lt, le, ne, up, down}
use lib.Ieee.Exact.{HasValue, round_exact}
use lib.Ieee.Fits.{and_r, down_pos, div-fits}
use Rattle.ieee.specs.Doubles.{nothing, one, whole, thousand}
use Rattle.ieee.specs.Units.{power, units, Amount}
use Rattle.ieee.specs.Extremes.{most, clamped}
use Rattle.ieee.proofs.Power.{power-is, power_pos, power_add, power_mono, power_times}
use Rattle.ieee.proofs.Value.{amount_value, amount_digits, zero_is, one_is}
use Rattle.std.proofs.lemmas.Float.{T_from_true}
use Rattle.ieee.proofs.Order.{lt_units}
use Rattle.ieee.proofs.Operations.{div_rounds, int_rounds}
use Rattle.ieee.proofs.Extremes.{clamped_nan}
use Rattle.ieee.proofs.Laws.{rounds_is}
use Rattle.flow.specs.Flow.{at, zeros, numbers, dims}
use Rattle.flow.proofs.Parts.{upto_at}
use Rattle.wants.specs.Wants.{Hist}
use Rattle.head.specs.declared.Shedder.{Shedder}
use Rattle.scan_trim.specs.Trimming.{is_finite, TRIM_STEP, step_of, trim_of, trims, trims_at, levels, opens, span_of}
use Rattle.scan_trim.specs.Laws.{Trim, Trims, Rates, Levels}
use Rattle.scan_trim.proofs.Doubles.{Number, finite, Finite, some, add_number, add_to, mul_number, div_number, clamp_number, clamp_trim, trim_positive, positive-finite, number_or_nan, most_least}

-- ---- a double above zero, divided by 1, is finite and not zero
fits_top : (s : Bool) (m : ℕ) (e : ℤ) → T (fits binary64 (fin s m e)) → m * up e < power 1024 * down e
unfolding fits power
fits_top s zero e t = subst (λ (z : ℕ). z < 2 ^ 1024 * down e) (sym (zero-mul (up e))) (mul-pos (lit< {m = 0} {n = 2 ^ 1024} tt) (down_pos e))
fits_top s (suc m) e t = ltb→lt (suc m * up e) (2 ^ 1024 * down e) (and_r (eqb (suc m % 2) 1 && ltb (suc m) (2 ^ 53) && leb (down e) (2 ^ 1074)) (ltb (suc m * up e) (2 ^ 1024 * down e)) t)

units_top : (x : Float) → Amount x → units x < power 2098
units_top nan a = absurd a.sign
units_top (inf s) a = absurd a.sign
units_top (fin true m e) a = absurd a.sign
units_top (fin false m e) a =
    let v = (amount_value (fin false m e) a).1 in
    let l = mul-lt-mul_of_pos_right (fits_top false m e a.fit) (power_pos 1074) in
    let p = ap (λ (z : ℕ). z * down e) (power_add 1024 1074) in
    lt_of_mul-lt-mul_right (down e) (omega arith)

value_finite : (x : Float) (a c : ℕ) → 0 < a → HasValue x false a c → Finite x
value_finite nan a c h v = absurd v
value_finite (inf s) a c h v = absurd v
value_finite (fin s m e) a c h v = some (λ z. let p = mul-pos h (down_pos e) in let q : m * up e * c ≡ 0 * up e * c = ap (λ (n : ℕ). n * up e * c) z in omega (arith, v.1))

over-one : (x : Float) → Amount x → 0 < units x → Finite (Ieee.div binary64 x one)
over-one x a h =
    let u = units x in
    let o : 0 < units one = subst (λ (z : ℕ). 0 < z) (sym one_is.worth) (power_pos 1074) in
    let d = amount_digits x a in
    let q = d.digits in
    let j = d.place in
    let den = units one * power 1074 in
    let w : q * 2 ^ j ≡ u = ap (λ (z : ℕ). q * z) (power-is j) ∙ sym d.is in
    subst Finite (sym (div_rounds x one a one_is.amount o).is_round)
    (value_finite (round binary64 false (u * power 1074) den) (u * power 1074) den (mul-pos h (power_pos 1074))
    (round_exact binary64 false (u * power 1074) den q j (mul-pos o (power_pos 1074))
    (subst (λ (z : ℕ). q < z) (sym (power-is 53)) d.few)
    (subst (λ (z : ℕ). z < 2 ^ 2098) (sym w) (subst (λ (z : ℕ). u < z) (sym (power-is 2098)) (units_top x a)))
    (ap (λ (z : ℕ). u * power 1074 * z) (power-is 1074) ∙ mul_assoc u (power 1074) (power 1074) ∙ ap (λ (z : ℕ). u * (z * power 1074)) (sym one_is.worth) ∙ ap (λ (z : ℕ). z * den) (sym w))))

-- ---- a span over which something was gained is finite
none_gained : (gain : Float) (s : Bool) → lt nothing (Ieee.div binary64 gain (inf s)) ≡ false
unfolding lt Ieee.div of_bits
none_gained nan s = refl
none_gained (inf t) s = refl
none_gained (fin true m e) true = refl
none_gained (fin true m e) false = refl
none_gained (fin false m e) true = refl
none_gained (fin false m e) false = refl

above : (x : Float) → T (fits binary64 x) → lt nothing x ≡ true → (x ≡ inf false) ⊎ Amount x
unfolding lt of_bits
above nan f h = absurd (true≢false (sym h))
above (inf true) f h = absurd (true≢false (sym h))
above (inf false) f h = inl refl
above (fin true m e) f h = absurd (true≢false (sym h))
above (fin false m e) f h = inr (record { fit = f; sign = tt })

span_finite : (gain span : Float) → T (fits binary64 span) → lt nothing span ≡ true → lt nothing (Ieee.div binary64 gain span) ≡ true → Finite (Ieee.div binary64 span one)
span_finite gain span f h k = elim (above span f h) [
  | inl e ↦ absurd (true≢false (sym k ∙ ap (λ (x : Float). lt nothing (Ieee.div binary64 gain x)) e ∙ none_gained gain false))
  | inr a ↦ over-one span a (let l = lt_units nothing span zero_is.amount a (T_from_true _ h) in omega (arith, zero_is.worth))
]

times : (x y : Float) → Finite x → Number y → Number (Ieee.mul binary64 x y)
times nan y x3 n = elim x3 [ ]
times (inf _) y x5 n = elim x5 [ ]
times (fin s m e) y (some o) n = mul_number s m e y o n

less_one : (x : Float) → Number x → Number (Ieee.sub binary64 x one)
unfolding Ieee.sub of_bits
less_one x n = add_number x true 1 (pos 0) n

plus_one : (x : Float) → Number x → Number (Ieee.add binary64 one x)
unfolding of_bits
plus_one x n = add_to x false 1 (pos 0) n

step_finite : Number (Ieee.sub binary64 one TRIM_STEP) × Number (Ieee.add binary64 one TRIM_STEP)
unfolding Ieee.sub of_bits
step_finite = (add_to (Ieee.neg TRIM_STEP) false 1 (pos 0) finite, add_to TRIM_STEP false 1 (pos 0) finite)

step_number : (s : Bool) (m : ℕ) (e : ℤ) (gained span : Float) → lt nothing gained ≡ true → Finite (Ieee.div binary64 span one) → Number (step_of (fin s m e) gained span)
unfolding step_of
step_number s m e gained span h k =
    clamp_number _ _ _ (plus_one _ (times _ _ k (less_one _ (div_number s m e gained h)))) step_finite.0 step_finite.1

-- ---- the trim, by its cases. Its bounds, and the trim where the level found is not finite, are read off the definition: they have to be trims themselves
module _ (found trim rate gain span : Float) where
  gained : Float
  gained = Ieee.div binary64 gain span

  product : Float
  product = Ieee.mul binary64 trim (step_of rate gained span)

  trim_by : (P : Float → Type 0) → P trim → ((x : Float) → Trim x → P x)
      → ((low high : Float) → Trim low → Trim high → lt nothing span ≡ true → lt nothing gained ≡ true → P (clamped product low high))
      → P (trim_of found trim rate gain span)
  unfolding trim_of gained product
  trim_by P before inside stepped =
      go _ _ _ (is_finite found) (lt nothing span) (lt nothing gained) refl refl
      (unfold le of_bits in record { least = refl; most = refl }) (unfold le of_bits in record { least = refl; most = refl }) (unfold le of_bits in record { least = refl; most = refl })
    where
      go : (low high whole : Float) (a b c : Bool) → lt nothing span ≡ b → lt nothing gained ≡ c → Trim low → Trim high → Trim whole
          → P (cond a (cond b (cond c (clamped product low high) trim) trim) whole)
      go low high whole false b c p q l h w = inside whole w
      go low high whole true false c p q l h w = before
      go low high whole true true false p q l h w = before
      go low high whole true true true p q l h w = stepped low high l h p q

pub trim_stays : (found trim gain span : Float) (s : Bool) (m : ℕ) (e : ℤ) → T (fits binary64 span) → Trim trim → Trim (trim_of found trim (fin s m e) gain span)
unfolding gained product
trim_stays found trim gain span s m e f t =
    trim_by found trim (fin s m e) gain span Trim t (λ x t. t)
    (λ low high l h p q. clamp_trim _ low high (times trim _ (positive-finite trim (trim_positive trim t)) (step_number s m e _ span q (span_finite gain span f p q))) l h)

pub trim_any : (found trim rate gain span : Float) → Trim (trim_of found trim rate gain span) ⊎ ((trim_of found trim rate gain span ≡ trim) ⊎ (trim_of found trim rate gain span ≡ nan))
trim_any found trim rate gain span =
    trim_by found trim rate gain span (λ (x : Float). Trim x ⊎ ((x ≡ trim) ⊎ (x ≡ nan))) (inr (inl refl)) (λ x t. inl t)
    (λ low high l h p q. elim (number_or_nan (product found trim rate gain span)) [
      | inl n ↦ inl (clamp_trim _ low high n l h)
      | inr e ↦ inr (inr (ap (λ (x : Float). clamped x low high) e ∙ clamped_nan low high))
    ])

-- ---- in each dimension
-- a u64 as a double is finite
whole_finite : (n : ℕ) → n < 2 ^ 64 → (s : Bool) × ((m : ℕ) × ((e : ℤ) × (whole n ≡ fin s m e)))
whole_finite n h = go (whole n) (rounds_is (int_rounds n) (let l : n ≤ 2 ^ 64 = omega arith in let m = mul-le-mul_right (power 1074) l in omega (arith, power_times 64 1074, power_mono (lit≤ {m = 1138} {n = 2097} tt)))).amount
  where
    go : (x : Float) → Amount x → (s : Bool) × ((m : ℕ) × ((e : ℤ) × (x ≡ fin s m e)))
    go nan a = absurd a.sign
    go (inf s) a = absurd a.sign
    go (fin s m e) a = (s, (m, (e, refl)))

numbers_at : (xs : List ℕ) (d : ℕ) → d < dims → at (numbers xs) d ≡ whole (get_or xs d 0)
unfolding numbers
numbers_at xs d l = upto_at nan (λ (d : ℕ). whole (get_or xs d 0)) dims zeros d l (lit≤ tt)

trims_part : (found trim rate admitted read : List Float) (span : Float) (d : ℕ) → d < dims
    → at (trims found trim rate admitted read span) d ≡ trim_of (at found d) (at trim d) (at rate d) (Ieee.sub binary64 (at admitted d) (at read d)) span
unfolding trims
trims_part found trim rate admitted read span d l = upto_at nan (λ (d : ℕ). trim_of (at found d) (at trim d) (at rate d) (Ieee.sub binary64 (at admitted d) (at read d)) span) dims zeros d l (lit≤ tt)

pub trims_stay : (h : Shedder) (g : Hist) → Rates h → Trims h.scan.trim → Trims (trims_at h g)
trims_stay h g r t d l =
    let w = whole_finite (get_or h.flow.rate d 0) (r d l) in
    subst Trim
    (sym (trims_part (opens g (numbers h.flow.rate)) h.scan.trim (numbers h.flow.rate) h.flow.admitted h.scan.read_admitted (span_of h.flow.at_ms h.scan.read_ms) d l
    ∙ ap (λ (x : Float). trim_of (at (opens g (numbers h.flow.rate)) d) (at h.scan.trim d) x (Ieee.sub binary64 (at h.flow.admitted d) (at h.scan.read_admitted d)) (span_of h.flow.at_ms h.scan.read_ms))
    (numbers_at h.flow.rate d l ∙ w.1.1.1)))
    (trim_stays _ _ _ _ w.0 w.1.0 w.1.1.0 (span_fits h.flow.at_ms h.scan.read_ms) (t d l))
  where
    span_fits : (a b : ℕ) → T (fits binary64 (span_of a b))
    span_fits a b = unfold span_of in div-fits binary64 (whole (a - b)) thousand

-- ---- the level stored: of a not-a-number as of a number
pub levels_least : (found trim : List Float) → Levels (levels found trim)
unfolding levels
levels_least found trim d l =
    subst (λ (x : Float). le one x ≡ true) (sym (upto_at nan _ _ zeros d (omega arith) (lit≤ tt)))
    (elim (number_or_nan (Ieee.mul binary64 (at found d) (at trim d))) [
      | inr e ↦ rw e (unfold le ne of_bits in refl)
      | inl n ↦ most_least (Ieee.mul binary64 (at found d) (at trim d)) _ n (unfold le of_bits in refl) (unfold of_bits in tt)
    ])

pub levels_are : (found trim : List Float) (d : ℕ) → d < dims → at (levels found trim) d ≡ most (Ieee.mul binary64 (at found d) (at trim d)) one
unfolding levels
levels_are found trim d l = upto_at nan _ _ zeros d (omega arith) (lit≤ tt)
