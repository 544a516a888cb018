-- A written line is read back: numbers, units, causes, and each form. Assumes nothing.
use mathlib.Core.Path.{◌≡◌, refl, sym, ap, ◌∙◌}
use mathlib.Core.Bool.{Bool, true, false, cond}
use mathlib.Core.List.{List, [], ◌∷◌, ◌++◌}
use Prim.Native.Nat.{ℕ, zero, suc, ◌+◌, ◌-◌, ◌*◌, ◌/◌, ◌%◌, ◌^◌, ◌<◌}
use native.Mathlib.Nat.{pow-zero, pow-suc, div-add-mod', mod-lt, div-lt_iff_lt-mul}
use native.Mathlib.Decide.{dec_lt}
use native.Mathlib.Omega.{arith}
use borrow.Author.Tests.{lt-ltb, le-ltb}
use Rattle.io.specs.Digits.{hex_digit_ascii}
use Rattle.text.specs.Number.{numeral, decimal}
use Rattle.text.specs.Order.{same}
use Rattle.text.proofs.Orders.{same_refl, same_eq}
use Rattle.sender.specs.declared.Unit as unit
use Rattle.std.specs.Prelude.{Some, None}
use Rattle.label.specs.Label.{label}
use Rattle.label_parse.specs.Parse.{parse, is_label, unit_in, InRange}
use Rattle.label_parse.proofs.Parsing.{label_parse_lem}
use Rattle.store.specs.declared.Cause as cause
use Rattle.store.specs.declared.Cause.TheVariants.{ReceiverCeiling, OverShare, RelayRate}
use Rattle.trial_script.specs.declared.StartLine.{StartLine}
use Rattle.trial_script.specs.declared.JudgeLine.{JudgeLine}
use Rattle.trial_script.specs.declared.CutLine.{CutLine}
use Rattle.trial_script.specs.declared.Line as script
use Rattle.trial_script.specs.declared.Line.TheVariants.{Start, Judge, Cut, Report}
use Rattle.trial_script.specs.Fields.{width, first, rest, grown, read, number_in, is_number, are_numbers, number_at}
use Rattle.trial_script.specs.Script.{cause_name, cause_in, is_cause, amounts_at, start_in, judge_in, cut_of, cut_in, line, spaced, text_of, StartFits, JudgeFits, CutFits, Written}
use Rattle.trial_script.proofs.Walking.{grown_fits}
use Rattle.trial_script.proofs.Clear.{first_seam, rest_seam, first_whole, decimal_clear, label_clear, cause_clear}

-- ---- numbers

read_append : (n : ℕ) (a : List ℕ) (x : ℕ) → read n (a ++ (x ∷ [])) ≡ grown (read n a) x
unfolding read
read_append n [] x = refl
read_append n (y ∷ a) x = read_append (grown n y) a x

glyph_value : (d : ℕ) → d < 10 → d ≡ hex_digit_ascii d - 48
glyph_value d h = simp (lt-ltb d 10 h) (omega arith)

grown_digit : (n d : ℕ) → d < 10 → n * 10 + d < 18446744073709551616 → grown n (hex_digit_ascii d) ≡ n * 10 + d
grown_digit n d h l = sym (grown_fits n (hex_digit_ascii d) d (glyph_value d h) l)

read_numeral : (most n : ℕ) → n < 10 ^ most → n < 18446744073709551616 → read 0 (numeral 10 most n) ≡ n
unfolding numeral read
read_numeral zero n below small = omega (arith, pow-zero 10)
read_numeral (suc most) n below small =
    let more : List ℕ = numeral 10 most (n / 10) ++ (hex_digit_ascii (n % 10) ∷ []) in
    elim (dec_lt n 10) [
      | yes h ↦ ap (λ (t : Bool). read 0 (cond t (hex_digit_ascii n ∷ []) more)) (lt-ltb n 10 h) ∙ grown_digit 0 n h (omega arith) ∙ omega arith
      | no h ↦
          let m : n % 10 < 10 = mod-lt n (omega arith) in
          ap (λ (t : Bool). read 0 (cond t (hex_digit_ascii n ∷ []) more)) (le-ltb n 10 (omega arith))
          ∙ (read_append 0 (numeral 10 most (n / 10)) (hex_digit_ascii (n % 10))
          ∙ ap (λ (v : ℕ). grown v (hex_digit_ascii (n % 10)))
          (read_numeral most (n / 10) ((div-lt_iff_lt-mul (omega arith)).1 (rw (pow-suc 10 most) at below)) (omega arith))
          ∙ grown_digit (n / 10) (n % 10) m (omega (arith, div-add-mod' n 10))
          ∙ div-add-mod' n 10)
    ]

number_read : (n : ℕ) → n < 18446744073709551616 → number_in (decimal n) ≡ n
unfolding number_in decimal
number_read n h = read_numeral 20 n (omega arith) h

is_number_read : (n : ℕ) → n < 18446744073709551616 → is_number (decimal n) ≡ true
unfolding is_number
is_number_read n h = simp (number_read n h, same_refl (decimal n))

-- a number, a space and what stands behind
module _ (n : ℕ) (h : n < 18446744073709551616) (b : List ℕ) where
  abbrev front : List ℕ
  front = decimal n ++ (32 ∷ b)

  are_next : (k : ℕ) → are_numbers (suc k) front ≡ are_numbers k b
  unfolding are_numbers
  are_next k = simp (first_seam (decimal n) b (decimal_clear n), rest_seam (decimal n) b (decimal_clear n), is_number_read n h)

  at_first : number_at 0 front ≡ n
  unfolding number_at
  at_first = ap number_in (first_seam (decimal n) b (decimal_clear n)) ∙ number_read n h

  at_next : (k : ℕ) → number_at (suc k) front ≡ number_at k b
  unfolding number_at
  at_next k = ap (number_at k) (rest_seam (decimal n) b (decimal_clear n))

-- the last number
are_last : (n : ℕ) → n < 18446744073709551616 → are_numbers 0 (decimal n) ≡ true
unfolding are_numbers
are_last n h = is_number_read n h

at_last : (n : ℕ) → n < 18446744073709551616 → number_at 0 (decimal n) ≡ n
unfolding number_at
at_last n h = ap number_in (first_whole (decimal n) (decimal_clear n)) ∙ number_read n h

-- a number has no space, so it is its own first field
pub number_text : (s : List ℕ) → is_number s ≡ true → decimal (number_in s) ≡ s
unfolding is_number
number_text s e = same_eq (decimal (number_in s)) s e

pub number_first : (s : List ℕ) → is_number s ≡ true → first s ≡ s
number_first s e = first_whole s (rw (number_text s e) at (decimal_clear (number_in s)))

-- ---- units and causes

label_read_by : (s : List ℕ) (u : unit.Unit) (t : Bool) → cond t (Some (unit_in s)) None ≡ Some u → (t ≡ true) × (unit_in s ≡ u)
label_read_by s u true e = (refl, cc)
label_read_by s u false e = let z : ◌≡◌ {A = ℕ} 0 1 = cc in absurd (omega arith)

label_none_by : (s : List ℕ) (t : Bool) → cond t (Some (unit_in s)) None ≡ None → t ≡ false
label_none_by s true e = let z : ◌≡◌ {A = ℕ} 0 1 = cc in absurd (omega arith)
label_none_by s false e = refl

pub label_some : (s : List ℕ) (u : unit.Unit) → Some u ≡ parse s → (is_label s ≡ true) × (unit_in s ≡ u)
unfolding parse
label_some s u e = label_read_by s u (is_label s) (sym e)

pub label_none : (s : List ℕ) → None ≡ parse s → is_label s ≡ false
unfolding parse
label_none s e = label_none_by s (is_label s) (sym e)

label_read : (u : unit.Unit) → InRange u → (is_label (label u) ≡ true) × (unit_in (label u) ≡ u)
unfolding parse
label_read u r = label_read_by (label u) u (is_label (label u)) (label_parse_lem u r)

cause_read : (c : cause.Cause) → (is_cause (cause_name c) ≡ true) × (cause_in (cause_name c) ≡ c)
unfolding is_cause cause_in cause_name same
cause_read ReceiverCeiling = (refl, refl)
cause_read OverShare = (refl, refl)
cause_read RelayRate = (refl, refl)

-- ---- forms

line_start : (s : List ℕ) → line (82 ∷ 32 ∷ s) ≡ start_in s
unfolding line first rest width same
line_start s = refl

line_judge : (s : List ℕ) → line (74 ∷ 32 ∷ s) ≡ judge_in s
unfolding line first rest width same
line_judge s = refl

line_cut : (s : List ℕ) → line (67 ∷ 32 ∷ s) ≡ cut_in s
unfolding line first rest width same
line_cut s = refl

line_report : line (80 ∷ []) ≡ Some Report
unfolding line same
line_report = refl

start_read : (l : StartLine) → StartFits l → line (text_of (Start l)) ≡ Some (Start l)
unfolding text_of spaced start_in amounts_at
start_read l f =
    let a = l.rate.receptions in
    let b = l.rate.bytes in
    let c = l.ceiling.receptions in
    let d = l.ceiling.bytes in
    let ha = f.rate_fits.receptions_fit in
    let hb = f.rate_fits.bytes_fit in
    let hc = f.ceiling_fits.receptions_fit in
    let hd = f.ceiling_fits.bytes_fit in
    let s3 : List ℕ = decimal d in
    let s2 : List ℕ = decimal c ++ (32 ∷ s3) in
    let s1 : List ℕ = decimal b ++ (32 ∷ s2) in
    let are = are_next a ha s1 2 ∙ are_next b hb s2 1 ∙ are_next c hc s3 0 ∙ are_last d hd in
    let v1 = at_next a ha s1 0 ∙ at_first b hb s2 in
    let v2 = at_next a ha s1 1 ∙ at_next b hb s2 0 ∙ at_first c hc s3 in
    let v3 = at_next a ha s1 2 ∙ at_next b hb s2 1 ∙ at_next c hc s3 0 ∙ at_last d hd in
    line_start (decimal a ++ (32 ∷ s1)) ∙ simp (are, at_first a ha s1, v1, v2, v3)

judge_read : (l : JudgeLine) → JudgeFits l → line (text_of (Judge l)) ≡ Some (Judge l)
unfolding text_of spaced judge_in amounts_at
judge_read l f =
    let a = l.cost.receptions in
    let b = l.cost.bytes in
    let t = l.stamp in
    let ha = f.cost_fits.receptions_fit in
    let hb = f.cost_fits.bytes_fit in
    let ht = f.stamp_fits in
    let s2 : List ℕ = decimal t in
    let s1 : List ℕ = decimal b ++ (32 ∷ s2) in
    let s0 : List ℕ = decimal a ++ (32 ∷ s1) in
    let x : List ℕ = label l.unit in
    let u = label_read l.unit f.unit_fits in
    let are = are_next a ha s1 1 ∙ are_next b hb s2 0 ∙ are_last t ht in
    let v1 = at_next a ha s1 0 ∙ at_first b hb s2 in
    let v2 = at_next a ha s1 1 ∙ at_next b hb s2 0 ∙ at_last t ht in
    line_judge (x ++ (32 ∷ s0))
    ∙ simp (first_seam x s0 (label_clear l.unit), rest_seam x s0 (label_clear l.unit), u.0, u.1, are, at_first a ha s1, v1, v2)

cut_read : (l : CutLine) → CutFits l → line (text_of (Cut l)) ≡ Some (Cut l)
unfolding text_of spaced cut_in cut_of amounts_at
cut_read l f =
    let a = l.cost.receptions in
    let b = l.cost.bytes in
    let ha = f.cost_fits.receptions_fit in
    let hb = f.cost_fits.bytes_fit in
    let s1 : List ℕ = decimal b in
    let s0 : List ℕ = decimal a ++ (32 ∷ s1) in
    let x : List ℕ = label l.unit in
    let y : List ℕ = cause_name l.cause in
    let z : List ℕ = y ++ (32 ∷ s0) in
    let u = label_read l.unit f.unit_fits in
    let k = cause_read l.cause in
    let are = are_next a ha s1 0 ∙ are_last b hb in
    let v1 = at_next a ha s1 0 ∙ at_last b hb in
    line_cut (x ++ (32 ∷ z))
    ∙ simp (
      first_seam x z (label_clear l.unit),
      rest_seam x z (label_clear l.unit),
      first_seam y s0 (cause_clear l.cause),
      rest_seam y s0 (cause_clear l.cause),
      u.0,
      u.1,
      k.0,
      k.1,
      are,
      at_first a ha s1,
      v1,
    )

-- each call that a line can be is read back from its text
pub line_read : (l : script.Line) → Written l → line (text_of l) ≡ Some l
unfolding text_of
line_read (Start l) f = start_read l f
line_read (Judge l) f = judge_read l f
line_read (Cut l) f = cut_read l f
line_read Report f = line_report
