-- A line that is taken is the text of its call; with `Reading`, a line is exactly the call that is written so. Assumes nothing.
use mathlib.Core.Path.{◌≡◌, refl, sym, ap, ◌∙◌}
use mathlib.Core.Bool.{Bool, true, false, cond, ◌&&◌, false≢true}
use mathlib.Core.List.{List, [], ◌∷◌, ◌++◌}
use Prim.Native.Nat.{ℕ, zero, suc}
use native.Mathlib.Omega.{arith}
use borrow.Author.Tests.{ne_eqb}
use lib.Dec.{eqb}
use lib.ListN.{length, get_or}
use Rattle.std.specs.Prelude.{Option, Some, None}
use Rattle.text.specs.Number.{numeral, decimal}
use Rattle.text.specs.Order.{same}
use Rattle.std.proofs.lemmas.Bool.{and_parts}
use Rattle.text.proofs.Orders.{same_eq}
use Rattle.label.specs.Label.{label}
use Rattle.label_parse.specs.Parse.{is_label, unit_in}
use Rattle.trial_script.specs.declared.Line as script
use Rattle.trial_script.specs.declared.Line.TheVariants.{Start, Judge, Cut, Report}
use Rattle.trial_script.specs.Fields.{width, first, rest, read, number_in, is_number, are_numbers, number_at}
use Rattle.trial_script.specs.Script.{cause_name, cause_in, is_cause, amounts_at, start_in, judge_in, cut_of, cut_in, line, spaced, text_of, Exact}
use Rattle.trial_script.proofs.Clear.{seamed}
use Rattle.trial_script.proofs.Reading.{number_text, number_first, line_read}

label_text : (s : List ℕ) → is_label s ≡ true → label (unit_in s) ≡ s
unfolding is_label
label_text s e = same_eq (label (unit_in s)) s e

cause_text : (s : List ℕ) → is_cause s ≡ true → cause_name (cause_in s) ≡ s
unfolding is_cause
cause_text s e = sym (same_eq s (cause_name (cause_in s)) e)

-- nothing is neither a number, a unit nor a cause
no_number : is_number [] ≡ false
unfolding is_number number_in read decimal numeral same
no_number = refl

no_numbers : (k : ℕ) → are_numbers k [] ≡ false
unfolding are_numbers first width
no_numbers zero = no_number
no_numbers (suc k) = simp no_number

no_label : is_label (first []) ≡ false
unfolding is_label unit_in label first width same
no_label = refl

no_cause : is_cause (first []) ≡ false
unfolding is_cause cause_in cause_name first width same
no_cause = refl

refuted : {t : Bool} → t ≡ true → t ≡ false → ⊥
refuted e f = false≢true (sym f ∙ e)

numbers_some : (k : ℕ) (s : List ℕ) → are_numbers k s ≡ true → s ≡ [] → ⊥
numbers_some k s e z = refuted e (ap (are_numbers k) z ∙ no_numbers k)

cause_some : (s : List ℕ) → is_cause (first s) ≡ true → s ≡ [] → ⊥
cause_some s e z = refuted e (ap (λ (l : List ℕ). is_cause (first l)) z ∙ no_cause)

-- the first field, a space and what stands behind, each given as another text
module _ (s a b : List ℕ) (ea : a ≡ first s) (eb : b ≡ rest s) (some : rest s ≡ [] → ⊥) where
  pub seam : a ++ (32 ∷ b) ≡ s
  seam = ap (λ (l : List ℕ). l ++ (32 ∷ b)) ea ∙ ap (λ (l : List ℕ). first s ++ (32 ∷ l)) eb ∙ seamed s some

-- the numbers of a line as texts, behind the first
texts : ℕ → List ℕ → List (List ℕ)
texts zero s = []
texts (suc k) s = decimal (number_at 0 (rest s)) ∷ texts k (rest s)

numbers_text : (k : ℕ) (s : List ℕ) → are_numbers k s ≡ true → spaced (decimal (number_at 0 s)) (texts k s) ≡ s
unfolding are_numbers number_at spaced texts
numbers_text zero s e = ap (λ (l : List ℕ). decimal (number_in l)) (number_first s e) ∙ number_text s e
numbers_text (suc k) s e =
    let w = and_parts (is_number (first s)) (are_numbers k (rest s)) e in
    seam s (decimal (number_in (first s))) (spaced (decimal (number_at 0 (rest s))) (texts k (rest s)))
    (number_text (first s) w.0) (numbers_text k (rest s) w.1) (numbers_some k (rest s) w.1)

-- ---- forms: where one is taken, its text is the line

-- the text of what was taken, where something was
abbrev Says : Option script.Line → List ℕ → Type 0
Says (Some l) s = text_of l ≡ s
Says None s = Unit {0}

start_by : (s : List ℕ) (t : Bool) → are_numbers 3 s ≡ t → Says (cond t (Some (Start (record { rate = amounts_at 0 s; ceiling = amounts_at 2 s }))) None) (82 ∷ 32 ∷ s)
unfolding text_of spaced amounts_at number_at texts
start_by s true e = ap (λ (l : List ℕ). 82 ∷ 32 ∷ l) (numbers_text 3 s e)
start_by s false e = tt

start_text : (s : List ℕ) → Says (start_in s) (82 ∷ 32 ∷ s)
unfolding start_in
start_text s = start_by s (are_numbers 3 s) refl

abbrev judged : List ℕ → Option script.Line
judged s = Some (Judge (record { unit = unit_in (first s); cost = amounts_at 0 (rest s); stamp = number_at 2 (rest s) }))

judge_by : (s : List ℕ) (t v : Bool) → is_label (first s) ≡ t → are_numbers 2 (rest s) ≡ v → Says (cond t (cond v (judged s) None) None) (74 ∷ 32 ∷ s)
unfolding text_of spaced amounts_at number_at texts
judge_by s true true e f =
    ap (λ (l : List ℕ). 74 ∷ 32 ∷ l)
    (seam s (label (unit_in (first s))) (spaced (decimal (number_at 0 (rest s))) (texts 2 (rest s)))
    (label_text (first s) e) (numbers_text 2 (rest s) f) (numbers_some 2 (rest s) f))
judge_by s true false e f = tt
judge_by s false v e f = tt

judge_text : (s : List ℕ) → Says (judge_in s) (74 ∷ 32 ∷ s)
unfolding judge_in
judge_text s = judge_by s (is_label (first s)) (are_numbers 2 (rest s)) refl refl

abbrev cut_at : List ℕ → List ℕ → Option script.Line
cut_at name s = Some (Cut (record { unit = unit_in name; cause = cause_in (first s); cost = amounts_at 0 (rest s) }))

cut_by : (s r : List ℕ) (t v w : Bool) → r ≡ rest s → is_label (first s) ≡ t → is_cause (first r) ≡ v → are_numbers 1 (rest r) ≡ w
    → Says (cond t (cond v (cond w (cut_at (first s) r) None) None) None) (67 ∷ 32 ∷ s)
unfolding text_of spaced amounts_at number_at texts
cut_by s r true true true er e f g =
    ap (λ (l : List ℕ). 67 ∷ 32 ∷ l)
    (seam s (label (unit_in (first s))) (cause_name (cause_in (first r)) ++ (32 ∷ spaced (decimal (number_at 0 (rest r))) (texts 1 (rest r))))
    (label_text (first s) e)
    (seam r (cause_name (cause_in (first r))) (spaced (decimal (number_at 0 (rest r))) (texts 1 (rest r)))
    (cause_text (first r) f) (numbers_text 1 (rest r) g) (numbers_some 1 (rest r) g)
    ∙ er)
    (λ z. cause_some r f (er ∙ z)))
cut_by s r true true false er e f g = tt
cut_by s r true false w er e f g = tt
cut_by s r false v w er e f g = tt

cut_text : (s : List ℕ) → Says (cut_in s) (67 ∷ 32 ∷ s)
unfolding cut_in cut_of
cut_text s = cut_by s (rest s) (is_label (first s)) (is_cause (first (rest s))) (are_numbers 1 (rest (rest s))) refl refl refl refl

-- ---- the kinds of a line

start_none : start_in [] ≡ None
unfolding start_in
start_none = simp (no_numbers 3)

judge_none : judge_in [] ≡ None
unfolding judge_in
judge_none = simp no_label

cut_none : cut_in [] ≡ None
unfolding cut_in
cut_none = simp no_label

-- the same of another text, which is the same where something was taken
says_at : (r : Option script.Line) (a b : List ℕ) → ((r ≡ None → ⊥) → a ≡ b) → Says r a → Says r b
says_at (Some l) a b e h = sym (sym (e (λ z. let w : ◌≡◌ {A = ℕ} 0 1 = cc in absurd (omega arith))) ∙ sym h)
says_at None a b e h = tt

by_kind : (s : List ℕ) (k : ℕ) (form : List ℕ → Option script.Line) (other : Option script.Line) (t : Bool) → form [] ≡ None → same (first s) (k ∷ []) ≡ t
    → Says (form (rest s)) (k ∷ 32 ∷ rest s) → Says other s → Says (cond t (form (rest s)) other) s
by_kind s k form other true none e this that =
    says_at (form (rest s)) (k ∷ 32 ∷ rest s) s
    (λ some. seam s (k ∷ []) (rest s) (sym (same_eq (first s) (k ∷ []) e)) refl (λ z. some (ap form z ∙ none))) this
by_kind s k form other false none e this that = that

by_report : (s : List ℕ) (other : Option script.Line) (t : Bool) → same s (80 ∷ []) ≡ t → Says other s → Says (cond t (Some Report) other) s
unfolding text_of
by_report s other true e that = sym (same_eq s (80 ∷ []) e)
by_report s other false e that = that

line_text : (s : List ℕ) → Says (line s) s
unfolding line
line_text s =
    by_report s _ (same s (80 ∷ [])) refl
    (by_kind s 82 start_in _ (same (first s) (82 ∷ [])) start_none refl (start_text (rest s))
    (by_kind s 74 judge_in _ (same (first s) (74 ∷ [])) judge_none refl (judge_text (rest s))
    (by_kind s 67 cut_in None (same (first s) (67 ∷ [])) cut_none refl (cut_text (rest s)) tt)))

taken : (r : Option script.Line) (s : List ℕ) → Says r s → (l : script.Line) → r ≡ Some l → text_of l ≡ s
taken r s h l e = rw e at h

line_exact : (s : List ℕ) → Exact s (line s)
line_exact s = record { taken = taken (line s) s (line_text s); every = λ l w e. ap line (sym e) ∙ line_read l w }

pub exactly : (s : List ℕ) (r : Option script.Line) → r ≡ line s → Exact s r
exactly s r e = rw e (line_exact s)

-- a text of one byte
pub one_byte : (a : List ℕ) (k : ℕ) → same a (k ∷ []) ≡ (eqb (length a) 1 && eqb (get_or a 0 0) k)
unfolding same
one_byte [] k = refl
one_byte (x ∷ []) k = ends (eqb x k)
  where
    ends : (t : Bool) → t && true ≡ t
    ends true = refl
    ends false = refl
one_byte (x ∷ y ∷ a) k = longer (eqb x k) (eqb (suc (suc (length a))) 1) (ne_eqb _ _ (λ e. omega arith))
  where
    longer : (t u : Bool) → u ≡ false → t && false ≡ u && t
    longer true u e = sym (ap (λ (v : Bool). v && true) e)
    longer false u e = sym (ap (λ (v : Bool). v && false) e)
