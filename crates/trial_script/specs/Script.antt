-- The trial's language: which lines there are, what call each is, and the text of a call. Definitions only.
use Rattle.std.specs.Prelude.{ℕ, ◌+◌, ◌^◌, ◌<◌, ◌≡◌, Bool, cond, List, [], ◌∷◌, ◌++◌, Option, Some, None}
use Rattle.text.specs.Number.{decimal}
use Rattle.text.specs.Order.{same}
use Rattle.label.specs.Label.{label}
use Rattle.label_parse.specs.Parse.{is_label, unit_in, InRange}
use Rattle.store.specs.declared.Cause as cause
use Rattle.store.specs.declared.Cause.TheVariants.{ReceiverCeiling, OverShare, RelayRate}
use Rattle.trial_script.specs.Fields.{first, rest, are_numbers, number_at}
use Rattle.trial_script.specs.declared.Amounts.{Amounts}
use Rattle.trial_script.specs.declared.StartLine.{StartLine}
use Rattle.trial_script.specs.declared.JudgeLine.{JudgeLine}
use Rattle.trial_script.specs.declared.CutLine.{CutLine}
use Rattle.trial_script.specs.declared.Line as script
use Rattle.trial_script.specs.declared.Line.TheVariants.{Start, Judge, Cut, Report}

-- `receiver_ceiling`
abbrev pub receiver_ceiling : List ℕ
receiver_ceiling = 114 ∷ 101 ∷ 99 ∷ 101 ∷ 105 ∷ 118 ∷ 101 ∷ 114 ∷ 45 ∷ 99 ∷ 101 ∷ 105 ∷ 108 ∷ 105 ∷ 110 ∷ 103 ∷ []

-- `over_share`
abbrev pub over_share : List ℕ
over_share = 111 ∷ 118 ∷ 101 ∷ 114 ∷ 45 ∷ 115 ∷ 104 ∷ 97 ∷ 114 ∷ 101 ∷ []

-- `relay_rate`
abbrev pub relay_rate : List ℕ
relay_rate = 114 ∷ 101 ∷ 108 ∷ 97 ∷ 121 ∷ 45 ∷ 114 ∷ 97 ∷ 116 ∷ 101 ∷ []

unfoldable pub cause_name : cause.Cause → List ℕ
cause_name ReceiverCeiling = receiver_ceiling
cause_name OverShare = over_share
cause_name RelayRate = relay_rate

-- the cause named, where one is
unfoldable pub cause_in : List ℕ → cause.Cause
cause_in s = cond (same s receiver_ceiling) ReceiverCeiling (cond (same s over_share) OverShare RelayRate)

unfoldable pub is_cause : List ℕ → Bool
is_cause s = same s (cause_name (cause_in s))

-- a number for each dimension, from the field of index k on
unfoldable pub amounts_at : ℕ → List ℕ → Amounts
amounts_at k s = record { receptions = number_at k s; bytes = number_at (k + 1) s }

-- behind `R`: two rates and two ceilings
unfoldable pub start_in : List ℕ → Option script.Line
start_in s = cond (are_numbers 3 s) (Some (Start (record { rate = amounts_at 0 s; ceiling = amounts_at 2 s }))) None

-- behind `J`: a unit, two costs and a stamp
unfoldable pub judge_in : List ℕ → Option script.Line
judge_in s =
    cond (is_label (first s))
    (cond (are_numbers 2 (rest s))
    (Some (Judge (record { unit = unit_in (first s); cost = amounts_at 0 (rest s); stamp = number_at 2 (rest s) })))
    None)
    None

-- behind `C`: a unit, a cause and two costs
unfoldable pub cut_of : List ℕ → List ℕ → Option script.Line
cut_of name s =
    cond (is_cause (first s))
    (cond (are_numbers 1 (rest s))
    (Some (Cut (record { unit = unit_in name; cause = cause_in (first s); cost = amounts_at 0 (rest s) })))
    None)
    None

unfoldable pub cut_in : List ℕ → Option script.Line
cut_in s = cond (is_label (first s)) (cut_of (first s) (rest s)) None

-- a line is `P` alone, or begins with `R`, `J` or `C`
unfoldable pub line : List ℕ → Option script.Line
line s =
    cond (same s (80 ∷ [])) (Some Report)
    (cond (same (first s) (82 ∷ [])) (start_in (rest s))
    (cond (same (first s) (74 ∷ [])) (judge_in (rest s))
    (cond (same (first s) (67 ∷ [])) (cut_in (rest s)) None)))

-- the texts with one space between each two
unfoldable pub spaced : List ℕ → List (List ℕ) → List ℕ
spaced text [] = text
spaced text (next ∷ more) = text ++ (32 ∷ spaced next more)

-- how a call is written
unfoldable pub text_of : script.Line → List ℕ
text_of (Start l) =
    spaced (82 ∷ [])
    (decimal l.rate.receptions ∷ decimal l.rate.bytes ∷ decimal l.ceiling.receptions ∷ decimal l.ceiling.bytes ∷ [])
text_of (Judge l) = spaced (74 ∷ []) (label l.unit ∷ decimal l.cost.receptions ∷ decimal l.cost.bytes ∷ decimal l.stamp ∷ [])
text_of (Cut l) = spaced (67 ∷ []) (label l.unit ∷ cause_name l.cause ∷ decimal l.cost.receptions ∷ decimal l.cost.bytes ∷ [])
text_of Report = 80 ∷ []

-- the numbers of a call are of their types
pub record Amount (a : Amounts) : Type 0 where
  pub receptions_fit : a.receptions < 2 ^ 64
  pub bytes_fit : a.bytes < 2 ^ 64

pub record StartFits (l : StartLine) : Type 0 where
  pub rate_fits : Amount l.rate
  pub ceiling_fits : Amount l.ceiling

pub record JudgeFits (l : JudgeLine) : Type 0 where
  pub unit_fits : InRange l.unit
  pub cost_fits : Amount l.cost
  pub stamp_fits : l.stamp < 2 ^ 64

pub record CutFits (l : CutLine) : Type 0 where
  pub unit_fits : InRange l.unit
  pub cost_fits : Amount l.cost

-- a call that a line can be, its numbers of their types
abbrev pub Written : script.Line → Type 0
Written (Start l) = StartFits l
Written (Judge l) = JudgeFits l
Written (Cut l) = CutFits l
Written Report = Unit {0}

-- r says exactly what s is: the call that is written so, where there is one
pub record Exact (s : List ℕ) (r : Option script.Line) : Type 0 where
  pub taken : (l : script.Line) → r ≡ Some l → text_of l ≡ s
  pub every : (l : script.Line) → Written l → text_of l ≡ s → r ≡ Some l
