-- A report put into the buffer. Assumes nothing.
use mathlib.Core.Path.{◌≡◌, refl, sym, ap, ◌∙◌}
use mathlib.Core.Bool.{Bool, true, false, cond}
use mathlib.Core.List.{List, []}
use Prim.Native.Nat.{ℕ, ◌≤◌}
use lib.Dec.{eqb}
use lib.ListN.{length, take}
use lib.Seq.{take-length, length-take-le}
use Rattle.text.specs.Page.{page, write}
use Rattle.store.specs.Store.{Rows}
use Rattle.head.specs.declared.Shedder.{Shedder}
use Rattle.std.proofs.Common.{Ok}
use Rattle.head.specs.Answers.{refused}
use Rattle.report.specs.Report as reports
use Rattle.report.proofs.Asking.{written}

-- ---- the report and the call beside it
bytes_of : (t : Bool) (a : ℕ) (xs : List ℕ) → reports.bytes (cond t (Ok (length xs)) (refused a)) ≡ length (cond t xs [])
bytes_of true a xs = refl
bytes_of false a xs = refl

-- a buffer of its own for `report`, as long as the one to be written
pub front_length : (n : ℕ) (xs : List ℕ) → n ≤ length xs → n ≡ length (take n xs)
front_length n xs h = sym (length-take-le n xs h)

-- the front part that `report` returned, put into the buffer
module _ (h : Shedder) (m : Rows) (rows : List (List ℕ)) (out : List ℕ) where
  answer_bytes : reports.bytes (reports.answer h m rows (length out)) ≡ length (reports.front h m rows (length out))
  unfolding reports.answer reports.front
  answer_bytes = bytes_of (eqb (reports.report_asked h m rows (length out)) 0) (reports.report_asked h m rows (length out)) _

  pub part_put : (after part : List ℕ) (room r : ℕ) → room ≡ length out → part ≡ reports.front h m rows room → page after r ≡ write (page out 0) part → after ≡ (reports.report h m rows out).out
  part_put after part room r er ep ew =
      let g = reports.front h m rows (length out) in
      let w = reports.answer h m rows (length out) in
      let whole : take (length g) g ≡ g = take-length g in
      ap (λ (x : reports.Ends). x.out)
      (written h m rows out w g after (length g) r refl (sym answer_bytes) (ap (λ (n : ℕ). take n g) answer_bytes ∙ whole)
      (ew ∙ ap (write (page out 0)) (ep ∙ ap (reports.front h m rows) er ∙ sym whole)))
