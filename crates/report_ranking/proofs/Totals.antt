-- One source precedes another exactly where its total is larger, or the totals are equal and the labels and places decide. Assumes nothing.
use mathlib.Core.Path.{◌≡◌, refl}
use mathlib.Core.Bool.{Bool, true, false, cond, false≢true}
use mathlib.Core.Logic.{inl, inr}
use mathlib.Core.List.{List}
use Prim.Native.Nat.{ℕ}
use native.Mathlib.Omega.{arith}
use borrow.Author.Tests.{ltb-true, ltb-false, lt-ltb, le-ltb}
use lib.Dec.{ltb}
use Rattle.cut_sources.specs.Counted.{total_at}
use Rattle.report_ranking.specs.Sources.{label_precedes, precedes}
use Rattle.report_ranking.specs.Laws.{Before}
use Rattle.report_ranking.proofs.Ties.{label_shows, label_shown}

module _ (tags : List ℕ) (rows : List (List ℕ)) where
  pub shows : (i j : ℕ) → precedes tags rows i j ≡ true → Before tags rows i j
  unfolding precedes
  shows i j h = by_total (ltb (total_at rows j) (total_at rows i)) refl (ltb (total_at rows i) (total_at rows j)) refl h
    where
      by_total : (t : Bool) → ltb (total_at rows j) (total_at rows i) ≡ t → (s : Bool) → ltb (total_at rows i) (total_at rows j) ≡ s
          → cond t true (cond s false (label_precedes tags rows i j)) ≡ true → Before tags rows i j
      by_total true e s f h = inl (ltb-true (total_at rows j) (total_at rows i) e)
      by_total false e true f h = absurd (false≢true h)
      by_total false e false f h = inr (omega (arith, ltb-false (total_at rows j) (total_at rows i) e, ltb-false (total_at rows i) (total_at rows j) f), label_shows tags rows i j h)

  pub shown : (i j : ℕ) → Before tags rows i j → precedes tags rows i j ≡ true
  unfolding precedes
  shown i j (inl h) = simp (lt-ltb (total_at rows j) (total_at rows i) h)
  shown i j (inr (e, h)) =
      simp (le-ltb (total_at rows j) (total_at rows i) (omega arith), le-ltb (total_at rows i) (total_at rows j) (omega arith), label_shown tags rows i j h)
