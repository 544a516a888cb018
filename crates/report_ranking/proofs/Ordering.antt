-- The order of the sources is strict and total. Assumes nothing.
use mathlib.Core.Path.{◌≡◌, refl, sym, ◌∙◌}
use mathlib.Core.Bool.{Bool, true, false, false≢true}
use mathlib.Core.Logic.{inl, inr}
use mathlib.Core.List.{List}
use Prim.Native.Nat.{ℕ}
use native.Mathlib.Decide.{dec_lt}
use native.Mathlib.Omega.{arith}
use borrow.Author.Tests.{le-ltb}
use Rattle.text.specs.Order.{less}
use Rattle.cut_sources.specs.Counted.{total_at}
use Rattle.report_ranking.specs.Sources.{label_at, label_precedes, precedes}
use Rattle.report_ranking.specs.Laws.{Before, Order}
pub use Rattle.report_ranking.proofs.Ties.{less_irreflexive, less_transitive, less_first}
use Rattle.report_ranking.proofs.Ties.{less_connected, tied_transitive}
use Rattle.report_ranking.proofs.Totals.{shows, shown}

module _ (tags : List ℕ) (rows : List (List ℕ)) where
  before_transitive : (i j k : ℕ) → Before tags rows i j → Before tags rows j k → Before tags rows i k
  before_transitive i j k (inl p) (inl q) = inl (omega arith)
  before_transitive i j k (inl p) (inr (e, q)) = inl (omega arith)
  before_transitive i j k (inr (e, p)) (inl q) = inl (omega arith)
  before_transitive i j k (inr (e, p)) (inr (f, q)) =
      inr (e ∙ f, tied_transitive (label_at tags rows i) (label_at tags rows j) (label_at tags rows k) i j k p q)

  irreflexive : (i : ℕ) → precedes tags rows i i ≡ false
  unfolding precedes label_precedes
  irreflexive i =
      simp (le-ltb (total_at rows i) (total_at rows i) (omega arith), less_irreflexive (label_at tags rows i), le-ltb i i (omega arith))

  module _ (i j : ℕ) (h : precedes tags rows i j ≡ false) (k : precedes tags rows j i ≡ false) where
    never : {a b : ℕ} → precedes tags rows a b ≡ false → Before tags rows a b → ⊥
    never {a} {b} e w = false≢true (sym e ∙ shown tags rows a b w)

    tied : total_at rows i ≡ total_at rows j → (t : Bool) → less (label_at tags rows i) (label_at tags rows j) ≡ t
        → (s : Bool) → less (label_at tags rows j) (label_at tags rows i) ≡ s → i ≡ j
    tied e true f s g = absurd (never h (inr (e, inl f)))
    tied e false f true g = absurd (never k (inr (sym e, inl g)))
    tied e false f false g =
        let l = less_connected (label_at tags rows i) (label_at tags rows j) f g in
        elim (dec_lt i j) [
          | yes p ↦ absurd (never h (inr (e, inr (l, p))))
          | no p ↦ elim (dec_lt j i) [ yes q ↦ absurd (never k (inr (sym e, inr (sym l, q)))) | no q ↦ omega arith ]
        ]

    connected : i ≡ j
    connected =
        elim (dec_lt (total_at rows j) (total_at rows i)) [
          | yes p ↦ absurd (never h (inl p))
          | no p ↦ elim (dec_lt (total_at rows i) (total_at rows j)) [
            | yes q ↦ absurd (never k (inl q))
            | no q ↦ tied (omega arith) (less (label_at tags rows i) (label_at tags rows j)) refl (less (label_at tags rows j) (label_at tags rows i)) refl
          ]
        ]

  pub order : Order tags rows
  order = record {
    shows = shows tags rows;
    shown = shown tags rows;
    irreflexive = irreflexive;
    transitive = λ i j k p q. shown tags rows i k (before_transitive i j k (shows tags rows i j p) (shows tags rows j k q));
    connected = connected;
  }
