-- Texts written one after the other: a step of each loop that writes, and the whole. Assumes nothing.
use mathlib.Core.Path.{◌≡◌, refl, sym, ap, ◌∙◌}
use mathlib.Core.Bool.{Bool, cond}
use mathlib.Core.List.{List, [], ◌∷◌, ◌++◌}
use Prim.Native.Nat.{ℕ, suc, ◌+◌, ◌≤◌, ◌<◌}
use native.Mathlib.Numerals.{add-one}
use native.Mathlib.Omega.{arith}
use borrow.Author.Tests.{eq-eqb, ne_eqb}
use lib.Dec.{eqb}
use lib.ListN.{length, get_or, take, drop, drop_of_length-le}
use lib.Seq.{drop-cons}
use Rattle.text.specs.Page.{Page, page, placed, write, writes}
use Rattle.text.specs.Number.{decimal}
use Rattle.text.proofs.Writing.{fits, writes_joined, front}
use Rattle.io.specs.Counts.{IsPrefixLen}
use Rattle.std.specs.Prelude.{Some, None}
use Rattle.store.specs.Found.{found}
use Rattle.store.proofs.Found.{found_some, found_none}
use Rattle.report_ranking.proofs.Choosing.{first_after_bound}
use Rattle.sender.specs.declared.Unit.{Unit}
use Rattle.label.specs.Label.{label}
use Rattle.head.specs.declared.Shedder.{Shedder}
use Rattle.head.specs.Questions.{is_unbounded}
use Rattle.cut_sources.specs.Counted.{counts_at}
use Rattle.store.specs.Store.{unit_at}
use Rattle.report_ranking.specs.Sources.{first_after, named, reported}
use Rattle.report_lines.specs.Lines.{rate, ceiling, active, receiver_ceiling, over_share, relay_rate, source, space, line_feed, numbers, line, rates_line, cause_line, source_line, source_lines, head_lines, text}

pub writes_append : (p : Page) (xs ys : List (List ℕ)) → writes p (xs ++ ys) ≡ writes (writes p xs) ys
unfolding writes
writes_append p [] ys = refl
writes_append p (x ∷ xs) ys = writes_append (write p x) xs ys

-- ---- the numbers of a line from the i-th on
pub numbers_next : (p : Page) (xs : List ℕ) (i : ℕ) → i < length xs
    → writes p (numbers (drop i xs)) ≡ writes (write (write p space) (decimal (get_or xs i 0))) (numbers (drop (i + 1) xs))
unfolding writes numbers
numbers_next p xs i h = rw (add-one, drop-cons xs i 0)

pub numbers_end : (p : Page) (xs : List ℕ) (i : ℕ) → length xs ≤ i → writes p (numbers (drop i xs)) ≡ write p line_feed
unfolding writes numbers
numbers_end p xs i h = rw (drop_of_length-le xs {i = i} h)

-- ---- the sources named from `last` on, k of them at most
named_step : (tags : List ℕ) (rows : List (List ℕ)) (n k j last : ℕ) → k ≡ suc j
    → named tags rows n k last ≡ cond (eqb (first_after tags rows n last n) n) [] (first_after tags rows n last n ∷ named tags rows n j (first_after tags rows n last n))
unfolding named
named_step tags rows n k j last e = rw e

module _ (tags : List ℕ) (rows : List (List ℕ)) (n k j last : ℕ) (more : k ≡ suc j) where
  abbrev at : ℕ
  at = first_after tags rows n last n

  pub sources_next : (p : Page) {q : Page} (next : ℕ) → Some next ≡ found n at → q ≡ writes p (source_line tags rows next)
      → writes p (source_lines tags rows (named tags rows n k last)) ≡ writes q (source_lines tags rows (named tags rows n j next))
  unfolding source_lines
  sources_next p next is e =
      let w = found_some n at next (sym is) in
      let e0 : named tags rows n k last ≡ at ∷ named tags rows n j at = rw (named_step tags rows n k j last more, ne_eqb at n (λ z. omega arith)) in
      ap (λ (l : List ℕ). writes p (source_lines tags rows l)) e0
      ∙ ap (λ (m : ℕ). writes p (source_line tags rows m ++ source_lines tags rows (named tags rows n j m))) w.0
      ∙ writes_append p (source_line tags rows next) (source_lines tags rows (named tags rows n j next))
      ∙ ap (λ (r : Page). writes r (source_lines tags rows (named tags rows n j next))) (sym e)

  pub sources_none : (p : Page) → None ≡ found n at → p ≡ writes p (source_lines tags rows (named tags rows n k last))
  unfolding source_lines writes
  sources_none p is =
      let end : at ≡ n = omega (arith, found_none n at (sym is), first_after_bound tags rows n last n (omega arith)) in
      let e0 : named tags rows n k last ≡ [] = rw (named_step tags rows n k j last more, eq-eqb at n end) in
      sym (ap (λ (l : List ℕ). writes p (source_lines tags rows l)) e0)

pub sources_end : (p : Page) (tags : List ℕ) (rows : List (List ℕ)) (n k last : ℕ) → k ≡ 0 → writes p (source_lines tags rows (named tags rows n k last)) ≡ p
unfolding source_lines named writes
sources_end p tags rows n k last e = rw e

-- ---- a source's line, and the lines of the head, put one after the other
pub source_put : (tags : List ℕ) (rows : List (List ℕ)) (i : ℕ) (p : Page) {p1 p2 p3 p4 : Page} (u : Unit) (xs : List ℕ) → u ≡ unit_at tags rows i → xs ≡ counts_at rows i
    → p1 ≡ write p source → p2 ≡ write p1 space → p3 ≡ write p2 (label u) → p4 ≡ writes p3 (numbers xs) → p4 ≡ writes p (source_line tags rows i)
unfolding source_line line writes
source_put tags rows i p u xs e f e1 e2 e3 e4 = cc

module _ (p : Page) (a b c d e f : List (List ℕ)) where
  six : writes (writes (writes (writes (writes (writes p a) b) c) d) e) f ≡ writes p (a ++ b ++ c ++ d ++ e ++ f)
  six =
      sym
      (writes_append p (a ++ b ++ c ++ d ++ e) f
      ∙ ap (λ (q : Page). writes q f)
      (writes_append p (a ++ b ++ c ++ d) e
      ∙ ap (λ (q : Page). writes q e)
      (writes_append p (a ++ b ++ c) d
      ∙ ap (λ (q : Page). writes q d) (writes_append p (a ++ b) c ∙ ap (λ (q : Page). writes q c) (writes_append p a b)))))

pub head_put : (h : Shedder) (u : Bool) (p : Page) {p1 p2 p3 p4 p5 p6 : Page} → u ≡ is_unbounded h.flow.rate
    → p1 ≡ writes p (rates_line rate u h.flow.rate) → p2 ≡ writes p1 (rates_line ceiling u h.flow.ceiling) → p3 ≡ writes p2 (line active (h.tracked ∷ []))
    → p4 ≡ writes p3 (cause_line receiver_ceiling 0 h) → p5 ≡ writes p4 (cause_line over_share 1 h) → p6 ≡ writes p5 (cause_line relay_rate 2 h)
    → p6 ≡ writes p (head_lines h)
unfolding head_lines
head_put h u p e e1 e2 e3 e4 e5 e6 =
    let w = six p (rates_line rate (is_unbounded h.flow.rate) h.flow.rate) (rates_line ceiling (is_unbounded h.flow.rate) h.flow.ceiling) (line active (h.tracked ∷ [])) (cause_line receiver_ceiling 0 h) (cause_line over_share 1 h) (cause_line relay_rate 2 h) in
    cc

-- ---- the whole text, put into a buffer with room for it
pub text_put : (h : Shedder) (tags : List ℕ) (rows : List (List ℕ)) (out : List ℕ) {p : Page} (after : List ℕ) (r : ℕ) → length (text h tags rows) ≤ length out
    → p ≡ writes (page out 0) (head_lines h) → page after r ≡ writes p (source_lines tags rows (reported tags rows h.counted))
    → IsPrefixLen r after × ((take r after ≡ text h tags rows) × (page after r ≡ placed (page out 0) (text h tags rows)))
unfolding text
text_put h tags rows out after r room e f =
    let w : page after r ≡ write (page out 0) (text h tags rows) =
    f
    ∙ ap (λ (q : Page). writes q (source_lines tags rows (reported tags rows h.counted))) e
    ∙ sym (writes_append (page out 0) (head_lines h) (source_lines tags rows (reported tags rows h.counted)))
    ∙ writes_joined (page out 0) (head_lines h ++ source_lines tags rows (reported tags rows h.counted)) (omega arith) in
    let g = front out (text h tags rows) after r room w in
    (g.0, (g.1, w ∙ fits (page out 0) (text h tags rows) (omega arith)))
