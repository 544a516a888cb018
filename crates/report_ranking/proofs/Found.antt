-- Sources compared as they are taken, and by their tags: where the one in front is what it is taken for, it is in front by the tags too. Assumes nothing.
use mathlib.Core.Path.{◌≡◌, refl, sym, ap, ◌∙◌}
use mathlib.Core.Bool.{Bool, true, false}
use mathlib.Core.Logic.{◌⊎◌, inl, inr}
use mathlib.Core.List.{List}
use Prim.Native.Nat.{ℕ, ◌<◌, ◌≤◌}
use native.Mathlib.Omega.{arith}
use lib.ListN.{length}
use Rattle.std.specs.Prelude.{Option, Some, None}
use Rattle.std.specs.Option.{IfSome, unwrap_or}
use Rattle.sender.specs.declared.Unit.TheVariants.{Corroborated, Overflow}
use Rattle.store.specs.Store.{unit_at, words_at}
use Rattle.store.specs.Found.{found}
use Rattle.report_ranking.specs.Laws.{Before}
use Rattle.report_ranking.specs.Sources.{label_at, label_precedes, precedes, first_after}
use Rattle.report_ranking.specs.Taken.{key_in, key_tags, taken, IsOwn, first_taken}
use Rattle.report_ranking.proofs.Choosing.{found_again}
use Rattle.report_ranking.proofs.Earliest.{Best, none, some, best_taken, best, alone, taken_first}
use Rattle.report_ranking.proofs.Keys.{key_first}
use Rattle.report_ranking.proofs.Taken.{apart}
use Rattle.report_ranking.proofs.Ties.{Tied, less_transitive, label_shows, label_shown}
use Rattle.report_ranking.proofs.Totals.{shows, shown}

module _ (tags : List ℕ) (rows : List (List ℕ)) (p i : ℕ) (o : IsOwn (key_tags tags rows) tags rows p) (h : i < length tags) (g : i < length rows) where
  -- source i stands behind what it is taken for, or there
  behind : Tied (label_at (key_tags tags rows) rows p) (label_at (key_tags tags rows) rows i) p i → Tied (label_at tags rows p) (label_at tags rows i) p i
  behind t = by (apart tags rows i h g) t
    where
      by : (unit_at (key_tags tags rows) rows i ≡ unit_at tags rows i) ⊎ ((unit_at (key_tags tags rows) rows i ≡ Corroborated (key_in (words_at rows i))) × (unit_at tags rows i ≡ Overflow))
          → Tied (label_at (key_tags tags rows) rows p) (label_at (key_tags tags rows) rows i) p i → Tied (label_at tags rows p) (label_at tags rows i) p i
      by (inl e) t = rw (sym o, sym e) t
      by (inr (e, f)) (inl t) = inl (rw (sym o, f) (less_transitive _ _ _ t (rw e (key_first (key_in (words_at rows i))))))
      by (inr (e, f)) (inr (t, q)) = inl (rw (sym o, f, t, e) (key_first (key_in (words_at rows i))))

  pub label_stays : label_precedes (key_tags tags rows) rows p i ≡ true → label_precedes tags rows p i ≡ true
  label_stays e = label_shown tags rows p i (behind (label_shows (key_tags tags rows) rows p i e))

  pub stays : precedes (key_tags tags rows) rows p i ≡ true → precedes tags rows p i ≡ true
  stays e = shown tags rows p i (by (shows (key_tags tags rows) rows p i e))
    where
      by : Before (key_tags tags rows) rows p i → Before tags rows p i
      by (inl q) = inl q
      by (inr (q, t)) = inr (q, behind t)

-- both read as they are taken
pub label_same : (tags : List ℕ) (rows : List (List ℕ)) (p i : ℕ) → IsOwn (key_tags tags rows) tags rows p → IsOwn (key_tags tags rows) tags rows i
    → label_precedes (key_tags tags rows) rows p i ≡ label_precedes tags rows p i
unfolding label_precedes
label_same tags rows p i e f = rw (e, f) refl

-- ---- by words or by tags
module _ (tags : List ℕ) (rows : List (List ℕ)) (p i : ℕ) where
  pub follows_true : (tagged r : Bool) → IsOwn (taken tagged tags rows) tags rows p → i < length tags → i < length rows → r ≡ true → r ≡ label_precedes (taken tagged tags rows) rows p i
      → r ≡ label_precedes tags rows p i
  unfolding taken
  follows_true true r o h g e f = f
  follows_true false r o h g e f = e ∙ sym (label_stays tags rows p i o h g (sym f ∙ e))

  pub follows_tagged : (tagged : Bool) → tagged ≡ true → label_precedes (taken tagged tags rows) rows p i ≡ label_precedes tags rows p i
  unfolding taken
  follows_tagged tagged e = rw e refl

  pub follows_own : (tagged : Bool) → IsOwn (taken tagged tags rows) tags rows p → IsOwn (taken false tags rows) tags rows i → label_precedes (taken tagged tags rows) rows p i ≡ label_precedes tags rows p i
  unfolding taken
  follows_own true o f = refl
  follows_own false o f = label_same tags rows p i o f

pub tagged_own : (tags : List ℕ) (rows : List (List ℕ)) (p : Option ℕ) → IfSome p (λ q. IsOwn (taken true tags rows) tags rows q)
unfolding taken
tagged_own tags rows None = tt
tagged_own tags rows (Some q) = refl

-- ---- the one found
module _ (tags : List ℕ) (rows : List (List ℕ)) (n p : ℕ) (h : n ≤ length tags) (g : n ≤ length rows) where
  best_stays : (b : ℕ) → (b < n → IsOwn (key_tags tags rows) tags rows b) → Best (key_tags tags rows) tags rows n p n b → Best tags tags rows n p n b
  best_stays b o (none e f) = none e f
  best_stays b o (some e f w) = some e f (λ i k a. by i k (w i k a))
    where
      by : (i : ℕ) → i < n → (i ≡ b) ⊎ (precedes (key_tags tags rows) rows b i ≡ true) → (i ≡ b) ⊎ (precedes tags rows b i ≡ true)
      by i k (inl q) = inl q
      by i k (inr q) = inr (stays tags rows b i (o e) (omega arith) (omega arith) q)

  same_first : (b : ℕ) → b ≡ first_taken (key_tags tags rows) tags rows n p n → (b < n → IsOwn (key_tags tags rows) tags rows b) → b ≡ first_after tags rows n p n
  same_first b e o = alone tags rows n p b (first_after tags rows n p n) (best_stays b o (rw e (best_taken (key_tags tags rows) tags rows n p n (omega arith)))) (best tags rows n p)

  own_below : (b : Option ℕ) → IfSome b (λ q. IsOwn (key_tags tags rows) tags rows q) → unwrap_or b n < n → IsOwn (key_tags tags rows) tags rows (unwrap_or b n)
  own_below None o k = absurd (omega arith)
  own_below (Some b) o k = o

  pub found_own : (b : Option ℕ) → IfSome b (λ i. i < n) → IfSome b (λ q. IsOwn (taken false tags rows) tags rows q) → unwrap_or b n ≡ first_taken (taken false tags rows) tags rows n p n
      → b ≡ found n (first_after tags rows n p n)
  unfolding taken
  found_own b k o e = found_again n b k ∙ ap (found n) (same_first (unwrap_or b n) e (own_below b o))

  pub found_tagged : (b : Option ℕ) → IfSome b (λ i. i < n) → unwrap_or b n ≡ first_taken (taken true tags rows) tags rows n p n → b ≡ found n (first_after tags rows n p n)
  unfolding taken
  found_tagged b k e = found_again n b k ∙ ap (found n) (e ∙ taken_first tags rows n p)
