-- The tags that go with the rows, source by source. Assumes nothing.
use Rattle.std.proofs.Common.{◌≡◌, ℕ, zero, suc, ◌+◌, ◌<◌, ◌≤◌, Bool, true, false, cond, ltb, List, length, set, sym, refl, ap, ◌∙◌, add-one, length-set, le-ltb, lt-ltb, Some, None}
use Rattle.sender.specs.declared.Name.{Name}
use Rattle.store.specs.Found.{found}
use Rattle.store.proofs.Found.{found_some, found_none}
use Rattle.cut_sources.specs.Counted.{Sources, sources, counted_find, counted_up, counted_add, count, count_tags, tag_moved, total_at, totals, keep_from, prune, prune_tags, pruned_tags}

pub prune_tags_none : (tags : List ℕ) (rows : List (List ℕ)) (k : ℕ) → prune_tags tags rows k 0 ≡ tags
unfolding prune_tags
prune_tags_none tags rows k = refl

pub prune_tags_next : (tags : List ℕ) (rows : List (List ℕ)) (k n : ℕ)
    → prune_tags tags rows k (n + 1) ≡ tag_moved (prune_tags tags rows k n) (total_at (prune rows k n).rows n) k n (prune rows k n).count
unfolding prune_tags
prune_tags_next tags rows k n = rw add-one

-- a step of the code: its rows and its tags are those of the first n sources
pub step_tags : (tags old new : List ℕ) (rows now : List (List ℕ)) (k n j : ℕ) → sources j now ≡ prune rows k n → old ≡ prune_tags tags rows k n → new ≡ tag_moved old (total_at now n) k n j
    → new ≡ prune_tags tags rows k (n + 1)
step_tags tags old new rows now k n j e o m =
    m ∙ ap (λ (s : Sources). tag_moved old (total_at s.rows n) k n s.count) e
    ∙ ap (λ (t : List ℕ). tag_moved t (total_at (prune rows k n).rows n) k n (prune rows k n).count) o ∙ sym (prune_tags_next tags rows k n)

-- ---- a source counted
module _ (tags : List ℕ) (rows : List (List ℕ)) (n : ℕ) (name : Name) where
  abbrev i : ℕ
  i = counted_find tags rows name n

  -- found at j
  pub counted_there : (j cause : ℕ) → Some j ≡ found n i → sources n (counted_up rows j cause) ≡ count tags rows n name cause
  unfolding count
  counted_there j cause e = let w = found_some n i j (sym e) in rw (sym w.0) (simp (lt-ltb i n w.1))

  pub tagged_there : (j : ℕ) → Some j ≡ found n i → tags ≡ count_tags tags rows n name
  unfolding count_tags
  tagged_there j e = simp (lt-ltb i n (found_some n i j (sym e)).1)

  -- not found
  pub counted_behind : (cause : ℕ) → None ≡ found n i → sources (n + 1) (counted_up (counted_add rows n name.words) n cause) ≡ count tags rows n name cause
  unfolding count
  counted_behind cause e = simp (le-ltb i n (found_none n i (sym e)))

  pub tagged_behind : None ≡ found n i → set tags n name.tag ≡ count_tags tags rows n name
  unfolding count_tags
  tagged_behind e = simp (le-ltb i n (found_none n i (sym e)))

-- where a row is free all stay, else those of the sources above k do
pub pruned_tags_room : (tags : List ℕ) (rows : List (List ℕ)) (n : ℕ) → n < length rows → tags ≡ pruned_tags (sources n rows) tags
unfolding pruned_tags
pruned_tags_room tags rows n h = simp (lt-ltb n (length rows) h)

pub pruned_tags_full : (tags t : List ℕ) (rows : List (List ℕ)) (n k : ℕ) → t ≡ prune_tags tags rows k n → length rows ≤ n → k ≡ keep_from (totals rows n)
    → t ≡ pruned_tags (sources n rows) tags
unfolding pruned_tags
pruned_tags_full tags t rows n k p h e = simp (le-ltb n (length rows) h) (p ∙ ap (λ (x : ℕ). prune_tags tags rows x n) e)

-- ---- there are as many tags as before
cond_long : (b : Bool) (x y : List ℕ) (n : ℕ) → length x ≡ n → length y ≡ n → length (cond b x y) ≡ n
cond_long true x y n p q = p
cond_long false x y n p q = q

pub count_long : (tags : List ℕ) (rows : List (List ℕ)) (n : ℕ) (name : Name) → length (count_tags tags rows n name) ≡ length tags
unfolding count_tags
count_long tags rows n name = cond_long (ltb (counted_find tags rows name n) n) tags (set tags n name.tag) (length tags) refl (length-set tags n name.tag)

moved_long : (tags : List ℕ) (total k i j : ℕ) → length (tag_moved tags total k i j) ≡ length tags
unfolding tag_moved
moved_long tags total k i j = cond_long (ltb k total) _ _ (length tags) (simp length-set) (simp length-set)

prune_long : (tags : List ℕ) (rows : List (List ℕ)) (k n : ℕ) → length (prune_tags tags rows k n) ≡ length tags
unfolding prune_tags
prune_long tags rows k zero = refl
prune_long tags rows k (suc n) = moved_long (prune_tags tags rows k n) (total_at (prune rows k n).rows n) k n (prune rows k n).count ∙ prune_long tags rows k n

pub pruned_long : (s : Sources) (tags : List ℕ) → length (pruned_tags s tags) ≡ length tags
unfolding pruned_tags
pruned_long s tags =
    let k : ℕ = keep_from (totals s.rows s.count) in
    cond_long (ltb s.count (length s.rows)) tags (prune_tags tags s.rows k s.count) (length tags) refl (prune_long tags s.rows k s.count)
