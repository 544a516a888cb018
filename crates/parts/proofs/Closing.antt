-- What a drop is made of: a pass, then the later entries closed up. Assumes nothing.
use mathlib.Core.Path.{◌≡◌, refl, sym, ap, ◌∙◌}
use mathlib.Core.Bool.{Bool}
use mathlib.Core.List.{List, [], ◌∷◌, ◌++◌, append_assoc, append-nil, map}
use Prim.Native.Nat.{ℕ, zero, suc, ◌+◌, ◌-◌, ◌≤◌}
use native.Mathlib.Omega.{arith}
use lib.Ieee.{Float}
use lib.ListN.{length, get_or, take, drop, replicate, length-take, length-drop, take-append-drop}
use lib.Seq.{drop-drop, take_at, length-take-le}
use Rattle.shifting.specs.Shifting.{over, part, closed}
use Rattle.shifting.specs.Offsets.{from_on}
use Rattle.shifting.proofs.Laying.{over_over, part_beyond}
use Rattle.parts.specs.Parts.{those, squeezed, laid, cleared, stays, sifted, sifting, Sifting, Rows, rows, gone, dropped, no_entry, no_words, no_floats}
use Rattle.parts.proofs.Sifting.{both, like}
use Rattle.parts.proofs.Clearing.{rows_same}

-- a pass and then closed up: squeezed
pub laid_closed : (p : ℕ → Bool) (xs : List ℕ) (from to n j : ℕ) → from ≤ to → j ≡ from + length (those p from (part xs from to)) → j ≤ to → to ≤ n → n ≤ length xs
    → closed (laid p xs from to) j to n no_entry ≡ squeezed p xs from to n
unfolding closed squeezed
laid_closed p xs from to n j h e l m o =
    ap (λ (k : ℕ). over (laid p xs from to) j (part (laid p xs from to) to n ++ replicate (to - k) no_entry)) e
    ∙ ap (λ (r : List ℕ). over (laid p xs from to) j (r ++ replicate (to - (from + length (those p from (part xs from to)))) no_entry)) (part_beyond xs from (those p from (part xs from to)) to n (omega arith) (omega arith))
    ∙ over_over xs from j (those p from (part xs from to)) (part xs to n ++ replicate (to - (from + length (those p from (part xs from to)))) no_entry) (omega arith) e
    ∙ ap (over xs from) (sym (append_assoc (those p from (part xs from to)) (part xs to n) (replicate (to - (from + length (those p from (part xs from to)))) no_entry)))

-- what stands is laid over itself
pub over_self : (xs : List ℕ) (a b : ℕ) → a ≤ b → b ≤ length xs → over xs a (part xs a b) ≡ xs
unfolding over part
over_self xs a b h l =
    let z : a + length (take (b - a) (drop a xs)) ≡ a + (b - a) = simp (length-take, length-drop) (omega arith) in
    ap (λ (k : ℕ). (take a xs ++ take (b - a) (drop a xs)) ++ drop k xs) z
    ∙ append_assoc (take a xs) (take (b - a) (drop a xs)) (drop (a + (b - a)) xs)
    ∙ ap (λ (r : List ℕ). take a xs ++ (take (b - a) (drop a xs) ++ r)) (sym (drop-drop (b - a) a xs))
    ∙ ap (λ (r : List ℕ). take a xs ++ r) (take-append-drop (b - a) (drop a xs)) ∙ take-append-drop a xs

-- nothing to close up
pub closed_none : (xs : List ℕ) (j to n : ℕ) → j ≡ to → to ≤ n → n ≤ length xs → closed xs j to n no_entry ≡ xs
unfolding closed
closed_none xs j to n e h l =
    let z : to - j ≡ 0 = omega arith in
    ap (λ (k : ℕ). over xs j (part xs to n ++ replicate k no_entry)) z ∙ ap (over xs j) (append-nil (part xs to n)) ∙ ap (λ (k : ℕ). over xs k (part xs to n)) e ∙ over_self xs to n h l

map_same : (f : ℕ → ℕ) → ((o : ℕ) → f o ≡ o) → (l : List ℕ) → map f l ≡ l
map_same f h [] = refl
map_same f h (x ∷ l) = ap (λ (k : ℕ). k ∷ map f l) (h x) ∙ ap (λ (r : List ℕ). x ∷ r) (map_same f h l)

pub from_same : (d : ℕ) (os : List ℕ) (i : ℕ) → d ≡ 0 → from_on (λ (o : ℕ). o - d) os i ≡ os
unfolding from_on
from_same d os i e = ap (over os i) (map_same (λ (o : ℕ). o - d) (λ o. omega arith) (drop i os)) ∙ whole
  where
    whole : over os i (drop i os) ≡ os
    whole =
        unfold over in
        (append_assoc (take i os) (drop i os) (drop (i + length (drop i os)) os)
        ∙ ap (λ (r : List ℕ). take i os ++ (drop i os ++ r)) (sym (drop-drop (length (drop i os)) i os) ∙ all (drop i os)) ∙ ap (λ (r : List ℕ). take i os ++ r) (append-nil (drop i os)) ∙ take-append-drop i os)
      where
        all : (l : List ℕ) → drop (length l) l ≡ []
        all [] = refl
        all (x ∷ l) = all l

empty : (l : List ℕ) → length l ≡ 0 → l ≡ []
empty [] e = refl
empty (x ∷ l) e = absurd (omega arith)

-- the slots that went lie in the free ones behind those that were free
pub over_part : (fs : List ℕ) (f : ℕ) (ds : List ℕ) (k : ℕ) → f ≤ length fs → k ≡ f + length ds → part (over fs f ds) f k ≡ ds
unfolding part over
over_part fs f ds k h e =
    let z : k - f ≡ length ds = omega arith in
    ap (λ (r : List ℕ). take (k - f) (drop f r)) (append_assoc (take f fs) ds (drop (f + length ds) fs))
    ∙ ap (take (k - f)) (front (take f fs) (ds ++ drop (f + length ds) fs) f (length-take-le f fs h))
    ∙ take_at ds (drop (f + length ds) fs) (k - f) (sym z)
  where
    front : (a b : List ℕ) (m : ℕ) → length a ≡ m → drop m (a ++ b) ≡ b
    front [] b m e = ap (λ (q : ℕ). drop q b) (sym e)
    front (x ∷ a) b zero e = absurd (omega arith)
    front (x ∷ a) b (suc m) e = front a b m (omega arith)

-- ---- one drop
module _ (ts xs os fs : List ℕ) (us : List (List ℕ)) (vs : List (List Float)) (n t now : ℕ)
    (h : get_or os t 0 ≤ get_or os (t + 1) 0) (l : get_or os (t + 1) 0 ≤ n) (m : n ≤ length us) (a : length us ≤ length ts) (b : length xs ≡ length us) (c : length fs ≡ length us) where
  abbrev S : Rows
  S = rows ts xs os fs us vs

  abbrev from : ℕ
  from = get_or os t 0

  abbrev to : ℕ
  to = get_or os (t + 1) 0

  abbrev K : List ℕ
  K = those (stays xs us now) from (part xs from to)

  pub gone_count : length K + length (gone S t now) ≡ to - from
  unfolding gone
  gone_count = both ts xs fs us from (length us - n) now to h (omega arith)

  pub tagged : length (those (stays xs us now) from (part ts from to)) ≡ length K
  tagged = like ts xs fs us from (length us - n) now to h (omega arith) (omega arith)

  module _ (j : ℕ) (ts' xs' fs' : List ℕ) (e : sifting j ts' xs' fs' ≡ sifted ts xs fs us from to (length us - n) now) where
    pub at_j : j ≡ from + length K
    unfolding sifted
    at_j = ap (λ (s : Sifting). s.count) e

    pub tags_are : ts' ≡ laid (stays xs us now) ts from to
    unfolding sifted
    tags_are = ap (λ (s : Sifting). s.tags) e

    pub slots_are : xs' ≡ laid (stays xs us now) xs from to
    unfolding sifted
    slots_are = ap (λ (s : Sifting). s.slots) e

    pub free_are : fs' ≡ over fs (length us - n) (gone S t now)
    unfolding sifted gone
    free_are = ap (λ (s : Sifting). s.free) e

    pub fell : to - j ≡ length (gone S t now)
    fell = omega (arith, at_j, gone_count)

    pub left_none : j ≡ to → n ≡ n - length (gone S t now)
    left_none z = omega (arith, fell)

    pub left_some : n - (to - j) ≡ n - length (gone S t now)
    left_some = ap (λ (d : ℕ). n - d) fell

    tags_closed : closed ts' j to n no_entry ≡ squeezed (stays xs us now) ts from to n
    tags_closed = ap (λ (r : List ℕ). closed r j to n no_entry) tags_are ∙ laid_closed (stays xs us now) ts from to n j h (omega (arith, at_j, tagged)) (omega (arith, at_j, gone_count)) l (omega arith)

    slots_closed : closed xs' j to n no_entry ≡ squeezed (stays xs us now) xs from to n
    slots_closed = ap (λ (r : List ℕ). closed r j to n no_entry) slots_are ∙ laid_closed (stays xs us now) xs from to n j h at_j (omega (arith, at_j, gone_count)) l (omega arith)

    freed : part fs' (length us - n) (length us - n + (to - j)) ≡ gone S t now
    freed = ap (λ (r : List ℕ). part r (length us - n) (length us - n + (to - j))) free_are ∙ over_part fs (length us - n) (gone S t now) (length us - n + (to - j)) (omega arith) (omega (arith, fell))

    pub drop_some : (ts'' xs'' os'' : List ℕ) (us'' : List (List ℕ)) (vs'' : List (List Float)) → ts'' ≡ closed ts' j to n no_entry → xs'' ≡ closed xs' j to n no_entry
        → us'' ≡ cleared (no_words) us (part fs' (length us - n) (length us - n + (to - j))) → vs'' ≡ cleared (no_floats) vs (part fs' (length us - n) (length us - n + (to - j)))
        → os'' ≡ from_on (λ (x : ℕ). x - (to - j)) os (t + 1) → rows ts'' xs'' os'' fs' us'' vs'' ≡ dropped S n t now
    unfolding dropped
    drop_some ts'' xs'' os'' us'' vs'' p q r s w =
        rows_same _ _ _ _ _ _ _ _ _ _ _ _ (p ∙ tags_closed) (q ∙ slots_closed) (w ∙ ap (λ (d : ℕ). from_on (λ (x : ℕ). x - d) os (t + 1)) fell) free_are
        (r ∙ ap (cleared (no_words) us) freed) (s ∙ ap (cleared (no_floats) vs) freed)

    pub drop_none : j ≡ to → length ts' ≡ length ts → length xs' ≡ length xs → rows ts' xs' os fs' us vs ≡ dropped S n t now
    unfolding dropped
    drop_none z p q =
        let g : gone S t now ≡ [] = empty (gone S t now) (omega (arith, fell)) in
        rows_same _ _ _ _ _ _ _ _ _ _ _ _ (sym (closed_none ts' j to n z l (omega arith)) ∙ tags_closed) (sym (closed_none xs' j to n z l (omega arith)) ∙ slots_closed)
        (sym (from_same (length (gone S t now)) os (t + 1) (ap length g))) free_are (sym (ap (cleared (no_words) us) g ∙ (unfold cleared in refl))) (sym (ap (cleared (no_floats) vs) g ∙ (unfold cleared in refl)))
