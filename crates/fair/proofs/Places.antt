-- A sweep by place: of two lists, one behind the other; of the rows from one place up to another; and of two such parts, one after the other. Assumes nothing.
use mathlib.Core.Path.{◌≡◌, refl, sym, ap, ◌∙◌}
use Prim.Native.Nat.{ℕ, suc, ◌+◌, ◌-◌, ◌≤◌, ◌<◌}
use native.Mathlib.Omega.{arith}
use mathlib.Core.Bool.{Bool, true, false, ◌&&◌, cond}
use mathlib.Core.List.{List, [], ◌∷◌, ◌++◌, append_assoc}
use lib.Dec.{leb, ltb}
use lib.ListN.{length, take, drop, length-append, length-drop, take-append-drop}
use lib.Seq.{length-take-le, drop-drop, take-append-add}
use borrow.Author.Tests.{le-leb, lt-leb, lt-ltb, le-ltb}
use Rattle.std.proofs.lemmas.List.{take_at, drop_at}
use Rattle.fair.specs.Store.{Row, behind, sweep}

module _ (Name : Type 0) (same : Name → Name → Bool) (shares : Name → Bool) (room : ℕ) where
  abbrev R : Type 0
  R = Row Name same shares room

  abbrev less : (ℕ → R → Bool) → List R → List R
  less p xs = sweep Name same shares room p xs

  abbrev on : (ℕ → R → Bool) → ℕ → R → Bool
  on p = behind Name same shares room p

  -- only the places of the list matter
  pub swept_same : (p q : ℕ → R → Bool) (xs : List R) → ((i : ℕ) (r : R) → i < length xs → p i r ≡ q i r) → less p xs ≡ less q xs
  swept_same p q [] f = refl
  swept_same p q (x ∷ xs) f = go (swept_same (on p) (on q) xs (λ i r h. f (suc i) r (omega arith))) (p 0 x) (q 0 x) (f 0 x (omega arith))
    where
      go : less (on p) xs ≡ less (on q) xs → (a b : Bool) → a ≡ b
          → cond a (less (on p) xs) (x ∷ less (on p) xs) ≡ cond b (less (on q) xs) (x ∷ less (on q) xs)
      go i a b e = rw (e, i)

  pub all_stay : (xs : List R) → less (λ (i : ℕ) (r : R). false) xs ≡ xs
  all_stay [] = refl
  all_stay (x ∷ xs) = ap (λ (l : List R). x ∷ l) (all_stay xs)

  pub swept_none : (p : ℕ → R → Bool) (xs : List R) → ((i : ℕ) (r : R) → i < length xs → p i r ≡ false) → less p xs ≡ xs
  swept_none p xs f = swept_same p (λ (i : ℕ) (r : R). false) xs f ∙ all_stay xs

  pub swept_length : (p : ℕ → R → Bool) (xs : List R) → length (less p xs) ≤ length xs
  swept_length p [] = omega arith
  swept_length p (x ∷ xs) = go (swept_length (on p) xs) (p 0 x)
    where
      go : length (less (on p) xs) ≤ length xs → (b : Bool) → length (cond b (less (on p) xs) (x ∷ less (on p) xs)) ≤ length (x ∷ xs)
      go l true = omega arith
      go l false = omega arith

  -- of the list behind, the places go on
  pub swept_parts : (p : ℕ → R → Bool) (xs ys : List R) → less p (xs ++ ys) ≡ less p xs ++ less (λ (i : ℕ). p (length xs + i)) ys
  swept_parts p [] ys = swept_same p (λ (i : ℕ). p (0 + i)) ys (λ i r h. ap (λ (k : ℕ). p k r) (omega arith))
  swept_parts p (x ∷ xs) ys =
      go (swept_parts (on p) xs ys ∙ ap (λ (l : List R). less (on p) xs ++ l) (swept_same (λ (i : ℕ). on p (length xs + i)) (λ (i : ℕ). p (suc (length xs) + i)) ys (λ i r h. ap (λ (k : ℕ). p k r) (omega arith)))) (p 0 x)
    where
      go : less (on p) (xs ++ ys) ≡ less (on p) xs ++ less (λ (i : ℕ). p (suc (length xs) + i)) ys → (b : Bool)
          → cond b (less (on p) (xs ++ ys)) (x ∷ less (on p) (xs ++ ys)) ≡ cond b (less (on p) xs) (x ∷ less (on p) xs) ++ less (λ (i : ℕ). p (suc (length xs) + i)) ys
      go e true = e
      go e false = ap (λ (l : List R). x ∷ l) e

  -- the rows from the place b up to the place e
  abbrev pub part : List R → ℕ → ℕ → List R
  part xs b e = take (e - b) (drop b xs)

  part_length : (xs : List R) (b e : ℕ) → b ≤ e → e ≤ length xs → length (part xs b e) ≡ e - b
  part_length xs b e l h = length-take-le (e - b) (drop b xs) (omega (arith, length-drop b xs))

  -- a list: what stands before the part, the part, and what stands behind it
  apart : (xs : List R) (b e : ℕ) → b ≤ e → take b xs ++ part xs b e ++ drop e xs ≡ xs
  apart xs b e l =
      let k : b + (e - b) ≡ e = omega arith in
      append_assoc (take b xs) (part xs b e) (drop e xs)
      ∙ ap (λ (ys : List R). take b xs ++ ys) (ap (λ (j : ℕ). part xs b e ++ drop j xs) (sym k) ∙ ap (λ (ys : List R). part xs b e ++ ys) (sym (drop-drop (e - b) b xs)) ∙ take-append-drop (e - b) (drop b xs))
      ∙ take-append-drop b xs

  joined : (xs : List R) (b m e : ℕ) → b ≤ m → m ≤ e → e ≤ length xs → part xs b e ≡ part xs b m ++ part xs m e
  joined xs b m e l k h =
      let z : e - b ≡ length (part xs b m) + (e - m) = omega (arith, part_length xs b m l (omega arith)) in
      let d : drop (m - b) (drop b xs) ≡ drop m xs = drop-drop (m - b) b xs ∙ ap (λ (j : ℕ). drop j xs) (omega arith) in
      ap (λ (j : ℕ). take j (drop b xs)) z ∙ ap (take (length (part xs b m) + (e - m))) (sym (take-append-drop (m - b) (drop b xs)) ∙ ap (λ (ys : List R). part xs b m ++ ys) d)
      ∙ take-append-add (part xs b m) (drop m xs) (e - m)

  -- p holds of nothing before the place b, and of nothing from the place e on
  pub swept_part : (p : ℕ → R → Bool) (b e : ℕ) (xs : List R) → b ≤ e → e ≤ length xs → ((i : ℕ) (r : R) → i < b → p i r ≡ false) → ((i : ℕ) (r : R) → e ≤ i → p i r ≡ false)
      → less p xs ≡ take b xs ++ less (λ (i : ℕ). p (b + i)) (part xs b e) ++ drop e xs
  swept_part p b e xs l h front_stays rest_stays =
      let front : length (take b xs) ≡ b = length-take-le b xs (omega arith) in
      let both : length (take b xs ++ part xs b e) ≡ e = omega (arith, length-append (take b xs) (part xs b e), front, part_length xs b e l h) in
      let f = swept_none p (take b xs) (λ i r k. front_stays i r (omega (arith, front))) in
      let g = swept_none (λ (i : ℕ). p (length (take b xs ++ part xs b e) + i)) (drop e xs) (λ i r k. rest_stays (length (take b xs ++ part xs b e) + i) r (omega (arith, both))) in
      ap (less p) (sym (apart xs b e l)) ∙ swept_parts p (take b xs ++ part xs b e) (drop e xs) ∙ (rw (g, swept_parts p (take b xs) (part xs b e), f, front))

  -- ---- the rows of which q holds: of a part, and of the whole list
  abbrev pub within : ℕ → ℕ → (R → Bool) → ℕ → R → Bool
  within b e q i r = leb b i && ltb i e && q r

  abbrev pub anywhere : (R → Bool) → ℕ → R → Bool
  anywhere q i r = q r

  pub swept_within : (q : R → Bool) (b e : ℕ) (xs : List R) → b ≤ e → e ≤ length xs → less (within b e q) xs ≡ take b xs ++ less (anywhere q) (part xs b e) ++ drop e xs
  swept_within q b e xs l h =
      swept_part (within b e q) b e xs l h (λ i r k. simp (lt-leb b i k)) (λ i r k. last (leb b i) (ltb i e) (q r) (le-ltb i e k))
      ∙ ap (λ (ys : List R). take b xs ++ ys ++ drop e xs)
      (swept_same (λ (i : ℕ). within b e q (b + i)) (anywhere q) (part xs b e) (λ i r k. simp (le-leb b (b + i) (omega arith), lt-ltb (b + i) e (omega (arith, part_length xs b e l h)))))
    where
      last : (x y z : Bool) → y ≡ false → x && y && z ≡ false
      last true y z f = simp f
      last false y z f = refl

  -- TWO PARTS, one behind the other: first that from b up to m, then the rows that stood from m up to e; they begin at n, where the kept rows of the first part end
  pub swept_next : (q : R → Bool) (b m e n : ℕ) (xs : List R) → b ≤ m → m ≤ e → e ≤ length xs → n ≡ b + length (less (anywhere q) (part xs b m))
      → less (within n (n + (e - m)) q) (less (within b m q) xs) ≡ less (within b e q) xs
  swept_next q b m e n xs l k h is =
      let p = less (anywhere q) (part xs b m) in
      let all : less (within b e q) xs ≡ take b xs ++ (p ++ less (anywhere q) (part xs m e)) ++ drop e xs =
      swept_within q b e xs (omega arith) h ∙ (rw (joined xs b m e l k h, swept_parts (anywhere q) (part xs b m) (part xs m e))) in
      let f = take b xs ++ p in
      let x = f ++ drop m xs in
      let z : length f ≡ n = omega (arith, length-append (take b xs) p, length-take-le b xs (omega arith)) in
      let t : take n x ≡ f = take_at f (drop m xs) n z in
      let d : drop n x ≡ drop m xs = drop_at f (drop m xs) n z in
      let c : n + (e - m) - n ≡ e - m = omega arith in
      let o : drop (n + (e - m)) x ≡ drop e xs = sym (drop-drop (e - m) n x) ∙ ap (drop (e - m)) d ∙ drop-drop (e - m) m xs ∙ ap (λ (j : ℕ). drop j xs) (omega arith) in
      ap (less (within n (n + (e - m)) q)) (swept_within q b m xs l (omega arith))
      ∙ swept_within q n (n + (e - m)) x (omega arith) (omega (arith, length-append f (drop m xs), length-drop m xs))
      ∙ rw (t, c, d, o, append_assoc (take b xs) p (less (anywhere q) (part xs m e))) (sym all)
