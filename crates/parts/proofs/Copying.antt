-- Entries that go down in turn: how often each is copied, from where and to where, and what that leaves of a row. Assumes nothing.
use mathlib.Core.Path.{◌≡◌, refl, sym, ap, ◌∙◌}
use mathlib.Core.Bool.{Bool, true, false, cond, not, true≢false}
use mathlib.Core.List.{List, [], ◌∷◌}
use Prim.Native.Nat.{ℕ, zero, suc, ◌+◌, ◌-◌, ◌<◌, ◌≤◌}
use native.Mathlib.Nat.{add-zero}
use native.Mathlib.Omega.{arith}
use native.Mathlib.Decide.{dec_lt, ℕ_discrete}
use lib.ListN.{length, get_or, set, take, drop, length-set}
use lib.Seq.{get_or-set_same, get_or-set_other, drop-cons}
use borrow.Author.Tests.{eq-eqb, ne_eqb}
use Rattle.shifting.specs.Shifting.{over, part}
use Rattle.shifting.proofs.Laying.{over_nil, over_snoc, over_over, length_over, part_none, part_beyond}
use Rattle.parts.specs.Parts.{those}
use Rattle.parts.specs.Laws.{one_if}
use Rattle.parts.specs.Copies.{Copy, copy, copy_at, going_down, copied_from, ran}

-- ---- how many
pub length_down : {A : Type 0} (p : ℕ → Bool) (c i j : ℕ) (xs : List A) → length xs ≡ c → length (going_down p c i j) ≡ length (those (λ k. not (p k)) i xs)
unfolding going_down those
length_down p zero i j [] e = refl
length_down p zero i j (x ∷ xs) e = absurd (omega arith)
length_down p (suc c) i j [] e = absurd (omega arith)
length_down {A} p (suc c) i j (x ∷ xs) e = by (p i) (length_down p c (suc i) j xs (omega arith)) (length_down p c (suc i) (suc j) xs (omega arith))
  where
    T : List A
    T = those (λ k. not (p k)) (suc i) xs

    by : (b : Bool) → length (going_down p c (suc i) j) ≡ length T → length (going_down p c (suc i) (suc j)) ≡ length T
        → length (cond b (going_down p c (suc i) j) (copy i j ∷ going_down p c (suc i) (suc j))) ≡ length (cond (not b) (x ∷ T) T)
    by true r s = r
    by false r s = ap suc s

module _ (p : ℕ → Bool) where
  pub down_gone : (c i j : ℕ) → p i ≡ true → going_down p (suc c) i j ≡ going_down p c (suc i) j
  unfolding going_down
  down_gone c i j e = rw e

  down_kept : (c i j : ℕ) → p i ≡ false → going_down p (suc c) i j ≡ copy i j ∷ going_down p c (suc i) (suc j)
  unfolding going_down
  down_kept c i j e = rw e

  -- ---- how often each
  other : (i j k : ℕ) (cs : List Copy) → (i ≡ k → ⊥) → copied_from (copy i j ∷ cs) k ≡ copied_from cs k
  unfolding copied_from
  other i j k cs h = omega (arith, ap one_if (ne_eqb i k h))

  same : (i j k : ℕ) (cs : List Copy) → i ≡ k → copied_from (copy i j ∷ cs) k ≡ suc (copied_from cs k)
  unfolding copied_from
  same i j k cs h = omega (arith, ap one_if (eq-eqb i k h))

  none_at : (i j k : ℕ) → copied_from (going_down p zero i j) k ≡ 0
  unfolding going_down copied_from
  none_at i j k = refl

  -- one turn past another place
  turn : (c i j k v : ℕ) → (i ≡ k → p i ≡ true) → copied_from (going_down p c (suc i) j) k ≡ v → copied_from (going_down p c (suc i) (suc j)) k ≡ v → copied_from (going_down p (suc c) i j) k ≡ v
  turn c i j k v h r s = by (p i) refl
    where
      by : (b : Bool) → p i ≡ b → copied_from (going_down p (suc c) i j) k ≡ v
      by true e = ap (λ (cs : List Copy). copied_from cs k) (down_gone c i j e) ∙ r
      by false e = ap (λ (cs : List Copy). copied_from cs k) (down_kept c i j e) ∙ other i j k (going_down p c (suc i) (suc j)) (λ q. true≢false (sym (h q) ∙ e)) ∙ s

  pub before : (c i j k : ℕ) → k < i → copied_from (going_down p c i j) k ≡ 0
  before zero i j k h = none_at i j k
  before (suc c) i j k h = turn c i j k 0 (λ q. absurd (omega arith)) (before c (suc i) j k (omega arith)) (before c (suc i) (suc j) k (omega arith))

  pub behind : (c i j k : ℕ) → i + c ≤ k → copied_from (going_down p c i j) k ≡ 0
  behind zero i j k h = none_at i j k
  behind (suc c) i j k h = turn c i j k 0 (λ q. absurd (omega arith)) (behind c (suc i) j k (omega arith)) (behind c (suc i) (suc j) k (omega arith))

  pub leaves : (c i j k : ℕ) → p k ≡ true → copied_from (going_down p c i j) k ≡ 0
  leaves zero i j k h = none_at i j k
  leaves (suc c) i j k h = turn c i j k 0 (λ q. ap p q ∙ h) (leaves c (suc i) j k h) (leaves c (suc i) (suc j) k h)

  pub stays : (c i j k : ℕ) → i ≤ k → k < i + c → p k ≡ false → copied_from (going_down p c i j) k ≡ 1
  stays zero i j k h l e = absurd (omega arith)
  stays (suc c) i j k h l e = elim (ℕ_discrete i k) [
    | yes q ↦ ap (λ (cs : List Copy). copied_from cs k) (down_kept c i j (ap p q ∙ e)) ∙ same i j k (going_down p c (suc i) (suc j)) q ∙ ap suc (before c (suc i) (suc j) k (omega arith))
    | no q ↦ turn c i j k 1 (λ z. absurd (q z)) (stays c (suc i) j k (omega arith) (omega arith) e) (stays c (suc i) (suc j) k (omega arith) (omega arith) e)
  ]

  pub most : (c i j k : ℕ) → copied_from (going_down p c i j) k ≤ 1
  most c i j k = elim (dec_lt k i) [
    | yes h ↦ omega (arith, before c i j k h)
    | no h ↦ elim (dec_lt k (i + c)) [
      | yes l ↦ by (p k) refl (omega arith) l
      | no l ↦ omega (arith, behind c i j k (omega arith))
    ]
  ]
    where
      by : (b : Bool) → p k ≡ b → i ≤ k → k < i + c → copied_from (going_down p c i j) k ≤ 1
      by true e h l = omega (arith, leaves c i j k e)
      by false e h l = omega (arith, stays c i j k h l e)

  -- ---- from where and to where
  pub from_at : (c i j a : ℕ) → a < length (going_down p c i j) → i + a ≤ (copy_at (going_down p c i j) a).from
  unfolding going_down
  from_at zero i j a h = absurd (omega arith)
  from_at (suc c) i j a h = by (p i) a (from_at c (suc i) j) (from_at c (suc i) (suc j)) h
    where
      by : (b : Bool) (a : ℕ) → ((a : ℕ) → a < length (going_down p c (suc i) j) → suc i + a ≤ (copy_at (going_down p c (suc i) j) a).from)
          → ((a : ℕ) → a < length (going_down p c (suc i) (suc j)) → suc i + a ≤ (copy_at (going_down p c (suc i) (suc j)) a).from)
          → a < length (cond b (going_down p c (suc i) j) (copy i j ∷ going_down p c (suc i) (suc j)))
          → i + a ≤ (copy_at (cond b (going_down p c (suc i) j) (copy i j ∷ going_down p c (suc i) (suc j))) a).from
      by true a r s l = omega (arith, r a l)
      by false zero r s l = omega arith
      by false (suc a) r s l = omega (arith, s a (omega arith))

  pub to_at : (c i j a : ℕ) → a < length (going_down p c i j) → (copy_at (going_down p c i j) a).to ≡ j + a
  unfolding going_down
  to_at zero i j a h = absurd (omega arith)
  to_at (suc c) i j a h = by (p i) a (to_at c (suc i) j) (to_at c (suc i) (suc j)) h
    where
      by : (b : Bool) (a : ℕ) → ((a : ℕ) → a < length (going_down p c (suc i) j) → (copy_at (going_down p c (suc i) j) a).to ≡ j + a)
          → ((a : ℕ) → a < length (going_down p c (suc i) (suc j)) → (copy_at (going_down p c (suc i) (suc j)) a).to ≡ suc j + a)
          → a < length (cond b (going_down p c (suc i) j) (copy i j ∷ going_down p c (suc i) (suc j)))
          → (copy_at (cond b (going_down p c (suc i) j) (copy i j ∷ going_down p c (suc i) (suc j))) a).to ≡ j + a
      by true a r s l = r a l
      by false zero r s l = omega arith
      by false (suc a) r s l = omega (arith, s a (omega arith))

  pub high_at : (c i j a : ℕ) → a < length (going_down p c i j) → (copy_at (going_down p c i j) a).from < i + c
  unfolding going_down
  high_at zero i j a h = absurd (omega arith)
  high_at (suc c) i j a h = by (p i) a (high_at c (suc i) j) (high_at c (suc i) (suc j)) h
    where
      by : (b : Bool) (a : ℕ) → ((a : ℕ) → a < length (going_down p c (suc i) j) → (copy_at (going_down p c (suc i) j) a).from < suc i + c)
          → ((a : ℕ) → a < length (going_down p c (suc i) (suc j)) → (copy_at (going_down p c (suc i) (suc j)) a).from < suc i + c)
          → a < length (cond b (going_down p c (suc i) j) (copy i j ∷ going_down p c (suc i) (suc j)))
          → (copy_at (cond b (going_down p c (suc i) j) (copy i j ∷ going_down p c (suc i) (suc j))) a).from < i + suc c
      by true a r s l = omega (arith, r a l)
      by false zero r s l = omega arith
      by false (suc a) r s l = omega (arith, s a (omega arith))

  pub rises_at : (c i j a b : ℕ) → a < b → b < length (going_down p c i j) → (copy_at (going_down p c i j) a).from < (copy_at (going_down p c i j) b).from
  unfolding going_down
  rises_at zero i j a b u h = absurd (omega arith)
  rises_at (suc c) i j a b u h = by (p i) a b (rises_at c (suc i) j) (rises_at c (suc i) (suc j)) u h
    where
      by : (k : Bool) (a b : ℕ) → ((a b : ℕ) → a < b → b < length (going_down p c (suc i) j) → (copy_at (going_down p c (suc i) j) a).from < (copy_at (going_down p c (suc i) j) b).from)
          → ((a b : ℕ) → a < b → b < length (going_down p c (suc i) (suc j)) → (copy_at (going_down p c (suc i) (suc j)) a).from < (copy_at (going_down p c (suc i) (suc j)) b).from)
          → a < b → b < length (cond k (going_down p c (suc i) j) (copy i j ∷ going_down p c (suc i) (suc j)))
          → (copy_at (cond k (going_down p c (suc i) j) (copy i j ∷ going_down p c (suc i) (suc j))) a).from < (copy_at (cond k (going_down p c (suc i) j) (copy i j ∷ going_down p c (suc i) (suc j))) b).from
      by true a b r s u l = r a b u l
      by false a zero r s u l = absurd (omega arith)
      by false zero (suc b) r s u l = omega (arith, from_at c (suc i) (suc j) b (omega arith))
      by false (suc a) (suc b) r s u l = s a b (omega arith) (omega arith)

  -- ---- what they leave: of the places passed over, the entries that stay lie behind one another from j on
  part_cons : (xs : List ℕ) (i c : ℕ) → i + suc c ≤ length xs → part xs i (i + suc c) ≡ get_or xs i 0 ∷ part xs (suc i) (suc i + c)
  unfolding part
  part_cons xs i c h =
      let z : i + suc c - i ≡ suc c = omega arith in
      let y : suc i + c - suc i ≡ c = omega arith in
      ap (λ (k : ℕ). take k (drop i xs)) z ∙ ap (take (suc c)) (drop-cons xs i 0 (omega arith)) ∙ ap (λ (k : ℕ). get_or xs i 0 ∷ take k (drop (suc i) xs)) (sym y)

  laid_one : (xs : List ℕ) (j x : ℕ) → j < length xs → set xs j x ≡ over xs j (x ∷ [])
  laid_one xs j x h =
      let z : j ≡ j + 0 = omega arith in
      ap (λ (r : List ℕ). set r j x) (sym (over_nil xs j)) ∙ ap (λ (k : ℕ). set (over xs j []) k x) z ∙ over_snoc 0 xs j [] x (omega arith)

  abbrev K : ℕ → List ℕ → List ℕ
  K i xs = those (λ k. not (p k)) i xs

  nothing : (i : ℕ) (xs : List ℕ) → K i (part xs i (i + 0)) ≡ []
  unfolding those
  nothing i xs = ap (λ (k : ℕ). K i (part xs i k)) (add-zero i) ∙ ap (K i) (part_none xs i)

  those_gone : (i x : ℕ) (xs : List ℕ) → p i ≡ true → K i (x ∷ xs) ≡ K (suc i) xs
  unfolding those
  those_gone i x xs e = rw e

  those_kept : (i x : ℕ) (xs : List ℕ) → p i ≡ false → K i (x ∷ xs) ≡ x ∷ K (suc i) xs
  unfolding those
  those_kept i x xs e = rw e

  ran_none : (i j : ℕ) (xs : List ℕ) → ran (going_down p zero i j) xs ≡ xs
  unfolding ran going_down
  ran_none i j xs = refl

  none_down : (i j : ℕ) → going_down p zero i j ≡ []
  unfolding going_down
  none_down i j = refl

  ran_one : (i j : ℕ) (cs : List Copy) (xs : List ℕ) → ran (copy i j ∷ cs) xs ≡ ran cs (set xs j (get_or xs i 0))
  unfolding ran
  ran_one i j cs xs = refl

  pub ran_down : (c i j : ℕ) (xs : List ℕ) → j ≤ i → i + c ≤ length xs → ran (going_down p c i j) xs ≡ over xs j (K i (part xs i (i + c)))
  ran_down zero i j xs h l = ran_none i j xs ∙ sym (over_nil xs j) ∙ sym (ap (over xs j) (nothing i xs))
  ran_down (suc c) i j xs h l =
      by (p i) refl (ran_down c (suc i) j xs (omega arith) (omega arith))
      (ran_down c (suc i) (suc j) (over xs j (get_or xs i 0 ∷ [])) (omega arith) (omega (arith, length_over xs j (get_or xs i 0 ∷ []) (omega arith))))
    where
      x : ℕ
      x = get_or xs i 0

      ys : List ℕ
      ys = over xs j (x ∷ [])

      rest : List ℕ
      rest = part xs (suc i) (suc i + c)

      by : (b : Bool) → p i ≡ b → ran (going_down p c (suc i) j) xs ≡ over xs j (K (suc i) rest) → ran (going_down p c (suc i) (suc j)) ys ≡ over ys (suc j) (K (suc i) (part ys (suc i) (suc i + c)))
          → ran (going_down p (suc c) i j) xs ≡ over xs j (K i (part xs i (i + suc c)))
      by true e r s = ap (λ (cs : List Copy). ran cs xs) (down_gone c i j e) ∙ r ∙ ap (over xs j) (sym (those_gone i x rest e) ∙ ap (K i) (sym (part_cons xs i c l)))
      by false e r s =
          ap (λ (cs : List Copy). ran cs xs) (down_kept c i j e) ∙ ran_one i j (going_down p c (suc i) (suc j)) xs
          ∙ ap (ran (going_down p c (suc i) (suc j))) (laid_one xs j x (omega arith)) ∙ s
          ∙ ap (λ (r : List ℕ). over ys (suc j) (K (suc i) r)) (part_beyond xs j (x ∷ []) (suc i) (suc i + c) (omega arith) (omega arith))
          ∙ over_over xs j (suc j) (x ∷ []) (K (suc i) rest) (omega arith) (omega arith)
          ∙ ap (over xs j) (sym (those_kept i x rest e) ∙ ap (K i) (sym (part_cons xs i c l)))

  -- what stands then at a place
  pub ran_before : (c i j y : ℕ) (xs : List ℕ) → y < j → get_or (ran (going_down p c i j) xs) y 0 ≡ get_or xs y 0
  ran_before zero i j y xs h = ap (λ (r : List ℕ). get_or r y 0) (ran_none i j xs)
  ran_before (suc c) i j y xs h = by (p i) refl (ran_before c (suc i) j y xs h) (ran_before c (suc i) (suc j) y (set xs j (get_or xs i 0)) (omega arith))
    where
      x : ℕ
      x = get_or xs i 0

      by : (b : Bool) → p i ≡ b → get_or (ran (going_down p c (suc i) j) xs) y 0 ≡ get_or xs y 0 → get_or (ran (going_down p c (suc i) (suc j)) (set xs j x)) y 0 ≡ get_or (set xs j x) y 0
          → get_or (ran (going_down p (suc c) i j) xs) y 0 ≡ get_or xs y 0
      by true e r s = ap (λ (cs : List Copy). get_or (ran cs xs) y 0) (down_gone c i j e) ∙ r
      by false e r s =
          ap (λ (cs : List Copy). get_or (ran cs xs) y 0) (down_kept c i j e) ∙ ap (λ (l : List ℕ). get_or l y 0) (ran_one i j (going_down p c (suc i) (suc j)) xs) ∙ s
          ∙ get_or-set_other xs j y x 0 (λ q. absurd (omega arith))

  pub ran_at : (c i j a : ℕ) (xs : List ℕ) → j ≤ i → i + c ≤ length xs → a < length (going_down p c i j) → get_or (ran (going_down p c i j) xs) (j + a) 0 ≡ get_or xs (copy_at (going_down p c i j) a).from 0
  ran_at zero i j a xs h l m = absurd (omega (arith, ap length (none_down i j)))
  ran_at (suc c) i j a xs h l m =
      by (p i) a refl (λ k. ran_at c (suc i) j k xs (omega arith) (omega arith)) (λ k. ran_at c (suc i) (suc j) k (set xs j (get_or xs i 0)) (omega arith) (omega (arith, length-set xs j (get_or xs i 0)))) m
    where
      x : ℕ
      x = get_or xs i 0

      ys : List ℕ
      ys = set xs j x

      N : List Copy
      N = going_down p c (suc i) (suc j)

      by : (b : Bool) (a : ℕ) → p i ≡ b → ((k : ℕ) → k < length (going_down p c (suc i) j) → get_or (ran (going_down p c (suc i) j) xs) (j + k) 0 ≡ get_or xs (copy_at (going_down p c (suc i) j) k).from 0)
          → ((k : ℕ) → k < length N → get_or (ran N ys) (suc j + k) 0 ≡ get_or ys (copy_at N k).from 0)
          → a < length (going_down p (suc c) i j) → get_or (ran (going_down p (suc c) i j) xs) (j + a) 0 ≡ get_or xs (copy_at (going_down p (suc c) i j) a).from 0
      by true a e r s m =
          let q = down_gone c i j e in
          ap (λ (cs : List Copy). get_or (ran cs xs) (j + a) 0) q ∙ r a (omega (arith, ap length q)) ∙ sym (ap (λ (cs : List Copy). get_or xs (copy_at cs a).from 0) q)
      by false zero e r s m =
          let q = down_kept c i j e in
          let z : j + 0 ≡ j = omega arith in
          ap (λ (cs : List Copy). get_or (ran cs xs) (j + 0) 0) q ∙ ap (λ (k : ℕ). get_or (ran (copy i j ∷ N) xs) k 0) z ∙ ap (λ (t : List ℕ). get_or t j 0) (ran_one i j N xs)
          ∙ ran_before c (suc i) (suc j) j ys (omega arith) ∙ get_or-set_same xs j x 0 (omega arith) ∙ sym (ap (λ (cs : List Copy). get_or xs (copy_at cs 0).from 0) q)
      by false (suc a) e r s m =
          let q = down_kept c i j e in
          let z : j + suc a ≡ suc j + a = omega arith in
          let n : a < length N = omega (arith, ap length q) in
          ap (λ (cs : List Copy). get_or (ran cs xs) (j + suc a) 0) q ∙ ap (λ (k : ℕ). get_or (ran (copy i j ∷ N) xs) k 0) z ∙ ap (λ (t : List ℕ). get_or t (suc j + a) 0) (ran_one i j N xs)
          ∙ s a n ∙ get_or-set_other xs j (copy_at N a).from x 0 (λ u. absurd (omega (arith, from_at c (suc i) (suc j) a n))) ∙ sym (ap (λ (cs : List Copy). get_or xs (copy_at cs (suc a)).from 0) q)
