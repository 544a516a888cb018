-- The clock only goes forward, and stays below a bound on the stamps; and what holds of a run holds of it seen as other calls. Assumes nothing.
use mathlib.Core.Path.{◌≡◌, refl, ◌∙◌}
use Prim.Native.Nat.{ℕ, zero, suc, ◌-◌, ◌≤◌, ◌<◌}
use native.Mathlib.Nat.{le_refl}
use native.Mathlib.Omega.{arith}
use mathlib.Core.List.{List, [], ◌∷◌}
use mathlib.Core.Bool.{Bool, true, false, cond}
use Rattle.fair.specs.Runs.{sum, highest, oldest, lowest, Since, clock, back, Each, taken}

module _ {Call : Type 0} (stamp : Call → ℕ) where
  pub back-le : (k : ℕ) (h : List Call) → clock stamp (back k h) ≤ clock stamp h
  unfolding clock back
  back-le zero h = le_refl _
  back-le (suc k) [] = le_refl _
  back-le (suc k) (c ∷ h) = omega (arith, back-le k h)

  pub forward : (c : Call) (h : List Call) → clock stamp h ≤ clock stamp (c ∷ h)
  unfolding clock
  forward c h = omega arith

  -- an older call's clock is no later, and a run's length is the sum of its gaps
  pub gaps : (k : ℕ) (h : List Call) → clock stamp h - clock stamp (back k h) ≡ sum (λ c h. clock stamp (c ∷ h) - clock stamp h) k h
  unfolding clock back sum
  gaps zero h = omega arith
  gaps (suc k) [] = omega arith
  gaps (suc k) (c ∷ h) = omega (arith, gaps k h, back-le k h)

  pub clock_below : (P : Call → Type 0) (m : ℕ) → 0 < m → ((c : Call) → P c → stamp c < m) → (h : List Call) → Each P h → clock stamp h < m
  unfolding clock Each
  clock_below P m z f [] l = z
  clock_below P m z f (c ∷ h) l = omega (arith, f c l.0, clock_below P m z f h l.1)

-- what the first call brings is no more than the highest
pub oldest_highest : {Call : Type 0} (w : Call → List Call → ℕ) (k : ℕ) (h : List Call) → oldest w k h ≤ highest w (suc k) h
unfolding oldest highest
oldest_highest w k [] = omega arith
oldest_highest w zero (c ∷ h) = omega arith
oldest_highest w (suc k) (c ∷ []) = omega arith
oldest_highest w (suc k) (c ∷ d ∷ h) = omega (arith, oldest_highest w k (d ∷ h))

-- ---- a history seen as one of another kind of call
module _ {A B : Type 0} (see : A → List A → B) where
  unfoldable pub shown : List A → List B
  shown [] = []
  shown (c ∷ h) = see c h ∷ shown h

  pub sum_shown : (w : A → List A → ℕ) (v : B → List B → ℕ) → ((c : A) (h : List A) → w c h ≡ v (see c h) (shown h)) → (n : ℕ) (h : List A) → sum w n h ≡ sum v n (shown h)
  unfolding sum shown
  sum_shown w v e zero h = refl
  sum_shown w v e (suc n) [] = refl
  sum_shown w v e (suc n) (c ∷ h) = omega (arith, e c h, sum_shown w v e n h)

  pub highest_shown : (w : A → List A → ℕ) (v : B → List B → ℕ) → ((c : A) (h : List A) → w c h ≡ v (see c h) (shown h)) → (n : ℕ) (h : List A) → highest w n h ≡ highest v n (shown h)
  unfolding highest shown
  highest_shown w v e zero h = refl
  highest_shown w v e (suc n) [] = refl
  highest_shown w v e (suc n) (c ∷ h) = omega (arith, e c h, highest_shown w v e n h)

  pub oldest_shown : (w : A → List A → ℕ) (v : B → List B → ℕ) → ((c : A) (h : List A) → w c h ≡ v (see c h) (shown h)) → (k : ℕ) (h : List A) → oldest w k h ≡ oldest v k (shown h)
  unfolding oldest shown
  oldest_shown w v e k [] = refl
  oldest_shown w v e zero (c ∷ h) = e c h
  oldest_shown w v e (suc k) (c ∷ []) = e c []
  oldest_shown w v e (suc k) (c ∷ d ∷ h) = oldest_shown w v e k (d ∷ h)

  pub clock_shown : (w : A → ℕ) (v : B → ℕ) → ((c : A) (h : List A) → w c ≡ v (see c h)) → (h : List A) → clock w h ≡ clock v (shown h)
  unfolding clock shown
  clock_shown w v e [] = refl
  clock_shown w v e (c ∷ h) = omega (arith, e c h, clock_shown w v e h)

  pub back_shown : (k : ℕ) (h : List A) → shown (back k h) ≡ back k (shown h)
  unfolding back shown
  back_shown zero h = refl
  back_shown (suc k) [] = refl
  back_shown (suc k) (c ∷ h) = back_shown k h

  pub each_shown : (P : A → Type 0) (Q : B → Type 0) → ((c : A) (h : List A) → P c → Q (see c h)) → (h : List A) → Each P h → Each Q (shown h)
  unfolding Each shown
  each_shown P Q f [] l = tt
  each_shown P Q f (c ∷ h) l = (f c h l.0, each_shown P Q f h l.1)

  pub lowest_shown : (p : A → List A → Bool) (q : B → List B → Bool) (w : A → List A → ℕ) (v : B → List B → ℕ) → ((c : A) (h : List A) → p c h ≡ q (see c h) (shown h)) → ((c : A) (h : List A) → w c h ≡ v (see c h) (shown h))
      → (k : ℕ) (h : List A) → lowest p w k h ≡ lowest q v k (shown h)
  unfolding lowest shown
  lowest_shown p q w v f e k [] = refl
  lowest_shown p q w v f e zero (c ∷ h) = e c h
  lowest_shown p q w v f e (suc k) (c ∷ h) = rw (f c h, e c h, lowest_shown p q w v f e k h)

  pub since_shown : (p : A → List A → Bool) (q : B → List B → Bool) (s : List A → Bool) (t : List B → Bool) → ((c : A) (h : List A) → p c h ≡ q (see c h) (shown h)) → ((h : List A) → s h ≡ t (shown h))
      → (k : ℕ) (h : List A) → Since q t k (shown h) → Since p s k h
  unfolding Since shown
  since_shown p q s t f e k [] x = x
  since_shown p q s t f e zero (c ∷ h) x = rw (f c h) x
  since_shown p q s t f e (suc k) (c ∷ h) x = (rw (e (c ∷ h)) x.0, since_shown p q s t f e k h x.1)

-- ---- refused calls change nothing: the state is that which the others make
module _ {A S : Type 0} (refused : A → List A → Bool) (state made : List A → S) where
  pub taken_state : state [] ≡ made [] → ((c : A) (h : List A) → refused c h ≡ true → state (c ∷ h) ≡ state h)
      → ((c : A) (h : List A) → refused c h ≡ false → state h ≡ made (taken refused h) → state (c ∷ h) ≡ made (c ∷ taken refused h)) → (h : List A) → state h ≡ made (taken refused h)
  unfolding taken
  taken_state e skip next [] = e
  taken_state e skip next (c ∷ h) = go (taken_state e skip next h) (refused c h) refl
    where
      go : state h ≡ made (taken refused h) → (b : Bool) → refused c h ≡ b → state (c ∷ h) ≡ made (cond b (taken refused h) (c ∷ taken refused h))
      go i true q = skip c h q ∙ i
      go i false q = next c h q i

-- ---- the same of a history each of whose calls has P, after what went before it
module _ {A B : Type 0} (see : A → List A → B) (P : A → List A → Type 0) where
  unfoldable pub Along : List A → Type 0
  Along [] = Unit {0}
  Along (c ∷ h) = P c h × Along h

  pub sum_along : (w : A → List A → ℕ) (v : B → List B → ℕ) → ((c : A) (h : List A) → P c h → w c h ≡ v (see c h) (shown see h)) → (n : ℕ) (h : List A) → Along h → sum w n h ≡ sum v n (shown see h)
  unfolding sum shown Along
  sum_along w v e zero h a = refl
  sum_along w v e (suc n) [] a = refl
  sum_along w v e (suc n) (c ∷ h) a = omega (arith, e c h a.0, sum_along w v e n h a.1)

  pub highest_along : (w : A → List A → ℕ) (v : B → List B → ℕ) → ((c : A) (h : List A) → P c h → w c h ≡ v (see c h) (shown see h)) → (n : ℕ) (h : List A) → Along h → highest w n h ≡ highest v n (shown see h)
  unfolding highest shown Along
  highest_along w v e zero h a = refl
  highest_along w v e (suc n) [] a = refl
  highest_along w v e (suc n) (c ∷ h) a = omega (arith, e c h a.0, highest_along w v e n h a.1)

  pub oldest_along : (w : A → List A → ℕ) (v : B → List B → ℕ) → ((c : A) (h : List A) → P c h → w c h ≡ v (see c h) (shown see h)) → (k : ℕ) (h : List A) → Along h → oldest w k h ≡ oldest v k (shown see h)
  unfolding oldest shown Along
  oldest_along w v e k [] a = refl
  oldest_along w v e zero (c ∷ h) a = e c h a.0
  oldest_along w v e (suc k) (c ∷ []) a = e c [] a.0
  oldest_along w v e (suc k) (c ∷ d ∷ h) a = oldest_along w v e k (d ∷ h) a.1

  pub clock_along : (w : A → ℕ) (v : B → ℕ) → ((c : A) (h : List A) → P c h → w c ≡ v (see c h)) → (h : List A) → Along h → clock w h ≡ clock v (shown see h)
  unfolding clock shown Along
  clock_along w v e [] a = refl
  clock_along w v e (c ∷ h) a = omega (arith, e c h a.0, clock_along w v e h a.1)

  pub back_along : (k : ℕ) (h : List A) → Along h → Along (back k h)
  unfolding back Along
  back_along zero h a = a
  back_along (suc k) [] a = a
  back_along (suc k) (c ∷ h) a = back_along k h a.1

  pub each_along : (Q : B → Type 0) → ((c : A) (h : List A) → P c h → Q (see c h)) → (h : List A) → Along h → Each Q (shown see h)
  unfolding Each shown Along
  each_along Q f [] a = tt
  each_along Q f (c ∷ h) a = (f c h a.0, each_along Q f h a.1)

  pub lowest_along : (p : A → List A → Bool) (q : B → List B → Bool) (w : A → List A → ℕ) (v : B → List B → ℕ) → ((c : A) (h : List A) → P c h → p c h ≡ q (see c h) (shown see h))
      → ((c : A) (h : List A) → P c h → w c h ≡ v (see c h) (shown see h)) → (k : ℕ) (h : List A) → Along h → lowest p w k h ≡ lowest q v k (shown see h)
  unfolding lowest shown Along
  lowest_along p q w v f e k [] a = refl
  lowest_along p q w v f e zero (c ∷ h) a = e c h a.0
  lowest_along p q w v f e (suc k) (c ∷ h) a = rw (f c h a.0, e c h a.0, lowest_along p q w v f e k h a.1)

  pub since_along : (p : A → List A → Bool) (q : B → List B → Bool) (s : List A → Bool) (t : List B → Bool) → ((c : A) (h : List A) → P c h → p c h ≡ q (see c h) (shown see h))
      → ((c : A) (h : List A) → P c h → s (c ∷ h) ≡ t (see c h ∷ shown see h)) → (k : ℕ) (h : List A) → Along h → Since q t k (shown see h) → Since p s k h
  unfolding Since shown Along
  since_along p q s t f e k [] a x = x
  since_along p q s t f e zero (c ∷ h) a x = rw (f c h a.0) x
  since_along p q s t f e (suc k) (c ∷ h) a x = (rw (e c h a.0) x.0, since_along p q s t f e k h a.1 x.1)
