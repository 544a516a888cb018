-- What specs/Laws.antt states of the series and of the fade, from the tables' tests. Assumes nothing.
use mathlib.Core.Path.{subst}
use mathlib.Core.Bool.{false, not}
use Prim.Native.Nat.{ℕ, ◌-◌, ◌/◌, ◌%◌, ◌≤◌, ◌<◌}
use native.Mathlib.Nat.{mod-lt}
use native.Mathlib.Omega.{arith}
use native.Mathlib.Decide.{dec_le}
use lib.IntN.{pos}
use lib.Dec.{T, ltb, lit≤, lit<}
use lib.Ieee.{fin, binary64, mul, lt, fits, is_nan}
use lib.Ieee.Fits.{cond-fits, mul-fits}
use Rattle.fade.specs.Fade.{nearest, long, end, fade}
use Rattle.fade_laws.specs.Laws.{Series, Fading}
use Rattle.fade_laws.proofs.Series.{capped, narrows}
use Rattle.fade.proofs.Sides.{during, after}
use Rattle.fade.proofs.Entries.{Entry, entry_at, positive_number}
use Rattle.fade_laws.proofs.Faded.{Faded, entry_nearest, entry_stands, faded, during_falls, above_zero}
use Rattle.fade.proofs.Tested.{least_a, least_b, passes_a, passes_b}

pub series : Series
series = record { encloses = λ p q n m Q l. omega (arith, capped p q n m Q l); narrows = narrows }

-- ---- the entries
short : (r : ℕ) → r < 2000 → Entry least_a 2000 r (nearest r 2000)
short r h = entry_at least_a 2000 r _ (passes_a r h)

far : (q : ℕ) → q < long → Entry least_b 1 q (nearest q 1)
far q h = entry_at least_b 1 q _ (passes_b q h)

row : (d : ℕ) → d < end → d / 2000 < long
row d h = omega arith

-- ---- the fade
product : (d : ℕ) → d < end → Faded d (fade d)
product d h = rw (during d h) (faded least_a least_b d (nearest (d % 2000) 2000) (nearest (d / 2000) 1) (lit≤ tt) (short (d % 2000) (mod-lt d (lit< tt))) (far (d / 2000) (row d h)))

falls : (d e : ℕ) → d < e → e ≤ end → T (lt (fade e) (fade d))
falls d e h k = elim (dec_le end e) [ yes l ↦ last l | no l ↦ before (omega arith) ]
  where
    last : end ≤ e → T (lt (fade e) (fade d))
    last l = rw (after e l) (above_zero (fade d) (product d (omega arith)).above)

    before : e < end → T (lt (fade e) (fade d))
    before l = during_falls d (e - d) (fade d) (fade e) (omega arith) (product d (omega arith)) (subst (λ (n : ℕ). Faded n (fade e)) (omega arith) (product e l))

double : (d : ℕ) → T (fits binary64 (fade d))
double d = unfold fade in cond-fits binary64 (ltb d end) (mul binary64 (nearest (d % 2000) 2000) (nearest (d / 2000) 1)) (fin false 0 (pos 0)) (mul-fits binary64 (nearest (d % 2000) 2000) (nearest (d / 2000) 1)) (unfold fits in tt)

number : (d : ℕ) → T (not (is_nan (fade d)))
number d = elim (dec_le end d) [ yes l ↦ rw (after d l) (unfold is_nan in tt) | no l ↦ positive_number (fade d) (product d (omega arith)).above ]

pub fading : Fading
fading = record {
  short = λ r h. entry_nearest least_a 2000 r (nearest r 2000) (lit< tt) (lit< tt) (short r h);
  far = λ q h. entry_nearest least_b 1 q (nearest q 1) (lit< tt) (lit< tt) (far q h);
  short_normal = λ r h. entry_stands least_a 2000 r (nearest r 2000) (lit< tt) (short r h);
  far_normal = λ q h. entry_stands least_b 1 q (nearest q 1) (lit< tt) (far q h);
  product_normal = λ d h. (product d h).not_subnormal;
  close = λ d h. (product d h).close;
  above = λ d h. (product d (omega arith)).above;
  falls = falls;
  double = double;
  number = number;
}
