-- The test of a table's entry, which antt computes, and what an entry that passes it is. Assumes nothing.
use mathlib.Core.Path.{◌≡◌, refl, sym, ap, ap₂, ◌∙◌, subst}
use mathlib.Core.Bool.{Bool, false, not, ◌&&◌}
use Prim.Native.Nat.{ℕ, zero, suc, ◌+◌, ◌*◌, ◌^◌, ◌≤◌}
use native.Mathlib.Nat.{add-zero, add-suc, suc-add, zero-add, pow-suc, pow-zero}
use lib.Dec.{T, leb, eqb, leb→le, eqb→eq}
use lib.Ieee.{Float, nan, inf, fin, binary64, round, to_bits, of_bits, is_nan, nan_bits}
use lib.Ieee.Fits.{round-fits, and_l, and_r}
use lib.Ieee.Bits.{of_bits-to_bits, nan_bits_is}
use lib.Ieee.Positive.{num, den, positive}
use Rattle.fade.specs.Exp.{top, bot, cap, terms, Late}
use Rattle.fade.specs.Fade.{nearest}

-- ---- the sums after m terms more, term by term: s is the sum so far, t the last power of p and b the bottom. (`top` as it stands would raise p to each power anew.)
unfoldable pub run : ℕ → ℕ → ℕ → ℕ → ℕ → ℕ → ℕ → (ℕ → ℕ → ℕ → Bool) → Bool
run p q zero k s t b f = f s t b
run p q (suc m) k s t b f = run p q m (suc k) (s * (q * suc k) + t * p) (t * p) (b * (q * suc k)) f

run_from : (p q m k s t b : ℕ) (f : ℕ → ℕ → ℕ → Bool) → s ≡ top p q k → t ≡ p ^ k → b ≡ bot q k → T (run p q m k s t b f) → T (f (top p q (k + m)) (p ^ (k + m)) (bot q (k + m)))
unfolding run
run_from p q zero k s t b f es et eb h =
    subst (λ (j : ℕ). T (f (top p q j) (p ^ j) (bot q j))) (sym (add-zero k))
    (subst (λ (z : ℕ). T (f (top p q k) (p ^ k) z)) eb (subst (λ (z : ℕ). T (f (top p q k) z b)) et (subst (λ (z : ℕ). T (f z t b)) es h)))
run_from p q (suc m) k s t b f es et eb h =
    subst (λ (j : ℕ). T (f (top p q j) (p ^ j) (bot q j))) (suc-add k m ∙ sym (add-suc k m))
    (run_from p q m (suc k) (s * (q * suc k) + t * p) (t * p) (b * (q * suc k)) f
    (ap₂ (λ (y z : ℕ). y * (q * suc k) + z) es power ∙ top_step) power (ap (λ (z : ℕ). z * (q * suc k)) eb ∙ bot_step) h)
  where
    power : t * p ≡ p ^ suc k
    power = ap (λ (z : ℕ). z * p) et ∙ sym (pow-suc p k)

    top_step : top p q k * (q * suc k) + p ^ suc k ≡ top p q (suc k)
    top_step = unfold top in refl

    bot_step : bot q k * (q * suc k) ≡ bot q (suc k)
    bot_step = unfold bot in refl

pub run_is : (p q n : ℕ) (f : ℕ → ℕ → ℕ → Bool) → T (run p q n 0 1 1 1 f) → T (f (top p q n) (p ^ n) (bot q n))
run_is p q n f h =
    subst (λ (j : ℕ). T (f (top p q j) (p ^ j) (bot q j))) (zero-add n)
    (run_from p q n 0 1 1 1 f (unfold top in refl) (sym (pow-zero p)) (unfold bot in refl) h)

-- ---- the test of the pattern w: it stands for a double above 0, at most 1 and at least 2 ^ -k, and both ends of the enclosure round to it
unfoldable pub sized : ℕ → Float → Bool
sized k x = positive x && (leb (num x) (den x) && leb (den x) (num x * 2 ^ k))

unfoldable pub ends : ℕ → ℕ → ℕ → ℕ → Bool
unfolding round to_bits
ends w s t b = eqb (to_bits binary64 (round binary64 false b (s + t))) w && eqb (to_bits binary64 (round binary64 false b s)) w

unfoldable pub good : ℕ → ℕ → ℕ → ℕ → Bool
unfolding run sized ends of_bits
good k q p w = sized k (of_bits binary64 w) && (leb (p * 2) (q * suc (terms p q)) && run p q (terms p q) 0 1 1 1 (ends w))

-- an enclosure bot / cap ≤ exp(-p / q) ≤ bot / top is so narrow that both of its ends round to x
pub record Rounded (p q : ℕ) (x : Float) : Type 0 where
  pub above : T (positive x)
  pub n : ℕ
  pub late : Late p q n
  pub low : round binary64 false (bot q n) (cap p q n) ≡ x
  pub high : round binary64 false (bot q n) (top p q n) ≡ x

-- ---- what such an entry is
pub record Entry (k q p : ℕ) (x : Float) : Type 0 where
  pub most : num x ≤ den x
  pub least : den x ≤ num x * 2 ^ k
  pub rounded : Rounded p q x

back : (a c w : ℕ) → T (eqb (to_bits binary64 (round binary64 false a c)) w) → round binary64 false a c ≡ of_bits binary64 w
back a c w h = sym (of_bits-to_bits binary64 (round binary64 false a c) (round-fits binary64 false a c)) ∙ ap (of_bits binary64) (eqb→eq (to_bits binary64 (round binary64 false a c)) w h)

split_ends : (w s t b : ℕ) → T (ends w s t b) → (round binary64 false b (s + t) ≡ of_bits binary64 w) × (round binary64 false b s ≡ of_bits binary64 w)
split_ends w s t b h =
    let l : Bool = eqb (to_bits binary64 (round binary64 false b (s + t))) w in
    let r : Bool = eqb (to_bits binary64 (round binary64 false b s)) w in
    (back b (s + t) w (and_l l r (unfold ends in h)), back b s w (and_r l r (unfold ends in h)))

pub entry : (k q p w : ℕ) → T (good k q p w) → Entry k q p (of_bits binary64 w)
entry k q p w h =
    record {
      most = leb→le (num x) (den x) (and_l (leb (num x) (den x)) (leb (den x) (num x * 2 ^ k)) rest);
      least = leb→le (den x) (num x * 2 ^ k) (and_r (leb (num x) (den x)) (leb (den x) (num x * 2 ^ k)) rest);
      rounded = record {
        above = and_l (positive x) (leb (num x) (den x) && leb (den x) (num x * 2 ^ k)) size;
        n = n;
        late = leb→le (p * 2) (q * suc n) (and_l (leb (p * 2) (q * suc n)) (run p q n 0 1 1 1 (ends w)) sums);
        low = unfold cap in pair.0;
        high = pair.1;
      };
    }
  where
    x : Float
    x = of_bits binary64 w

    n : ℕ
    n = terms p q

    whole : T (sized k x && (leb (p * 2) (q * suc n) && run p q n 0 1 1 1 (ends w)))
    whole = unfold good in h

    size : T (positive x && (leb (num x) (den x) && leb (den x) (num x * 2 ^ k)))
    size = unfold sized in and_l (sized k x) (leb (p * 2) (q * suc n) && run p q n 0 1 1 1 (ends w)) whole

    rest : T (leb (num x) (den x) && leb (den x) (num x * 2 ^ k))
    rest = and_r (positive x) (leb (num x) (den x) && leb (den x) (num x * 2 ^ k)) size

    sums : T (leb (p * 2) (q * suc n) && run p q n 0 1 1 1 (ends w))
    sums = and_r (sized k x) (leb (p * 2) (q * suc n) && run p q n 0 1 1 1 (ends w)) whole

    pair : (round binary64 false (bot q n) (top p q n + p ^ n) ≡ x) × (round binary64 false (bot q n) (top p q n) ≡ x)
    pair = split_ends w (top p q n) (p ^ n) (bot q n) (run_is p q n (ends w) (and_r (leb (p * 2) (q * suc n)) (run p q n 0 1 1 1 (ends w)) sums))

-- ---- it is the pattern of `nearest`
pub reads : (k q p w : ℕ) → T (good k q p w) → of_bits binary64 w ≡ nearest p q
unfolding entry nearest
reads k q p w h = sym (entry k q p w h).rounded.low

pub entry_at : (k q p w : ℕ) → T (good k q p w) → Entry k q p (nearest p q)
entry_at k q p w h = subst (Entry k q p) (reads k q p w h) (entry k q p w h)

-- ---- no pattern of it is a NaN's
pub positive_number : (x : Float) → T (positive x) → T (not (is_nan x))
unfolding is_nan
positive_number nan p = absurd p
positive_number (inf s) p = tt
positive_number (fin s m e) p = tt

pub no_nan : (k q p w : ℕ) → T (good k q p w) → T (not (nan_bits binary64 w))
no_nan k q p w h = subst (λ (b : Bool). T (not b)) (sym (nan_bits_is binary64 w)) (positive_number (of_bits binary64 w) (entry k q p w h).rounded.above)
