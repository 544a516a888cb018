-- A double to which both ends of an enclosure round is within one part in 2 ^ 53 of the exponential. Assumes nothing.
use mathlib.Core.Path.{◌≡◌, sym, ap₂, ◌∙◌, subst}
use mathlib.Core.Bool.{false}
use Prim.Native.Nat.{ℕ, ◌+◌, ◌-◌, ◌*◌, ◌^◌, ◌≤◌, ◌<◌}
use native.Mathlib.Nat.{le_trans, le_of_eq, lt_of_lt_of_le, add-mul, mul-add, mul_comm, mul_assoc, mul_left_comm, mul-le-mul_left, mul-le-mul_right, le_of_mul-le-mul_right, lt_of_mul-lt-mul_right}
use lib.Dec.{T}
use lib.Ieee.{Float, Format, binary64, prec, low, round}
use lib.Ieee.Scale.{grid, overflow, round_val, finite, round_under, normal_of_rounded}
use lib.Ieee.Positive.{num, den, positive, positive-finite, value→cross}
use Rattle.fade.specs.Exp.{top, bot, cap}
use Rattle.fade.proofs.Entries.{Rounded}
use Rattle.fade_laws.specs.Laws.{Close}
use Rattle.fade_laws.proofs.Series.{bot_pos, top_pos, top_le_cap, capped}
use Rattle.fade_laws.proofs.Rounding.{Near, round_near}

pub cap_pos : (p q n : ℕ) → 0 < q → 0 < cap p q n
cap_pos p q n Q = lt_of_lt_of_le (top_pos p q n Q) (top_le_cap p q n)

-- ---- in the normal range: within one part in 2 ^ 53
abbrev pub Normal : Float → Type 0
Normal x = 2 ^ (prec binary64 - 1) * den x < num x * 2 ^ low binary64

near : (f : Format) (x : Float) (a c : ℕ) → 0 < c → T (positive x) → 2 ^ (prec f - 1) * den x < num x * 2 ^ low f → round f false a c ≡ x → Near (2 ^ prec f) x a c
near f x a c C X N e =
    let o : grid f a c < overflow f = round_under f a c (subst (λ (w : Float). T (finite w)) (sym e) (positive-finite x X)) in
    let g : num x * 2 ^ low f ≡ grid f a c * den x = subst (λ (w : Float). num w * 2 ^ low f ≡ grid f a c * den w) e (value→cross (round f false a c) (grid f a c) (2 ^ low f) (round_val f a c o)) in
    subst (λ (w : Float). Near (2 ^ prec f) w a c) e (round_near f a c C (normal_of_rounded f a c (lt_of_mul-lt-mul_right (den x) (lt_of_lt_of_le N (le_of_eq g)))) o)

-- t / m ≤ c / b, and x is at most (1 + 1 / P) * b / c
stays : (t m c b n d P : ℕ) → 0 < b → t * b ≤ c * m → n * c * P ≤ b * d * P + b * d → t * n * P ≤ m * d * P + m * d
stays t m c b n d P B h k =
    let x : t * n * P * b ≤ m * (n * c * P) = le_trans (le_of_eq (mv1 t n P b)) (le_trans (mul-le-mul_right (n * P) h) (le_of_eq (mv2 c m n P))) in
    let y : m * (n * c * P) ≤ m * (b * d * P + b * d) = mul-le-mul_left m k in
    let z : m * (b * d * P + b * d) ≡ (m * d * P + m * d) * b = mul-add m (b * d * P) (b * d) ∙ ap₂ (λ (y z : ℕ). y + z) (mv3 m b d P) (mv4 m b d) ∙ sym (add-mul (m * d * P) (m * d) b) in
    le_of_mul-le-mul_right (le_trans x (le_trans y (le_of_eq z))) B
  where
    mv1 : (t n P b : ℕ) → t * n * P * b ≡ t * b * (n * P)
    mv1 t n P b = simp (mul_assoc, mul_comm, mul_left_comm)

    mv2 : (c m n P : ℕ) → c * m * (n * P) ≡ m * (n * c * P)
    mv2 c m n P = simp (mul_assoc, mul_comm, mul_left_comm)

    mv3 : (m b d P : ℕ) → m * (b * d * P) ≡ m * d * P * b
    mv3 m b d P = simp (mul_assoc, mul_comm, mul_left_comm)

    mv4 : (m b d : ℕ) → m * (b * d) ≡ m * d * b
    mv4 m b d = simp (mul_assoc, mul_comm)

pub rounded_close : (p q : ℕ) (x : Float) → 0 < q → Normal x → Rounded p q x → Close (2 ^ prec binary64) p q x
rounded_close p q x Q N r =
    let n = r.n in
    let P = 2 ^ prec binary64 in
    let lo = near binary64 x (bot q n) (cap p q n) (cap_pos p q n Q) r.above N r.low in
    let hi = near binary64 x (bot q n) (top p q n) (top_pos p q n Q) r.above N r.high in
    record {
      above = λ m. stays (top p q m) (bot q m) (cap p q n) (bot q n) (num x) (den x) (2 ^ prec binary64) (bot_pos q n Q) (capped p q n m Q r.late) lo.high;
      n = n;
      below = subst (λ (z : ℕ). bot q n * den x * 2 ^ prec binary64 ≤ z * 2 ^ prec binary64 + bot q n * den x) (mul_comm (num x) (top p q n)) hi.low;
    }
