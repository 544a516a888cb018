-- What `verdict::judged` computes is what the demand's model does at a judgement of the record. Assumes nothing.
use mathlib.Core.Path.{◌≡◌, refl, ap, ◌∙◌}
use Prim.Native.Nat.{ℕ, ◌-◌, ◌<◌, max}
use mathlib.Core.Bool.{Bool, true, false, cond}
use mathlib.Core.List.{List}
use lib.ListN.{length, replicate, length-replicate}
use lib.Ieee as Ieee
use lib.Ieee.{Float}
use Rattle.ieee.specs.Doubles.{nothing, whole}
use Rattle.flow.specs.declared.Bucket.{Bucket}
use Rattle.flow.specs.declared.Use.{Use}
use Rattle.verdict.specs.declared.Outcome.{Outcome}
use Rattle.verdict.specs.declared.Verdict.{Verdict}
use Rattle.flow.specs.Flow as flow
use Rattle.verdict.specs.Verdict as verdicts
use Rattle.flow.specs.Flow.{dims, at, bucket_at, all}
use Rattle.flow.proofs.Parts.{upto_length, each_at, buckets_at, all_same}
use Rattle.fair.specs.Tokens.{paid}
use Rattle.fair.specs.Demand.{Batch, Here, present, State, found, priced, filled, verdict_here, is_admitted, settled, does}

module _ (s : State) (bs : List Bucket) (clk t : ℕ) (cost : ℕ → ℕ) (fill level : List Float) (rank : Float) (long : length bs ≡ dims) (same : (d : ℕ) → d < dims → bucket_at bs d ≡ (s.pot d).bucket) where
  abbrev now : ℕ
  now = max t clk

  abbrev used : Use
  used = found s.used now

  -- what the code returns
  abbrev outcome : Outcome
  outcome = verdicts.judged bs used now (now - clk) (priced cost) fill level rank

  -- the batch as the model has it, with its want and its reserve test
  abbrev wants : Float
  wants = verdicts.want (verdicts.weight_of (flow.is_fresh used.fresh) (now - used.at_ms)) (flow.tried (flow.fade_to (flow.credited used now fill) now) (priced cost)).attempted (priced cost) level

  abbrev full : List Bucket
  full = flow.refilled_all bs (now - clk)

  abbrev batch : Batch
  batch = record { stamp = t; cost = cost; want = wants; reserve = verdicts.leaves full (priced cost) (verdicts.mark_of wants rank) }

  full_at : (d : ℕ) → d < dims → bucket_at full d ≡ filled s clk batch d
  full_at d small = buckets_at (λ (d : ℕ). flow.refilled (bucket_at bs d) (now - clk)) bs d small long ∙ ap (λ (b : Bucket). flow.refilled b (now - clk)) (same d small)

  priced_at : (d : ℕ) → d < dims → at (priced cost) d ≡ whole (cost d)
  priced_at d small = each_at (λ (i : ℕ). whole (cost i)) (replicate dims nothing) d small (length-replicate dims nothing)

  suffice_same : verdicts.suffice full (priced cost) ≡ all (λ (d : ℕ). Ieee.le (whole (cost d)) (filled s clk batch d).tokens) dims
  suffice_same = all_same (λ (d : ℕ). Ieee.le (at (priced cost) d) (bucket_at full d).tokens) (λ (d : ℕ). Ieee.le (whole (cost d)) (filled s clk batch d).tokens) dims
      (λ d small. ap (λ (x : Float). Ieee.le x (bucket_at full d).tokens) (priced_at d small) ∙ ap (λ (b : Bucket). Ieee.le (whole (cost d)) b.tokens) (full_at d small))

  -- the verdict that the code goes by
  abbrev decision : Verdict
  decision = verdicts.decided wants (verdicts.covers (flow.credited used now fill).credit (priced cost)) (verdicts.suffice full (priced cost)) batch.reserve

  decision_same : decision ≡ verdict_here s clk batch fill
  decision_same = ap (λ (b : Bool). verdicts.decided wants (verdicts.covers (flow.credited used now fill).credit (priced cost)) b batch.reserve) suffice_same

  verdict_of : (v : Verdict) (fs : List Bucket) (u : Use) (c : List Float) → (verdicts.settled v fs u c).verdict ≡ v
  verdict_of v fs u c = go (verdicts.is_admitted v)
    where
      go : (b : Bool) → (cond {A = Outcome} b (record { verdict = v; buckets = flow.spent_all fs c; used = flow.charged u c }) (record { verdict = v; buckets = fs; used = u })).verdict ≡ v
      go true = refl
      go false = refl

  pub verdict_same : outcome.verdict ≡ verdict_here s clk batch fill
  verdict_same = verdict_of decision full (flow.tried (flow.fade_to (flow.credited used now fill) now) (priced cost)) (priced cost) ∙ decision_same

  abbrev next : Use
  next = flow.tried (flow.fade_to (flow.credited used now fill) now) (priced cost)

  abbrev settled_by : Bool → Outcome
  settled_by b = cond {A = Outcome} b (record { verdict = decision; buckets = flow.spent_all full (priced cost); used = flow.charged next (priced cost) }) (record { verdict = decision; buckets = full; used = next })

  used_of : (b : Bool) → (settled_by b).used ≡ settled b next cost
  used_of true = refl
  used_of false = refl

  pub used_same : present outcome.used ≡ (does s clk (Here batch fill)).used
  used_same = ap present (used_of (is_admitted decision) ∙ ap (λ (v : Verdict). settled (is_admitted v) next cost) decision_same)

  full_long : length full ≡ dims
  full_long = upto_length (λ (d : ℕ). flow.refilled (bucket_at bs d) (now - clk)) dims bs ∙ long

  bucket_of : (b : Bool) (d : ℕ) → d < dims → bucket_at (settled_by b).buckets d ≡ paid b (filled s clk batch d) (cost d)
  bucket_of true d small =
      buckets_at (λ (d : ℕ). flow.spent (bucket_at full d) (at (priced cost) d)) full d small full_long ∙ ap (λ (b : Bucket). flow.spent b (at (priced cost) d)) (full_at d small) ∙ ap (flow.spent (filled s clk batch d)) (priced_at d small)
  bucket_of false d small = full_at d small

  pub bucket_same : (d : ℕ) → d < dims → bucket_at outcome.buckets d ≡ ((does s clk (Here batch fill)).pot d).bucket
  bucket_same d small = bucket_of (is_admitted decision) d small ∙ ap (λ (v : Verdict). paid (is_admitted v) (filled s clk batch d) (cost d)) decision_same
