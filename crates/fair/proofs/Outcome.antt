-- A judgement on the record that was found or added, and a hand-back on it: the model's, whatever use was found. Assumes nothing.
use mathlib.Core.Path.{◌≡◌, refl, sym, ap, ◌∙◌, subst}
use Prim.Native.Nat.{ℕ, ◌-◌, ◌<◌, max}
use mathlib.Core.Bool.{Bool, true, false, cond}
use mathlib.Core.List.{List}
use lib.ListN.{length, get_or, replicate, length-replicate}
use lib.Ieee as Ieee
use lib.Ieee.{Float, binary64}
use Rattle.ieee.specs.Doubles.{nothing, whole}
use Rattle.flow.specs.declared.Bucket.{Bucket}
use Rattle.flow.specs.declared.Use.{Use}
use Rattle.verdict.specs.declared.Outcome.{Outcome}
use Rattle.verdict.specs.declared.Verdict.{Verdict}
use Rattle.ieee.specs.Extremes.{most}
use Rattle.fade.specs.Fade.{fade}
use Rattle.flow.specs.Flow as flow
use Rattle.verdict.specs.Verdict as verdicts
use Rattle.flow.specs.Flow.{dims, at, bucket_at}
use Rattle.flow.proofs.Parts.{upto_length, each_at, buckets_at}
use Rattle.fair.specs.Given as goal
use Rattle.fair.specs.Calls as calls
use Rattle.fair.specs.Demand.{Batch, Here, present, State, found, priced, verdict_here, does}
use Rattle.fair.proofs.Bridge as bridge
use Rattle.fair.proofs.Back.{Whole}

abbrev pub costs : List ℕ → ℕ → ℕ
costs cost d = get_or cost d 0

pub numbers_priced : (cost : List ℕ) → goal.numbers cost ≡ priced (costs cost)
unfolding goal.numbers
numbers_priced cost = refl

-- the batch as the model has it, from the buckets and the use that the judgement finds
abbrev pub batch_of : List Bucket → Use → ℕ → ℕ → List ℕ → List Float → List Float → Float → Batch
batch_of bs x clk t cost fill level rank = record {
  stamp = t;
  cost = costs cost;
  want = calls.want_of x (max t clk) (priced (costs cost)) fill level;
  reserve = verdicts.leaves (flow.refilled_all bs (max t clk - clk)) (priced (costs cost)) (verdicts.mark_of (calls.want_of x (max t clk) (priced (costs cost)) fill level) rank);
}

abbrev pub outcome_of : List Bucket → Use → ℕ → ℕ → List ℕ → List Float → List Float → Float → Outcome
outcome_of bs x clk t cost fill level rank = verdicts.judged bs x (max t clk) (max t clk - clk) (priced (costs cost)) fill level rank

-- ---- the outcome has a part for each dimension
pub settled_whole : (v : Verdict) (bs : List Bucket) (u : Use) (c : List Float) → Whole u → Whole (verdicts.settled v bs u c).used
settled_whole v bs u c w = go (verdicts.is_admitted v)
  where
    go : (b : Bool) → Whole (cond {A = Outcome} b (record { verdict = v; buckets = flow.spent_all bs c; used = flow.charged u c }) (record { verdict = v; buckets = bs; used = u })).used
    go true = record { attempted = w.attempted; credit = upto_length (λ (d : ℕ). Ieee.sub binary64 (at u.credit d) (at c d)) dims u.credit ∙ w.credit }
    go false = w

pub settled_long : (v : Verdict) (bs : List Bucket) (u : Use) (c : List Float) → length bs ≡ dims → length (verdicts.settled v bs u c).buckets ≡ dims
settled_long v bs u c l = go (verdicts.is_admitted v)
  where
    go : (b : Bool) → length (cond {A = Outcome} b (record { verdict = v; buckets = flow.spent_all bs c; used = flow.charged u c }) (record { verdict = v; buckets = bs; used = u })).buckets ≡ dims
    go true = upto_length (λ (d : ℕ). flow.spent (bucket_at bs d) (at c d)) dims bs ∙ l
    go false = l

weighed_whole : (wants rank : Float) (bs : List Bucket) (u : Use) (c : List Float) → Whole u → Whole (verdicts.weighed wants rank bs u c).used
weighed_whole wants rank bs u c w = settled_whole (verdicts.decided wants (verdicts.covers u.credit c) (verdicts.suffice bs c) (verdicts.leaves bs c (verdicts.mark_of wants rank))) bs u c w

weighed_long : (wants rank : Float) (bs : List Bucket) (u : Use) (c : List Float) → length bs ≡ dims → length (verdicts.weighed wants rank bs u c).buckets ≡ dims
weighed_long wants rank bs u c l = settled_long (verdicts.decided wants (verdicts.covers u.credit c) (verdicts.suffice bs c) (verdicts.leaves bs c (verdicts.mark_of wants rank))) bs u c l

pub record Sound (s : State) (bs : List Bucket) (clk t : ℕ) (cost : List ℕ) (fill level : List Float) (rank : Float) (x : Use) : Type 0 where
  pub verdict : (outcome_of bs x clk t cost fill level rank).verdict ≡ verdict_here s clk (batch_of bs x clk t cost fill level rank) fill
  pub used : present (outcome_of bs x clk t cost fill level rank).used ≡ (does s clk (Here (batch_of bs x clk t cost fill level rank) fill)).used
  pub bucket : (d : ℕ) → d < dims → bucket_at (outcome_of bs x clk t cost fill level rank).buckets d ≡ ((does s clk (Here (batch_of bs x clk t cost fill level rank) fill)).pot d).bucket

module _ (bs : List Bucket) (clk t : ℕ) (cost : List ℕ) (fill level : List Float) (rank : Float) (long : length bs ≡ dims) where
  pub outcome_whole : (x : Use) → Whole x → Whole (outcome_of bs x clk t cost fill level rank).used
  outcome_whole x w =
      let f = flow.fade_to (flow.credited x (max t clk) fill) (max t clk) in
      let a = upto_length (λ (d : ℕ). Ieee.add binary64 (at f.attempted d) (at (priced (costs cost)) d)) dims f.attempted
      ∙ upto_length (λ (d : ℕ). Ieee.mul binary64 (at x.attempted d) (fade (max t clk - x.at_ms))) dims x.attempted ∙ w.attempted in
      let c = upto_length (λ (d : ℕ). flow.credit_of (flow.is_fresh x.fresh) (at x.credit d) (at fill d) (max t clk - x.at_ms)) dims x.credit ∙ w.credit in
      let n = verdicts.met x (max t clk) fill (priced (costs cost)) in
      weighed_whole (calls.want_of x (max t clk) (priced (costs cost)) fill level) rank (flow.refilled_all bs (max t clk - clk)) n (priced (costs cost)) (record { attempted = a; credit = c })

  pub outcome_long : (x : Use) → length (outcome_of bs x clk t cost fill level rank).buckets ≡ dims
  outcome_long x =
      let a = upto_length (λ (d : ℕ). flow.refilled (bucket_at bs d) (max t clk - clk)) dims bs ∙ long in
      let n = verdicts.met x (max t clk) fill (priced (costs cost)) in
      weighed_long (calls.want_of x (max t clk) (priced (costs cost)) fill level) rank (flow.refilled_all bs (max t clk - clk)) n (priced (costs cost)) a

  pub outcome_sound : (s : State) → ((d : ℕ) → d < dims → bucket_at bs d ≡ (s.pot d).bucket) → (x : Use) → x ≡ found s.used (max t clk) → Sound s bs clk t cost fill level rank x
  outcome_sound s same x e = subst (Sound s bs clk t cost fill level rank) (sym e) (record {
    verdict = bridge.verdict_same s bs clk t (costs cost) fill level rank long same;
    used = bridge.used_same s bs clk t (costs cost) fill level rank long same;
    bucket = bridge.bucket_same s bs clk t (costs cost) fill level rank long same;
  })

-- ---- a hand-back
pub handed_whole : (x : Use) (cost : List Float) → Whole x → Whole (flow.handed_back x cost)
handed_whole x cost w = record {
  attempted = upto_length (λ (d : ℕ). most (Ieee.sub binary64 (at x.attempted d) (at cost d)) nothing) dims x.attempted ∙ w.attempted;
  credit = upto_length (λ (d : ℕ). Ieee.add binary64 (at x.credit d) (at cost d)) dims x.credit ∙ w.credit;
}

pub returned_long : (bs : List Bucket) (cost : List Float) → length bs ≡ dims → length (flow.returned_all bs cost) ≡ dims
returned_long bs cost long = upto_length (λ (d : ℕ). flow.returned (bucket_at bs d) (at cost d)) dims bs ∙ long

pub returned_at : (bs : List Bucket) (c : ℕ → ℕ) → length bs ≡ dims → (d : ℕ) → d < dims → bucket_at (flow.returned_all bs (priced c)) d ≡ flow.returned (bucket_at bs d) (whole (c d))
returned_at bs c long d small =
    buckets_at (λ (d : ℕ). flow.returned (bucket_at bs d) (at (priced c) d)) bs d small long
    ∙ ap (flow.returned (bucket_at bs d)) (each_at (λ (i : ℕ). whole (c i)) (replicate dims nothing) d small (length-replicate dims nothing))
