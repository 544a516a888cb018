-- What a judgement does, by its verdict: laws on the definitions, over every dimension. Statements only; proofs/Laws.antt proves them.
-- They refuse a definition that admits without asking, spends on a refusal, or never spends, whatever the code does.
use Rattle.std.specs.Prelude.{◌≡◌, ℕ, ◌-◌, ◌*◌, ◌^◌, ◌≤◌, ◌<◌, true, List, length, T, Float}
use Rattle.ieee.specs.Doubles.{◌⊴◌, one, whole}
use Rattle.ieee.specs.Units.{power, units, Amount, Is}
use Rattle.flow.specs.declared.Bucket.{Bucket}
use Rattle.flow.specs.declared.Use.{Use}
use Rattle.flow.specs.Flow.{dims, at, bucket_at, is_fresh, credited, refilled_all}
use Rattle.verdict.specs.declared.Outcome.{Outcome}
use Rattle.verdict.specs.declared.Verdict.TheVariants.{Admitted, OverShare, RelayRate}
use Rattle.verdict.specs.Verdict.{want, weight_of, met, judged}

module _ (bs : List Bucket) (u : Use) (clock elapsed : ℕ) (cost fill level : List Float) (rank : Float) where
  -- at the judgement: the bucket after the refill, the credit after crediting, the want
  abbrev pub bucket : ℕ → Bucket
  bucket d = bucket_at (refilled_all bs elapsed) d

  abbrev pub credit : ℕ → Float
  credit d = at (credited u clock fill).credit d

  abbrev pub wants : Float
  wants = want (weight_of (is_fresh u.fresh) (clock - u.at_ms)) (met u clock fill cost).attempted cost level

  abbrev pub outcome : Outcome
  outcome = judged bs u clock elapsed cost fill level rank

  -- an admitted batch was held by the credit and by the tokens, in each dimension
  pub record Asked : Type 0 where
    pub credited : outcome.verdict ≡ Admitted → (d : ℕ) → d < dims → at cost d ⊴ credit d ≡ true
    pub tokened : outcome.verdict ≡ Admitted → (d : ℕ) → d < dims → at cost d ⊴ (bucket d).tokens ≡ true

  -- a refused batch takes nothing: the buckets stay as refilled, the credit as credited
  pub record Kept : Type 0 where
    pub buckets : (outcome.verdict ≡ Admitted → ⊥) → outcome.buckets ≡ refilled_all bs elapsed
    pub credit : (outcome.verdict ≡ Admitted → ⊥) → outcome.used.credit ≡ (credited u clock fill).credit

  -- within the level, OverShare says that a credit lacks, and RelayRate that each credit holds and a bucket's tokens lack
  pub record Names : Type 0 where
    pub over_share : T (wants ⊴ one) → outcome.verdict ≡ OverShare → ((d : ℕ) → d < dims → at cost d ⊴ credit d ≡ true) → ⊥
    pub relay_rate : outcome.verdict ≡ RelayRate → (d : ℕ) → d < dims → at cost d ⊴ credit d ≡ true
    pub no_tokens : outcome.verdict ≡ RelayRate → ((d : ℕ) → d < dims → at cost d ⊴ (bucket d).tokens ≡ true) → ⊥

  -- an admitted batch takes its cost n exactly, from tokens and credit that are amounts up to 2 ^ 46
  pub record Paid (d n : ℕ) : Type 0 where
    pub tokens : Amount (bucket d).tokens → units (bucket d).tokens ≤ power 1120 → Is (bucket_at outcome.buckets d).tokens (units (bucket d).tokens - n * power 1074)
    pub credit : Amount (credit d) → units (credit d) ≤ power 1120 → Is (at outcome.used.credit d) (units (credit d) - n * power 1074)

  abbrev pub Pays : Type 0
  Pays = outcome.verdict ≡ Admitted → length bs ≡ dims → length u.credit ≡ dims → (d n : ℕ) → d < dims → n ≤ 2 ^ 40 → at cost d ≡ whole n → Paid d n
