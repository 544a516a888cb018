use Rattle.verdict.specs.Verdict.{judged}
use Rattle.verdict.specs.Rules as rules
use Rattle.judge.specs.Judging.{outcome, rule}
use Rattle.judge.proofs.Passing.{ruled_is}
use Rattle.judge.proofs.ruled.Goals as goal

pub returns : goal.returns
unfolding outcome rule
returns c = record {
  outcome_value = ruled_is (λ elapsed fill. judged c.args.f.buckets c.args.used c.args.clock elapsed c.args.cost fill c.args.level c.args.rank) c.args.f c.args.level c.args.clock _ _ _ _ c.numbers.ensures c.fills-fill.ensures c.since.ensures c.judged.ensures.outcome_value;
  rule_value = ruled_is (λ elapsed fill. rules.ruled c.args.f.buckets c.args.used c.args.clock elapsed c.args.cost fill c.args.level c.args.rank) c.args.f c.args.level c.args.clock _ _ _ _ c.numbers.ensures c.fills-fill.ensures c.since.ensures c.judged.ensures.rule_value;
}
