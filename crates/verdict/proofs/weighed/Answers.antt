-- `verdict::weighed` meets its contract. Assumes nothing.
use Rattle.verdict.proofs.Verdicts.{weighed_is}
use Rattle.verdict.proofs.weighed.Goals as goal

pub returns : goal.returns
returns c = record {
  outcome_value = weighed_is c.args.wants c.args.rank c.args.buckets c.args.used c.args.cost c.rule_of-rule.result c.verdict_of.result c.settled-outcome.result c.settled-outcome.ensures c.verdict_of.ensures c.rule_of-rule.ensures;
  rule_value = c.rule_of-rule.ensures;
}
