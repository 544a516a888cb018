use mathlib.Core.Path.{◌∙◌}
use Rattle.store_entry.specs.Entering.{placed}
use Rattle.judge.proofs.Passing.{judged_is, rule_is}
use Rattle.judge.proofs.judged.Goals as goal

pub returns-clause-rows_after : goal.returns-clause-rows_after
returns-clause-rows_after c =
    let room = c.requires.room in
    let kept = c.entry-p.ensures.slices.units_length ∙ room in
    judged_is c.args.head _ c.args.named.unit c.args.named.hash c.args.cost c.args.clock (placed c.args.head.unit_room c.entry-p.result) _ _ c.used_at-used.result c.put_back-overflow.result c.rank_at-rank.result c.ruled-r.result.outcome c.flowed-flow.result c.args.named.hash_is (rw room at c.entry-p.ensures.rows_after) (rw kept at c.used_at-used.ensures) (c.rank_at-rank.ensures c.args.head.unit_room (rw room at c.entry-p.ensures.at_in_bounds)) c.ruled-r.ensures.outcome_value (rw kept at c.put_back-overflow.ensures.back) c.flowed-flow.ensures

pub returns-clause-rule_value : goal.returns-clause-rule_value
returns-clause-rule_value c =
    let room = c.requires.room in
    let kept = c.entry-p.ensures.slices.units_length ∙ room in
    rule_is c.args.head _ c.args.named.unit c.args.named.hash c.args.cost c.args.clock (placed c.args.head.unit_room c.entry-p.result) _ c.used_at-used.result c.rank_at-rank.result c.ruled-r.result.rule c.args.named.hash_is (rw room at c.entry-p.ensures.rows_after) (rw kept at c.used_at-used.ensures) (c.rank_at-rank.ensures c.args.head.unit_room (rw room at c.entry-p.ensures.at_in_bounds)) c.ruled-r.ensures.rule_value
