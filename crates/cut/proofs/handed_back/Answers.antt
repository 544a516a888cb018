use mathlib.Core.Path.{◌∙◌}
use Rattle.store_entry.specs.Entering.{placed}
use Rattle.cut.proofs.Handing.{handed_is}
use Rattle.cut.proofs.handed_back.Goals as goal

pub returns-clause-rows_after : goal.returns-clause-rows_after
returns-clause-rows_after c =
    let room = c.requires.room in
    let kept = c.entry-p.ensures.slices.units_length ∙ room in
    handed_is c.args.head _ c.args.named.unit c.args.cost (placed c.args.head.unit_room c.entry-p.result) _ _ c.used_at-used.result c.handed_back-next.result c.put_back-overflow.result c.flowed_back-flow.result (rw room at c.entry-p.ensures.rows_after) (rw kept at c.used_at-used.ensures) c.handed_back-next.ensures (rw kept at c.put_back-overflow.ensures.back) c.flowed_back-flow.ensures
