use Rattle.std.proofs.Common.{ap, ◌∙◌, Err}
use Rattle.head.specs.declared.Refusal.{Refusal}
use Rattle.wants.specs.Held.{wants_held}
use Rattle.store.specs.Held.{start_rows}
use Rattle.head.proofs.Opens.{begun_is, free_few}
use Rattle.head.specs.Questions.{start_asked}
use Rattle.head.specs.Start.{start, start_ends}
use Rattle.head.proofs.Numbers.{refused_is, answered_is, answered_none}
use Rattle.head.proofs.start.Goals as goal

pub returns-in-Err-clause-same_but_nan_bits : goal.returns-in-Err-clause-same_but_nan_bits
unfolding start
returns-in-Err-clause-same_but_nan_bits c =
    refused_is (λ (r : Refusal). start_ends (Err r) c.args.head (start_rows c.args.lent.now) (wants_held c.args.histogram.now)) _ c.start_asked.result c.in-Err.refusal _ c.in-Err.is (c.start_asked.ensures ∙ ap (start_asked c.args.rate) c.sizes.ensures)

pub returns-clause-same_but_nan_bits : goal.returns-clause-same_but_nan_bits
unfolding start
returns-clause-same_but_nan_bits c =
    begun_is _ _ _ _ _ _ _ c.args.lent.now.offsets.now _ _ c.start.ensures.offsets_after c.start.ensures.free_after c.opening.ensures c.clear.ensures.wants_after
    ∙ answered_is _ _ _ (answered_none c.start_asked.result _ _ c.in_default.is (c.start_asked.ensures ∙ ap (start_asked c.args.rate) c.sizes.ensures))

pub start-requires : goal.start-requires
start-requires c = free_few c.args.rate _ (answered_none c.start_asked.result _ _ c.in_default.is (c.start_asked.ensures ∙ ap (start_asked c.args.rate) c.sizes.ensures))
