use mathlib.Core.Path.{refl}
use Rattle.store.specs.Causes.{index_of}
use Rattle.cut.proofs.Noting.{noted_is}
use Rattle.head.specs.Answers.{answer_number}
use Rattle.cut.proofs.noted.Goals as goal

pub returns-clause-counted_after : goal.returns-clause-counted_after
returns-clause-counted_after c =
    noted_is _ c.args.named.name c.args.cause c.args.cost (index_of c.args.cause) c.tallied-t.result _ _ refl c.tallied-t.ensures.counted_after

pub returns-clause-answer_value : goal.returns-clause-answer_value
unfolding answer_number
returns-clause-answer_value c = refl
