-- `flow::per_place` meets its contract. Assumes nothing.
use Rattle.flow.proofs.Parts.{made_upto, callable_upto}
use Rattle.flow.proofs.per_place.Goals as goal

pub from_fn-requires : goal.from_fn-requires
from_fn-requires g c = (c.requires.fits, callable_upto g.F.Fn g.met.F.FnMut.1 g.met.F.Fn.1 g.row.N c.args.f c.requires.callable)

pub returns : goal.returns
returns g c = record { value = λ f xs is long. made_upto g.F.Fn g.met.F.FnMut.1 g.met.F.Fn.1 g.row.N c.args.f c.from_fn.result xs f c.from_fn.ensures.items is long }
