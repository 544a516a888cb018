-- `fields::split` meets its contract: by whether there is a space.
use mathlib.Core.Path.{sym}
use Rattle.trial_script.proofs.Walking.{before_space, behind_space, all_first, nothing_behind}
use Rattle.trial_script.proofs.fields.split.Goals as goal

pub returns-in-Some-clause-first : goal.returns-in-Some-clause-first
returns-in-Some-clause-first c = before_space c.args.s.now c.in-Some.i (sym c.in-Some.ensures)

pub returns-in-Some-clause-rest : goal.returns-in-Some-clause-rest
returns-in-Some-clause-rest c = behind_space c.args.s.now c.in-Some.i (sym c.in-Some.ensures)

pub returns-in-None-clause-first : goal.returns-in-None-clause-first
returns-in-None-clause-first c = all_first c.args.s.now (sym c.in-None.ensures)

pub returns-in-None-clause-rest : goal.returns-in-None-clause-rest
returns-in-None-clause-rest c = nothing_behind c.args.s.now (sym c.in-None.ensures)
