-- `read_line` meets its contract: what is the definition's call is exactly the call that the line is.
use native.Mathlib.Omega.{arith}
use Rattle.std.proofs.lemmas.Grind.{common_steps}
use Rattle.trial_script.specs.Script.{line}
use Rattle.trial_script.proofs.Taking.{exactly, one_byte}
use Rattle.trial_script.proofs.read_line.Goals as goal

pub returns-in-R-clause-exact : goal.returns-in-R-clause-exact
unfolding line
returns-in-R-clause-exact c = exactly c.args.s.now _ (grind (arith, common_steps, one_byte))

pub returns-in-J-clause-exact : goal.returns-in-J-clause-exact
unfolding line
returns-in-J-clause-exact c = exactly c.args.s.now _ (grind (arith, common_steps, one_byte))

pub returns-in-C-clause-exact : goal.returns-in-C-clause-exact
unfolding line
returns-in-C-clause-exact c = exactly c.args.s.now _ (grind (arith, common_steps, one_byte))

pub returns-in_default-clause-exact : goal.returns-in_default-clause-exact
unfolding line
returns-in_default-clause-exact c = exactly c.args.s.now _ (grind (arith, common_steps, one_byte))

pub returns-in_default-3-clause-exact : goal.returns-in_default-3-clause-exact
unfolding line
returns-in_default-3-clause-exact c = exactly c.args.s.now _ (grind (arith, common_steps, one_byte))
