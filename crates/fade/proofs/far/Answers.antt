-- `fade::far` meets its contract: the entry of B that it reads passes the test, so it is the nearest double. Assumes nothing.
use Rattle.std.proofs.Common.{◌∙◌}
use Rattle.fade.proofs.Entries.{reads, no_nan}
use Rattle.fade.proofs.Tested.{passes_b}
use Rattle.fade.proofs.far.Goals as goal

pub entry-requires-clause-number : goal.entry-requires-clause-number
entry-requires-clause-number c = no_nan _ _ _ _ (passes_b c.args.q c.requires)

pub returns : goal.returns
returns c = c.entry.ensures ∙ reads _ _ _ _ (passes_b c.args.q c.requires)
