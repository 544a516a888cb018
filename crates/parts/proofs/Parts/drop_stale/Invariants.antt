-- `parts::Parts::drop_stale` hands over a ledger of its own. Assumes nothing.
use Rattle.parts.proofs.Parts.drop_stale.Given as goal

abbrev pub ghosts-drop_with : goal.ghosts-drop_with
ghosts-drop_with a = record { name = a.blank.name; parts = a.blank.parts }
