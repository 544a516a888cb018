use Rattle.judge.specs.Judging.{flowed}
use Rattle.judge.proofs.flowed.Goals as goal

pub returns : goal.returns
unfolding flowed
returns c = simp c.admitted_then-admitted.ensures
