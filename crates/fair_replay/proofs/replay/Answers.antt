use Rattle.std.proofs.Common.{◌≡◌, ◌<◌, min, length, arith, rules}
use Rattle.fair_replay.proofs.Runs.{same_call, ran_none, ran_next, replays}
use Rattle.fair_replay.proofs.replay.Goals as goal

pub loop-i-init : goal.loop-i-init
loop-i-init c = (ran_none _ _ _ _ _ _, search rules, search rules)

pub loop-i-preserved : goal.loop-i-preserved
loop-i-preserved c =
    let inside : c.loop-i.i < length c.args.list.now = omega (arith, c.min-end.ensures) in (
      ran_next _ _ _ _ _ _ _ _ _ _ _ _ _ c.loop-i.invariant.0 (rw same_call at c.turn-turned.ensures.turns) c.after-run.ensures (rw same_call at c.turn-turned.ensures.out_after),
      search rules,
      search rules,
    )

pub returns-clause-totals : goal.returns-clause-totals
returns-clause-totals c =
    let e : c.loop-i.i ≡ min c.args.to (length c.args.list.now) = omega (arith, c.min-end.ensures) in
    replays _ _ _ _ _ _ _ _ _ (rw e at c.loop-i.invariant.0)
