-- `text::page::copy` meets its contract.
use mathlib.Core.Path.{◌≡◌, sym, ap, ◌∙◌}
use mathlib.Core.List.{List}
use Prim.Native.Nat.{ℕ, ◌+◌}
use native.Mathlib.Numerals.{add-one}
use native.Mathlib.Omega.{arith}
use lib.ListN.{length, get_or, set, length-set}
use lib.Seq.{paste, paste-suc}
use Rattle.text.proofs.Writing.{copied}
use Rattle.text.proofs.page.copy.Goals as goal

pub loop-i-preserved : goal.loop-i-preserved
loop-i-preserved c = (
  ap (λ (xs : List ℕ). set xs (c.args.at + c.loop-i.i) (get_or c.args.text.now c.loop-i.i 0)) c.loop-i.invariant.0
      ∙ paste-suc c.args.out.now c.args.at c.args.text.now c.loop-i.i 0 (omega arith) (omega arith)
      ∙ ap (paste c.args.out.now c.args.at c.args.text.now) (sym (add-one c.loop-i.i)),
  length-set c.loop-i.out (c.args.at + c.loop-i.i) (get_or c.args.text.now c.loop-i.i 0) ∙ c.loop-i.invariant.1,
)

pub returns : goal.returns
returns c =
    let all : c.loop-i.i ≡ length c.args.text.now = omega arith in
    copied c.args.out.now c.args.at c.args.text.now c.loop-i.out (omega arith) (c.loop-i.invariant.0 ∙ ap (paste c.args.out.now c.args.at c.args.text.now) all)
