-- `text::Page::put` meets its contract.
use mathlib.Core.Path.{◌≡◌, ap, ◌∙◌}
use Prim.Native.Nat.{◌+◌}
use Rattle.text.specs.Page.{page}
use lib.ListN.{length}
use native.Mathlib.Omega.{arith}
use Rattle.text.proofs.page.Page.put.Goals as goal

pub returns-clause-value : goal.returns-clause-value
returns-clause-value c =
    let e : c.saturating_add-end.result ≡ c.args.self.now.at + length c.args.text.now = omega arith in
    ap (page _) e ∙ c.copy.ensures
