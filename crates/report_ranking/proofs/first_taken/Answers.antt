-- `report_ranking::first_taken` meets its contract: the loop holds the earliest of those passed. Assumes nothing.
-- one more source looked at
use Rattle.report_ranking.specs.Taken.{taken, first_taken, better_taken}
use native.Mathlib.Omega.{arith}
use Prim.Native.Nat.{ℕ, ◌+◌}
use native.Mathlib.Numerals.{add-one}
use mathlib.Core.List.{List}
use borrow.Author.Rules.{rules}
use mathlib.Core.Path.{◌≡◌, refl, sym, ap, ◌∙◌}
use Rattle.std.specs.Option.{unwrap_or}
use Rattle.report_ranking.proofs.first_taken.Goals as goal

first-none : (by tags : List ℕ) (rows : List (List ℕ)) (n p : ℕ) → first_taken by tags rows n p 0 ≡ n
unfolding first_taken
first-none by tags rows n p = refl

first_next : (by tags : List ℕ) (rows : List (List ℕ)) (n p m : ℕ) → first_taken by tags rows n p (m + 1) ≡ better_taken by tags rows n p (first_taken by tags rows n p m) m
unfolding first_taken
first_next by tags rows n p m = rw add-one

pub loop-i-init : goal.loop-i-init
loop-i-init c = (search rules, sym (first-none _ _ _ _ _))

pub loop-i-preserved : goal.loop-i-preserved
loop-i-preserved c = (
  c.better-best.ensures.upper_bound,
  c.better-best.ensures.value
      ∙ ap (λ (b : ℕ). better_taken (taken c.args.tagged c.args.sources.now.tags.now c.args.sources.now.counted.now) c.args.sources.now.tags.now c.args.sources.now.counted.now c.args.n (unwrap_or c.args.p c.args.n) b c.loop-i.i)
      c.loop-i.invariant.1 ∙ sym (first_next _ _ _ _ _ _),
)

pub returns-clause-value : goal.returns-clause-value
returns-clause-value c =
    let e : c.loop-i.i ≡ c.args.n = omega arith in
    c.loop-i.invariant.1
    ∙ ap
    (first_taken (taken c.args.tagged c.args.sources.now.tags.now c.args.sources.now.counted.now) c.args.sources.now.tags.now c.args.sources.now.counted.now c.args.n (unwrap_or c.args.p c.args.n)) e
