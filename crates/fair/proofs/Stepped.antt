-- A judgement of the list is the model's: what it leaves is tied to what the model has behind it. Assumes nothing.
use mathlib.Core.Path.{◌≡◌, sym, subst}
use Prim.Native.Nat.{ℕ, max}
use mathlib.Core.Bool.{true, false}
use mathlib.Core.List.{List}
use Rattle.sender.specs.declared.Unit as unit
use Rattle.fair.specs.Given as goal
use Rattle.fair.specs.Given.{memory}
use Rattle.fair.specs.Store as model
use Rattle.fair.specs.Calls as calls
use Rattle.fair.specs.Calls.{State, Judge}
use Rattle.fair.proofs.View.{Name, same, shares}
use Rattle.fair.proofs.Entry as entry
use Rattle.fair.proofs.Tied.{Tied}
use Rattle.fair.proofs.Judging as judging

module _ (room : ℕ) (rate ceiling : List ℕ) (rates : goal.all_rates rate ≡ true) where
  pub judge_step : (s : State) (st : entry.S room) (clk : ℕ) → Tied room rate ceiling s.head s.memory.rows st clk → (u : unit.Unit) (cost : List ℕ) (t : ℕ) → calls.refused s (Judge u cost t) ≡ false
      → Tied room rate ceiling (calls.step s (Judge u cost t)).head (calls.step s (Judge u cost t)).memory.rows (model.step Name same shares room st clk (judging.judge_call room rate ceiling s.head s.memory u cost t)) (max t clk)
  judge_step s st clk b u cost t f =
      let h = s.head in
      let m = s.memory in
      let at_clock = subst (λ (k : ℕ). Tied room rate ceiling h m.rows st k) (sym b.clock_is) b in
      subst (λ (k : ℕ). Tied room rate ceiling (goal.judge h m u cost t).head (goal.judge h m u cost t).memory.rows (model.step Name same shares room st k (judging.judge_call room rate ceiling h m u cost t)) (max t k)) b.clock_is
      (judging.judge_tied room rate ceiling rates h m st at_clock u cost t f)
