-- One call more in the list. Assumes nothing.
use mathlib.Core.Path.{◌≡◌, refl, ap, ◌∙◌}
use mathlib.Core.Bool.{cond}
use mathlib.Core.List.{List, ◌∷◌}
use Prim.Native.Nat.{ℕ, suc, ◌+◌}
use native.Mathlib.Numerals.{add-one}
use lib.Dec.{leb}
use lib.ListN.{get_or}
use Rattle.head.specs.declared.Shedder.{Shedder}
use Rattle.judge.specs.Judging.{Memory}
use Rattle.fair.specs.Calls as calls
use Rattle.fair.specs.Calls.{State, Call}
use Rattle.fair_row.specs.declared.Call as given
use Rattle.fair_row.specs.Replay.{call_of, behind, page_after, counts, run_after, run}

pub headed : (x y : Shedder) (m : Memory) (s : State) → x ≡ y → calls.state_of y m ≡ s → calls.state_of x m ≡ s
headed x y m s e f = ap (λ (z : Shedder). calls.state_of z m) e ∙ f

module _ (first : State) (from : ℕ) (page : List ℕ) (list : List given.Call) where
  pub run_none : first ≡ calls.state first (run first from page list 0).list
  unfolding calls.state run
  run_none = refl

  -- call i more; the buffer out is what the calls before left
  module _ (i : ℕ) (out : List ℕ) (e : out ≡ (run first from page list i).page) where
    pub list_next : call_of (get_or list i behind) out ∷ (run first from page list i).list ≡ (run first from page list (i + 1)).list
    unfolding run run_after
    list_next = rw add-one (ap (λ (x : List ℕ). call_of (get_or list i behind) x ∷ (run first from page list i).list) e)

    pub page_next : (left : List ℕ) (s : State) → s ≡ calls.state first (run first from page list i).list → left ≡ page_after s (call_of (get_or list i behind) out) out
        → left ≡ (run first from page list (i + 1)).page
    unfolding run run_after
    page_next left s es f =
        rw add-one
        (f ∙ ap (λ (x : State). page_after x (call_of (get_or list i behind) out) out) es
        ∙ ap (λ (x : List ℕ). page_after (calls.state first (run first from page list i).list) (call_of (get_or list i behind) x) x) e)

    pub taken_next : cond (counts (leb from i) (calls.number (calls.state first (run first from page list i).list) (call_of (get_or list i behind) out))) (suc (run first from page list i).taken) (run first from page list i).taken
        ≡ (run first from page list (i + 1)).taken
    unfolding run run_after
    taken_next =
        rw add-one
        (ap (λ (x : List ℕ). cond (counts (leb from i) (calls.number (calls.state first (run first from page list i).list) (call_of (get_or list i behind) x))) (suc (run first from page list i).taken) (run first from page list i).taken) e)

pub run_next : (first s t : State) (h k : List Call) (c : Call) → c ∷ h ≡ k → s ≡ calls.state first h → t ≡ calls.step s c → t ≡ calls.state first k
unfolding calls.state
run_next first s t h k c ek es f = f ∙ ap (λ (x : State). calls.step x c) es ∙ ap (calls.state first) ek
