-- What an exported call leaves is the page's: what the call behind it leaves, by the law that the page says what its contract says. Assumes nothing.
use mathlib.Core.Path.{◌≡◌, sym, ap, ◌∙◌}
use mathlib.Core.List.{List}
use Prim.Native.Nat.{ℕ}
use lib.ListN.{length}
use Rattle.sender.specs.declared.Unit.{Unit}
use Rattle.store.specs.Store.{Rows}
use Rattle.wants.specs.Wants.{Hist}
use Rattle.head.specs.declared.Shedder.{Shedder}
use Rattle.store.specs.declared.Cause.{Cause}
use Rattle.head.specs.declared.Starting.{Starting}
use Rattle.head.specs.Answers.{start_number, cut_number, rates_number}
use Rattle.head.specs.Start as starts
use Rattle.judge.specs.declared.Judgement.{Judgement}
use Rattle.judge.specs.Judging as judging
use Rattle.judge.specs.Judging.{Memory, memory}
use Rattle.cut.specs.declared.Cutting.{Cutting}
use Rattle.cut.specs.Cutting as cutting
use Rattle.rates.specs.declared.Changing.{Changing}
use Rattle.rates.specs.Rates as rates
use Rattle.report.specs.Report as reports
use Rattle.codes.specs.declared.Count.{Count}
use Rattle.codes.specs.declared.Decision.{Decision}
use Rattle.codes.specs.Numbers.{read_written}
use Rattle.codes.specs.Decisions.{decision_of}
use Rattle.meaning.specs.State.{after, told_as, Answer, Ruling, Written}
use Rattle.meaning.specs.Page as page
use Rattle.meaning.specs.Agrees.{of, started, judged, cut, changed, start_with, report_with, asked_with}
use Rattle.meaning.proofs.Agrees.{agrees}
use Rattle.tankpost.specs.Calls.{judged_as, reported, report_told}

module _ (h : Shedder) (m : Rows) (g : Hist) (k : List (List ℕ)) where
  abbrev lent : Memory
  lent = memory m g k

  pub start_tells : (rate ceiling : List ℕ) (s : Starting) (rows : Rows) (left : Hist) (counted : List (List ℕ)) (n : ℕ)
      → starts.beginning s rows left ≡ start_with h lent rate ceiling → counted ≡ k → n ≡ start_number s.answer
      → after n (record { head = s.head; rows = rows; hist = left; counted = counted }) ≡ told_as start_number (page.start (of h lent) rate ceiling)
  start_tells rate ceiling s rows left counted n e ek en =
      ap (λ (x : ℕ). after x (record { head = s.head; rows = rows; hist = left; counted = counted })) en
      ∙ ap (λ (x : List (List ℕ)). after (start_number s.answer) (record { head = s.head; rows = rows; hist = left; counted = x })) ek
      ∙ ap (λ (b : starts.Beginning). told_as start_number (started lent b)) e
      ∙ sym (ap (told_as start_number) (agrees.start_is h lent rate ceiling))

  pub judge_tells : (u v : Unit) (cost : List ℕ) (stamp : ℕ) (j : Judgement) (left : Memory) (n : Decision)
      → judging.judgement j left ≡ judging.judge h lent u cost stamp → j.ruling ≡ judging.ruling h lent u cost stamp → u ≡ v → n ≡ decision_of j.answer j.ruling
      → after n (of j.head left) ≡ judged_as decision_of (of h lent) v cost stamp
  judge_tells u v cost stamp j left n e er eu en =
      ap (λ (x : Decision). after x (of j.head left)) en
      ∙ ap (λ (r : Ruling). after (decision_of j.answer r) (of j.head left)) (er ∙ ap (λ (x : Unit). judging.ruling h lent x cost stamp) eu ∙ sym (agrees.rule_is h lent v cost stamp))
      ∙ ap (λ (x : judging.Judged). told_as told (judged x)) (e ∙ ap (λ (x : Unit). judging.judge h lent x cost stamp) eu)
      ∙ sym (ap (told_as told) (agrees.judge_is h lent v cost stamp))
    where
      told : Answer → Decision
      told a = decision_of a (page.judge_rule (of h lent) v cost stamp)

  pub cut_tells : (u v : Unit) (p q : Cause) (cost : List ℕ) (c : Cutting) (rows : Rows) (counted : List (List ℕ)) (n : ℕ)
      → cutting.cutting c rows counted ≡ cutting.cut h m k u p cost → u ≡ v → p ≡ q → n ≡ cut_number c.answer
      → after n (record { head = c.head; rows = rows; hist = g; counted = counted }) ≡ told_as cut_number (page.cut (of h lent) v q cost)
  cut_tells u v p q cost c rows counted n e eu ep en =
      ap (λ (x : ℕ). after x (record { head = c.head; rows = rows; hist = g; counted = counted })) en
      ∙ ap (λ (x : cutting.Cut). told_as cut_number (cut g x)) (e ∙ ap (λ (x : Unit). cutting.cut h m k x p cost) eu ∙ ap (λ (x : Cause). cutting.cut h m k v x cost) ep)
      ∙ sym (ap (told_as cut_number) (agrees.cut_is h lent v q cost))

  pub rates_tells : (rate ceiling : List ℕ) (stamp : ℕ) (c : Changing) (n : ℕ) → rates.changing c ≡ rates.set_rates h m k rate ceiling stamp → n ≡ rates_number c.answer
      → after n (of c.head lent) ≡ told_as rates_number (page.set_rates (of h lent) rate ceiling stamp)
  rates_tells rate ceiling stamp c n e en =
      ap (λ (x : ℕ). after x (of c.head lent)) en
      ∙ ap (λ (x : rates.Changed). told_as rates_number (changed lent x)) e
      ∙ sym (ap (told_as rates_number) (agrees.rates_is h lent rate ceiling stamp))

  pub report_tells : (out : List ℕ) (w : Written) (left : List ℕ) (n : Count) → reports.ends w left ≡ report_with h lent out → n ≡ read_written w
      → reported n left ≡ report_told (page.report (of h lent) out)
  unfolding report_told
  report_tells out w left n e en =
      ap (λ (x : Count). reported x left) en
      ∙ ap (λ (x : reports.Ends). reported (read_written x.answer) x.out) (e ∙ sym (agrees.report_is h lent out))

  pub refusal_tells : (out : List ℕ) (n : ℕ) → n ≡ asked_with h lent (length out) → n ≡ page.report_refusal (of h lent) out
  refusal_tells out n e = e ∙ sym (agrees.refusal_is h lent out)
