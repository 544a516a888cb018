-- What a call leaves is the definition's state: each kind of line, from what the functions that it calls promise. Assumes nothing.
use mathlib.Core.Path.{◌≡◌, sym, ap, ◌∙◌}
use mathlib.Core.Bool.{Bool, true, false, cond}
use mathlib.Core.List.{List}
use Prim.Native.Nat.{ℕ, ◌≤◌, ◌<◌}
use borrow.Author.Tests.{eq-eqb, ne_eqb, le-leb, lt-leb}
use lib.Dec.{eqb}
use lib.ListN.{length, length-replicate}
use Rattle.text.specs.Page.{Page, write}
use Rattle.store.specs.Store.{Rows}
use Rattle.wants.specs.Wants.{Hist}
use Rattle.head.specs.declared.Shedder.{Shedder}
use Rattle.head.specs.declared.Starting.{Starting}
use Rattle.head.specs.Start as starts
use Rattle.judge.specs.declared.Judgement.{Judgement}
use Rattle.cut.specs.declared.Cutting.{Cutting}
use Rattle.judge.specs.Judging as judging
use Rattle.judge.specs.Judging.{Memory, memory, Judged}
use Rattle.cut.specs.Cutting as cutting
use Rattle.meaning.specs.State.{After, Begin, Answer, Done}
use Rattle.meaning.specs.Page as calls
use Rattle.meaning.specs.Agrees as law
use Rattle.meaning.proofs.Agrees.{agrees}
use Rattle.trial_script.specs.declared.StartLine.{StartLine}
use Rattle.trial_script.specs.declared.JudgeLine.{JudgeLine}
use Rattle.trial_script.specs.declared.CutLine.{CutLine}
use Rattle.std.specs.Prelude.{Option}
use Rattle.trial_script.specs.declared.Line as script
use Rattle.trial_script.specs.Script.{line}
use Rattle.trial_script.specs.Answers.{refused_text, begin_text, answer_text, done_text}
use Rattle.trial.specs.Trial.{State, of_dims, refused, shedder, left_by, has_begun, start, judge, cut, buffer, asked, reported, report, call, answer}

abbrev pub made : Shedder → Bool → Memory → Page → State
made h b m p = record { head = h; started = b; memory = m; page = p }

pub refused_step : (s : State) (n : ℕ) (q : Page) → q ≡ write s.page (refused_text n) → made s.head s.started s.memory q ≡ refused s n
unfolding refused
refused_step s n q e = ap (made s.head s.started s.memory) e

module _ (s : State) where
  abbrev start_with : List ℕ → List ℕ → starts.Beginning
  start_with rate ceiling = law.start_with s.head s.memory rate ceiling

  -- by what the page's start leaves
  abbrev begun : After Begin → State
  begun b = left_by s (has_begun s.started b.answer) b begin_text

  pub start_step : (l : StartLine) (r : Starting) (m : Rows) (g : Hist) (k : List (List ℕ)) (rate ceiling : List ℕ) (b : Bool) (q : Page) → rate ≡ of_dims l.rate → ceiling ≡ of_dims l.ceiling
      → starts.beginning r m g ≡ start_with rate ceiling → k ≡ s.memory.counted → q ≡ write s.page (begin_text r.answer) → b ≡ has_begun s.started r.answer
      → made r.head b (memory m g k) q ≡ start s l
  unfolding start
  start_step l r m g k rate ceiling b q er ec e ek eq eb =
      ap (λ (x : Bool). made r.head x (memory m g k) q) eb
      ∙ ap (λ (x : List (List ℕ)). made r.head (has_begun s.started r.answer) (memory m g x) q) ek
      ∙ ap (made r.head (has_begun s.started r.answer) (memory m g s.memory.counted)) eq
      ∙ ap (λ (x : starts.Beginning). begun (law.started s.memory x)) (e ∙ ap (λ (x : List ℕ). start_with x ceiling) er ∙ ap (start_with (of_dims l.rate)) ec)
      ∙ sym (ap begun (agrees.start_is s.head s.memory (of_dims l.rate) (of_dims l.ceiling)))

  abbrev judge_with : JudgeLine → List ℕ → Judged
  judge_with l cost = judging.judge s.head s.memory l.unit cost l.stamp

  abbrev judged : After Answer → State
  judged j = left_by s true j answer_text

  pub judge_refused : (l : JudgeLine) (r : State) → s.started ≡ false → r ≡ refused s 8 → r ≡ judge s l
  unfolding judge
  judge_refused l r e f = f ∙ ap (λ (x : Bool). cond x (judged (calls.judge (shedder s) l.unit (of_dims l.cost) l.stamp)) (refused s 8)) (sym e)

  pub judge_step : (l : JudgeLine) (j : Judgement) (m : Memory) (cost : List ℕ) (q : Page) → s.started ≡ true → cost ≡ of_dims l.cost
      → judging.judgement j m ≡ judge_with l cost → q ≡ write s.page (answer_text j.answer) → made j.head true m q ≡ judge s l
  unfolding judge
  judge_step l j m cost q es ec e eq =
      ap (made j.head true m) eq
      ∙ ap (λ (x : Judged). judged (law.judged x)) (e ∙ ap (judge_with l) ec)
      ∙ sym (ap judged (agrees.judge_is s.head s.memory l.unit (of_dims l.cost) l.stamp))
      ∙ ap (λ (x : Bool). cond x (judged (calls.judge (shedder s) l.unit (of_dims l.cost) l.stamp)) (refused s 8)) (sym es)

  abbrev cut_with : CutLine → List ℕ → cutting.Cut
  cut_with l cost = cutting.cut s.head s.memory.rows s.memory.counted l.unit l.cause cost

  abbrev counted : After Done → State
  counted c = left_by s true c done_text

  pub cut_refused : (l : CutLine) (r : State) → s.started ≡ false → r ≡ refused s 8 → r ≡ cut s l
  unfolding cut
  cut_refused l r e f = f ∙ ap (λ (x : Bool). cond x (counted (calls.cut (shedder s) l.unit l.cause (of_dims l.cost))) (refused s 8)) (sym e)

  pub cut_step : (l : CutLine) (c : Cutting) (m : Rows) (k : List (List ℕ)) (cost : List ℕ) (q : Page) → s.started ≡ true → cost ≡ of_dims l.cost
      → cutting.cutting c m k ≡ cut_with l cost → q ≡ write s.page (done_text c.answer) → made c.head true (memory m s.memory.hist k) q ≡ cut s l
  unfolding cut
  cut_step l c m k cost q es ec e eq =
      ap (made c.head true (memory m s.memory.hist k)) eq
      ∙ ap (λ (x : cutting.Cut). counted (law.cut s.memory.hist x)) (e ∙ ap (cut_with l) ec)
      ∙ sym (ap counted (agrees.cut_is s.head s.memory l.unit l.cause (of_dims l.cost)))
      ∙ ap (λ (x : Bool). cond x (counted (calls.cut (shedder s) l.unit l.cause (of_dims l.cost))) (refused s 8)) (sym es)

  abbrev asked_with : ℕ → ℕ
  asked_with room = law.asked_with s.head s.memory room

  abbrev front_with : ℕ → List ℕ
  front_with room = law.front_with s.head s.memory room

  long : length buffer ≡ 4096
  unfolding buffer
  long = length-replicate {A = ℕ} 4096 0

  asked_is : (n room : ℕ) → n ≡ asked_with room → room ≡ 4096 → n ≡ asked s
  unfolding asked
  asked_is n room e er = e ∙ ap asked_with (er ∙ sym long) ∙ sym (agrees.refusal_is s.head s.memory buffer)

  abbrev choice : State → State
  choice x = cond (eqb (asked s) 0) (reported s) x

  pub report_unstarted : (r : State) → s.started ≡ false → r ≡ refused s 8 → r ≡ report s
  unfolding report
  report_unstarted r e f = f ∙ ap (λ (x : Bool). cond x (choice (refused s (asked s))) (refused s 8)) (sym e)

  report_started : s.started ≡ true → choice (refused s (asked s)) ≡ report s
  unfolding report
  report_started e = ap (λ (x : Bool). cond x (choice (refused s (asked s))) (refused s 8)) (sym e)

  pub report_refused : (r : State) (n room : ℕ) → s.started ≡ true → n ≡ asked_with room → room ≡ 4096 → (n ≡ 0 → ⊥) → r ≡ refused s n → r ≡ report s
  report_refused r n room es en er some f =
      let a : n ≡ asked s = asked_is n room en er in
      f
      ∙ ap (refused s) a
      ∙ ap (λ (x : Bool). cond x (reported s) (refused s (asked s))) (sym (ne_eqb (asked s) 0 (λ z. some (a ∙ z))))
      ∙ report_started es

  pub report_step : (n room again : ℕ) (f : List ℕ) (q : Page) → s.started ≡ true → n ≡ asked_with room → room ≡ 4096 → again ≡ 4096 → n ≡ 0
      → f ≡ front_with again → q ≡ write s.page f → made s.head s.started s.memory q ≡ report s
  report_step n room again f q es en er ea none ef eq =
      let a : n ≡ asked s = asked_is n room en er in
      let front : f ≡ (calls.report (shedder s) buffer).front = ef ∙ ap front_with (ea ∙ sym long) ∙ sym (agrees.front_is s.head s.memory buffer) in
      ap (made s.head s.started s.memory) (eq ∙ ap (write s.page) front)
      ∙ ap (λ (x : Bool). cond x (reported s) (refused s (asked s))) (sym (eq-eqb (asked s) 0 (sym a ∙ none)))
      ∙ report_started es

  pub answer_long : (bytes : List ℕ) (r : State) → 200 < length bytes → r ≡ refused s 8 → r ≡ answer s bytes
  unfolding answer
  answer_long bytes r h f = f ∙ ap (λ (x : Bool). cond x (call s (line bytes)) (refused s 8)) (sym (lt-leb (length bytes) 200 h))

  pub answer_line : (bytes : List ℕ) (r : State) (l : Option script.Line) → length bytes ≤ 200 → l ≡ line bytes → r ≡ call s l → r ≡ answer s bytes
  unfolding answer
  answer_line bytes r l h e f =
      f
      ∙ ap (call s) e
      ∙ ap (λ (x : Bool). cond x (call s (line bytes)) (refused s 8)) (sym (le-leb (length bytes) 200 h))
