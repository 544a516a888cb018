-- The numbers that a call can answer are those of its questions, and 0. Assumes nothing.
use mathlib.Core.Path.{◌≡◌, refl, sym, ap, ◌∙◌}
use mathlib.Core.Logic.{⊎_elim}
use mathlib.Core.Bool.{Bool, true, false, cond, not, ◌&&◌, ◌||◌}
use mathlib.Core.List.{List, [], ◌∷◌, ◌++◌}
use Prim.Native.Nat.{ℕ}
use lib.Dec.{eqb, leb}
use lib.ListN.{length, drop}
use borrow.Author.Tests.{eq-eqb, eqb-true}
use Rattle.std.proofs.Common.{◌≤◌, leb-true, Some, None, Ok}
use Rattle.std.specs.Prelude.{⊤}
use Rattle.std.proofs.lemmas.Bool.{and_parts}
use Rattle.verdict.specs.declared.Verdict.{Verdict}
use Rattle.verdict.specs.declared.Verdict.TheVariants.{Admitted}
use Rattle.head.specs.Answers.{refused, answer_number, start_number, judge_number, cut_number, rates_number, reading_number, level_number, rate_number, bounded_number, written_number}
use Rattle.head.proofs.Numbers.{refused_number, refused_ten}
use Rattle.head.proofs.Tests.{one_of}
use Rattle.flow.specs.Flow.{dim_of}
use Rattle.head.specs.Readings.{index_of}
use Rattle.judge.specs.Judging.{answer_of}
use Rattle.meaning.specs.State.{State, After, after, Shedder, Unit, Cause, Dim, Begin, Answer, Done, ask, ◌!◌, ◌#◌}
use Rattle.meaning.specs.Page as page
use Rattle.meaning.specs.Numbered.{among, Numbered}

numbers_of : List (ℕ × Bool) → List ℕ
numbers_of [] = []
numbers_of (q ∷ qs) = q.0 ∷ numbers_of qs

or-true : (b : Bool) → (b || true) ≡ true
or-true true = refl
or-true false = refl

-- one number more
more : (a b c : Bool) → (a || c) ≡ true → (a || (b || c)) ≡ true
more true b c e = refl
more false true c e = refl
more false false c e = e

-- each of the questions has a number of 1 to 7, or 10
is_number : ℕ → Bool
is_number n = (leb 1 n && leb n 7) || eqb n 10

held : List (ℕ × Bool) → Bool
held [] = true
held (q ∷ qs) = is_number q.0 && held qs

-- an answer denied by any of these has its number
Denies : (ℕ → ℕ) → Type 0
Denies f = ((n : ℕ) → 1 ≤ n → n ≤ 7 → f n ≡ n) × (f 10 ≡ 10)

denied_by : (f : ℕ → ℕ) → Denies f → (n : ℕ) → is_number n ≡ true → f n ≡ n
unfolding is_number Denies
denied_by f d n e = ⊎_elim low ten (one_of (leb 1 n && leb n 7) (eqb n 10) e)
  where
    low : (leb 1 n && leb n 7) ≡ true → f n ≡ n
    low a = let b = and_parts (leb 1 n) (leb n 7) a in d.0 n (leb-true 1 n b.0) (leb-true n 7 b.1)

    ten : eqb n 10 ≡ true → f n ≡ n
    ten a = let z = eqb-true n 10 a in ap f z ∙ d.1 ∙ sym z

-- THE QUESTIONS: whatever they are, the number is one of theirs, or 0
asked : {A : Type 0} (number : A → ℕ) (denied : ℕ → A) (result : A) (qs : List (ℕ × Bool)) → Denies (λ (n : ℕ). number (denied n)) → number result ≡ 0 → held qs ≡ true
    → among (number (ask qs denied result)) (0 ∷ numbers_of qs) ≡ true
unfolding among numbers_of held
asked number denied result [] r z k = rw z refl
asked number denied result (q ∷ qs) r z k =
    let a = and_parts (is_number q.0) (held qs) k in
    go q.1 (denied_by (λ (n : ℕ). number (denied n)) r q.0 a.0) (asked number denied result qs r z a.1)
  where
    go : (b : Bool) → number (denied q.0) ≡ q.0 → among (number (ask qs denied result)) (0 ∷ numbers_of qs) ≡ true → among (number (cond b (ask qs denied result) (denied q.0))) (0 ∷ q.0 ∷ numbers_of qs) ≡ true
    go true f e = more (eqb (number (ask qs denied result)) 0) (eqb (number (ask qs denied result)) q.0) (among (number (ask qs denied result)) (numbers_of qs)) e
    go false f e = rw (f, eq-eqb q.0 q.0 refl) (or-true (eqb q.0 0))

by_number : (A : Type 0) → Denies (λ (n : ℕ). answer_number {A = A} (refused n))
unfolding Denies
by_number A = (refused_number A, refused_ten A)

free_0 : (b : Bool) (x : After Answer) (s : State) → judge_number x.answer ≡ 0 → judge_number (cond b (after (Ok Admitted) s) x).answer ≡ 0
unfolding answer_number
free_0 true x s e = refl
free_0 false x s e = e

start_0 : (s x : State) (qs : List (ℕ × Bool)) → held qs ≡ true → among (start_number (ask qs (λ n. after (refused n) s) (after (Ok tt) x)).answer) (0 ∷ numbers_of qs) ≡ true
unfolding answer_number
start_0 s x qs k = asked (λ (a : After Begin). start_number a.answer) (λ n. after (refused n) s) (after (Ok tt) x) qs (by_number ⊤) refl k

start : (s : State) (rate ceiling : List ℕ) → among (start_number (page.start s rate ceiling).answer) (0 ∷ 1 ∷ 2 ∷ []) ≡ true
unfolding page.start numbers_of held is_number
start s rate ceiling = start_0 s _ ((1, page.rates_whole rate) ∷ (2, page.records_whole s && page.rooms_whole (length s.rows.units) (length s.counted)) ∷ []) refl

judge : (s : State) (u : Unit) (cost : List ℕ) (stamp : ℕ) → among (judge_number (page.judge s u cost stamp).answer) (0 ∷ 3 ∷ 4 ∷ 5 ∷ 6 ∷ []) ≡ true
unfolding page.judge page.judge_asks page.bounded answer_of answer_number numbers_of held is_number
judge s u cost stamp =
    let free = page.is_unbounded s.head.flow.rate in
    asked (λ (a : After Answer). judge_number a.answer) (λ n. after (refused n) s) (cond free (after (Ok Admitted) s) (page.bounded s u cost stamp))
    (page.judge_asks s cost stamp) (by_number Verdict)
    (free_0 free (page.bounded s u cost stamp) s refl) refl

cut_0 : (s x : State) (qs : List (ℕ × Bool)) → held qs ≡ true → among (cut_number (ask qs (λ n. after (refused n) s) (after (Ok tt) x)).answer) (0 ∷ numbers_of qs) ≡ true
unfolding answer_number
cut_0 s x qs k = asked (λ (a : After Done). cut_number a.answer) (λ n. after (refused n) s) (after (Ok tt) x) qs (by_number ⊤) refl k

cut : (s : State) (u : Unit) (c : Cause) (cost : List ℕ) → among (cut_number (page.cut s u c cost).answer) (0 ∷ 3 ∷ 4 ∷ 5 ∷ []) ≡ true
unfolding page.cut numbers_of held is_number
cut s u c cost = cut_0 s _ ((3, page.head_whole s.head s.rows.offsets) ∷ (4, page.memory_whole s) ∷ (5, page.costs_held cost) ∷ []) refl

set_rates : (s : State) (rate ceiling : List ℕ) (stamp : ℕ) → among (rates_number (page.set_rates s rate ceiling stamp).answer) (0 ∷ 3 ∷ 4 ∷ 1 ∷ 6 ∷ 10 ∷ []) ≡ true
unfolding page.set_rates page.rates_asks numbers_of held is_number
set_rates s rate ceiling stamp = cut_0 s _ (page.rates_asks s rate stamp) refl

report : (s : State) (out : List ℕ) → among (written_number (page.report s out).answer) (0 ∷ 3 ∷ 4 ∷ 7 ∷ []) ≡ true
unfolding page.report page.report_asks numbers_of held is_number answer_number
report s out =
    let lines = page.lines s in
    asked (λ (r : page.Reported). written_number r.answer) (λ n. record { answer = refused n; front = []; out = out })
    (record { answer = Ok (length lines); front = lines; out = lines ++ drop (length lines) out }) (page.report_asks s out) (by_number ℕ) refl refl

report_refusal : (s : State) (out : List ℕ) → among (page.report_refusal s out) (0 ∷ 3 ∷ 4 ∷ 7 ∷ []) ≡ true
unfolding page.report_refusal page.report_asks numbers_of held is_number
report_refusal s out = asked (λ (n : ℕ). n) (λ n. n) 0 (page.report_asks s out) (unfold Denies in ((λ n p q. refl), refl)) refl refl

-- ---- readings: question 3
module _ (h : Shedder) (os : List ℕ) where
  whole : List (ℕ × Bool)
  whole = (3, page.head_whole h os) ∷ []

  read : {A : Type 0} (x : A) → among (answer_number (ask whole refused (Ok x))) (0 ∷ 3 ∷ []) ≡ true
  unfolding answer_number numbers_of held is_number whole
  read {A = A} x = asked answer_number refused (Ok x) whole (by_number A) refl refl

  visited : among (reading_number (page.visited h os)) (0 ∷ 3 ∷ []) ≡ true
  unfolding page.visited whole
  visited = read h.visits

  cut_batches : (c : Cause) → among (reading_number (page.cut_batches h os c)) (0 ∷ 3 ∷ []) ≡ true
  unfolding page.cut_batches whole
  cut_batches c = read (h.batches # index_of c)

  level : (d : Dim) → among (level_number (page.level h os d)) (0 ∷ 3 ∷ []) ≡ true
  unfolding page.level whole
  level d = read (h.level ! dim_of d)

  rate : (d : Dim) → among (rate_number (page.rate h os d)) (0 ∷ 3 ∷ []) ≡ true
  unfolding page.rate whole
  rate d = read (cond (page.is_unbounded h.flow.rate) None (Some (h.flow.rate # dim_of d)))

  is_bounded : among (bounded_number (page.is_bounded h os)) (0 ∷ 3 ∷ []) ≡ true
  unfolding page.is_bounded whole
  is_bounded = read (not (page.is_unbounded h.flow.rate))

pub numbered : Numbered
numbered = record {
  start = start;
  judge = judge;
  cut = cut;
  set_rates = set_rates;
  report = report;
  report_refusal = report_refusal;
  visited = visited;
  cut_batches = cut_batches;
  level = level;
  rate = rate;
  is_bounded = is_bounded;
}
