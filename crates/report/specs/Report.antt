-- The report: its questions 3, 4 and 7, its answer, and the lent buffer after it. Definitions only.
use Rattle.std.specs.Prelude.{ℕ, cond, List, [], ◌++◌, eqb, leb, length, drop, Result, Ok, Err}
use Rattle.store.specs.Store.{Rows}
use Rattle.store.specs.Held.{sizes_of}
use Rattle.head.specs.declared.Shedder.{Shedder}
use Rattle.head.specs.Questions.{whole_with, memory_whole}
use Rattle.head.specs.declared.Refusal.{Refusal}
use Rattle.head.specs.Answers.{refused}
use Rattle.report_lines.specs.Lines.{text}

-- ---- the bytes written
abbrev pub bytes : Result ℕ Refusal → ℕ
bytes (Ok n) = n
bytes (Err r) = 0

-- the whole text. The tags of the counted sources stand behind those of the unit records
abbrev pub lines : Shedder → Rows → List (List ℕ) → List ℕ
lines h m counted = text h (drop h.unit_room m.tags) counted

-- ---- the questions, by the unit records' lists, the counted rows and the length of the buffer
-- the number of the first answered no, else 0: 3 the head with its offsets, 4 the memory, 7 the whole text fits the buffer
unfoldable pub report_asked : Shedder → Rows → List (List ℕ) → ℕ → ℕ
report_asked h m counted room = cond (whole_with h m.offsets) (cond (memory_whole h (sizes_of m counted)) (cond (leb (length (lines h m counted)) room) 0 7) 4) 3

-- ---- the answer and the buffer
unfoldable pub answer : Shedder → Rows → List (List ℕ) → ℕ → Result ℕ Refusal
answer h m counted room = cond (eqb (report_asked h m counted room) 0) (Ok (length (lines h m counted))) (refused (report_asked h m counted room))

-- the written front part: the whole text, or nothing where a question was answered no
unfoldable pub front : Shedder → Rows → List (List ℕ) → ℕ → List ℕ
front h m counted room = cond (eqb (report_asked h m counted room) 0) (lines h m counted) []

pub record Ends : Type 0 where
  pub answer : Result ℕ Refusal
  pub out : List ℕ

abbrev pub ends : Result ℕ Refusal → List ℕ → Ends
ends answer out = record { answer = answer; out = out }

-- THE REPORT: the text at the front of the buffer, the bytes behind it as they were; a refused one leaves the whole buffer as it was
unfoldable pub report : Shedder → Rows → List (List ℕ) → List ℕ → Ends
report h m counted out =
    cond (eqb (report_asked h m counted (length out)) 0)
    (ends (Ok (length (lines h m counted))) (lines h m counted ++ drop (length (lines h m counted)) out))
    (ends (refused (report_asked h m counted (length out))) out)
