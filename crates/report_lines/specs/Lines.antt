-- The report's text: the texts that stand one after the other in it, line by line. Definitions only.
use Rattle.std.specs.Prelude.{ℕ, ◌+◌, ◌*◌, Bool, cond, List, [], ◌∷◌, ◌++◌, get_or}
use Rattle.text.specs.Page.{joined}
use Rattle.text.specs.Number.{decimal}
use Rattle.flow.specs.Flow.{dims}
use Rattle.head.specs.declared.Shedder.{Shedder}
use Rattle.head.specs.Questions.{is_unbounded}
use Rattle.cut_sources.specs.Counted.{counts_at}
use Rattle.report_ranking.specs.Sources.{label_at, reported}

-- ---- the words, in ASCII
-- `rate`
abbrev pub rate : List ℕ
rate = 114 ∷ 97 ∷ 116 ∷ 101 ∷ []

-- `ceiling`
abbrev pub ceiling : List ℕ
ceiling = 99 ∷ 101 ∷ 105 ∷ 108 ∷ 105 ∷ 110 ∷ 103 ∷ []

-- `none`
abbrev pub none : List ℕ
none = 110 ∷ 111 ∷ 110 ∷ 101 ∷ []

-- `active`
abbrev pub active : List ℕ
active = 97 ∷ 99 ∷ 116 ∷ 105 ∷ 118 ∷ 101 ∷ []

-- `receiver_ceiling`
abbrev pub receiver_ceiling : List ℕ
receiver_ceiling = 114 ∷ 101 ∷ 99 ∷ 101 ∷ 105 ∷ 118 ∷ 101 ∷ 114 ∷ 45 ∷ ceiling

-- `over_share`
abbrev pub over_share : List ℕ
over_share = 111 ∷ 118 ∷ 101 ∷ 114 ∷ 45 ∷ 115 ∷ 104 ∷ 97 ∷ 114 ∷ 101 ∷ []

-- `relay_rate`
abbrev pub relay_rate : List ℕ
relay_rate = 114 ∷ 101 ∷ 108 ∷ 97 ∷ 121 ∷ 45 ∷ rate

-- `source`
abbrev pub source : List ℕ
source = 115 ∷ 111 ∷ 117 ∷ 114 ∷ 99 ∷ 101 ∷ []

abbrev pub space : List ℕ
space = 32 ∷ []

abbrev pub line_feed : List ℕ
line_feed = 10 ∷ []

-- ---- lines
-- the rest of a line: each number in decimal behind a space, and the line feed
unfoldable pub numbers : List ℕ → List (List ℕ)
numbers [] = line_feed ∷ []
numbers (x ∷ xs) = space ∷ decimal x ∷ numbers xs

-- a word and numbers
unfoldable pub line : List ℕ → List ℕ → List (List ℕ)
line word xs = word ∷ numbers xs

-- a word and a number for each dimension, or `none` where the relay is unbounded
unfoldable pub rates_line : List ℕ → Bool → List ℕ → List (List ℕ)
rates_line word unbounded xs = cond unbounded (word ∷ space ∷ none ∷ line_feed ∷ []) (line word xs)

-- the batches and the receptions cut for a cause
unfoldable pub cause_line : List ℕ → ℕ → Shedder → List (List ℕ)
cause_line word i h = line word (get_or h.batches i 0 ∷ get_or h.receptions i 0 ∷ [])

unfoldable pub source_line : List ℕ → List (List ℕ) → ℕ → List (List ℕ)
source_line tags rows i = source ∷ space ∷ line (label_at tags rows i) (counts_at rows i)

unfoldable pub source_lines : List ℕ → List (List ℕ) → List ℕ → List (List ℕ)
source_lines tags rows [] = []
source_lines tags rows (i ∷ is) = source_line tags rows i ++ source_lines tags rows is

unfoldable pub head_lines : Shedder → List (List ℕ)
head_lines h =
    rates_line rate (is_unbounded h.flow.rate) h.flow.rate
    ++ rates_line ceiling (is_unbounded h.flow.rate) h.flow.ceiling
    ++ line active (h.tracked ∷ [])
    ++ cause_line receiver_ceiling 0 h
    ++ cause_line over_share 1 h
    ++ cause_line relay_rate 2 h

-- the bytes that these lines have at most: a word of up to 7 bytes, a number of up to 20 behind a space for each dimension, and a line feed in each of
-- the first two; 193 in the others
abbrev pub head_most : ℕ
head_most = 2 * (8 + 21 * dims) + 193

-- THE TEXT of a report: of the head and the counted sources
unfoldable pub text : Shedder → List ℕ → List (List ℕ) → List ℕ
text h tags rows = joined (head_lines h ++ source_lines tags rows (reported tags rows h.counted))
