-- The cases at the edges that document 01 marks as proved, in its order, as one table about the definitions. Statements only; proofs/Cases.antt proves it. Assumes nothing.
use Rattle.std.specs.Prelude.{◌≡◌, true, false, List, [], ◌∷◌, ◌++◌, map, ℕ, ◌^◌, ◌<◌, pos, negsuc, length, replicate, Float}
use Rattle.std.specs.Float.{fin}
use Rattle.ieee.specs.Doubles.{one, whole, infinity}
use Rattle.fade.specs.Fade.{fade}
use Rattle.flow.specs.Flow as flow
use Rattle.flow.specs.Flow.{dims, opened, fills}
use Rattle.verdict.specs.Verdict.{want, weight_of, met, judged}
use Rattle.flow.specs.declared.Bucket.{Bucket}
use Rattle.verdict.specs.declared.Verdict.TheVariants.{RelayRate}
use Rattle.label.specs.Label.{label}
use Rattle.sender.specs.Sender.{bytes_of, hash_of, table_of}
use Rattle.sender.specs.declared.Group.TheVariants.{V6}
use Rattle.sender.specs.declared.Unit.TheVariants.{Group as Grouped, NoAddress, Overflow}
use Rattle.cut_sources.specs.Counted.{sources, pruned}
use Rattle.wants.specs.Bucket.{bucket_of}
use Rattle.wants.specs.Wants as wants
use Rattle.wants.specs.Wants.{Hist, cleared, level}

-- ---- wants
-- 3 × 2 ^ -1
abbrev pub one_and_a_half : Float
one_and_a_half = fin false 3 (negsuc 0)

-- a scan's wants, each added in turn
unfoldable pub of_wants : ℕ → List Float → Hist → Hist
of_wants d [] h = h
of_wants d (w ∷ ws) h = of_wants d ws (wants.added h d w)

-- the level of these wants in a dimension, at rate 10
abbrev pub level_of : ℕ → List Float → Float
level_of d ws = level (of_wants d ws cleared) d (whole 10)

-- ---- counted sources
-- a source of this total
abbrev pub row : ℕ → List ℕ
row total = 0 ∷ 0 ∷ 0 ∷ 0 ∷ 0 ∷ total ∷ 0 ∷ 0 ∷ []

-- every row has a source, the spare row too: of the totals `before` those of `after` stay, in front, and `free` places are zero
abbrev pub Stay : List ℕ → List ℕ → ℕ → Type 0
Stay before after free = pruned (sources (length before) (map row before)) ≡ sources (length after) (map row after ++ replicate free (replicate 8 0))

-- ---- a fresh unit at rate 10 with no ceiling, its cost 20, in every dimension
abbrev pub buckets : List Bucket
buckets = replicate dims (opened 10 0)

abbrev pub rate : List Float
rate = replicate dims (whole 10)

abbrev pub cost : List Float
cost = replicate dims (whole 20)

-- its want at its first judgement, stamped `clock`; the level is the rate
abbrev pub fresh_want : ℕ → Float
fresh_want clock = want (weight_of true 0) (met (flow.added clock) clock (fills rate rate) cost).attempted cost rate

pub record Cases : Type 0 where
  -- hash of byte 2 af63bf4c8601bb45, byte 3 af63be4c8601b992 (hexadecimal), both table 43
  pub byte_2 : bytes_of NoAddress ≡ 2 ∷ []
  pub hash_2 : hash_of NoAddress ≡ 0xaf63_bf4c_8601_bb45
  pub byte_3 : bytes_of Overflow ≡ 3 ∷ []
  pub hash_3 : hash_of Overflow ≡ 0xaf63_be4c_8601_b992
  pub table_2 : table_of NoAddress ≡ 43
  pub table_3 : table_of Overflow ≡ 43
  -- wants 1, 1.5, 2, 2^48: buckets 0, 9, 16, 767
  pub bucket_1 : bucket_of (whole 1) ≡ 0
  pub bucket_1·5 : bucket_of one_and_a_half ≡ 9
  pub bucket_2 : bucket_of (whole 2) ≡ 16
  pub bucket_2^48 : bucket_of (whole (2 ^ 48)) ≡ 767
  -- rate 10: wants 2, 20 give level 8; 2, 3 infinite; none infinite; in every dimension
  pub level_2_20 : (d : ℕ) → d < dims → level_of d (whole 2 ∷ whole 20 ∷ []) ≡ whole 8
  pub level_2_3 : (d : ℕ) → d < dims → level_of d (whole 2 ∷ whole 3 ∷ []) ≡ infinity
  pub level_none : (d : ℕ) → d < dims → level_of d [] ≡ infinity
  -- five totals 1, 1, 2, 3, 4, keeping four: 2, 3, 4 stay; in another order of arrival too; all equal: none
  pub totals : Stay (1 ∷ 1 ∷ 2 ∷ 3 ∷ 4 ∷ []) (2 ∷ 3 ∷ 4 ∷ []) 2
  pub totals_in_another_order : Stay (4 ∷ 1 ∷ 3 ∷ 2 ∷ 1 ∷ []) (4 ∷ 3 ∷ 2 ∷ []) 2
  pub totals_equal : Stay (7 ∷ 7 ∷ 7 ∷ 7 ∷ 7 ∷ []) [] 5
  -- prefixes 20010000, 0, 00000db8, 20010db8 (hexadecimal) print `v6:2001::/32`, `v6:::/32`, `v6:0:db8::/32`, `v6:2001:db8::/32`
  pub prefix_first : label (Grouped (V6 0x2001_0000)) ≡ 118 ∷ 54 ∷ 58 ∷ 50 ∷ 48 ∷ 48 ∷ 49 ∷ 58 ∷ 58 ∷ 47 ∷ 51 ∷ 50 ∷ []
  pub prefix_zero : label (Grouped (V6 0)) ≡ 118 ∷ 54 ∷ 58 ∷ 58 ∷ 58 ∷ 47 ∷ 51 ∷ 50 ∷ []
  pub prefix_second : label (Grouped (V6 0x0db8)) ≡ 118 ∷ 54 ∷ 58 ∷ 48 ∷ 58 ∷ 100 ∷ 98 ∷ 56 ∷ 58 ∷ 58 ∷ 47 ∷ 51 ∷ 50 ∷ []
  pub prefix_both : label (Grouped (V6 0x2001_0db8)) ≡ 118 ∷ 54 ∷ 58 ∷ 50 ∷ 48 ∷ 48 ∷ 49 ∷ 58 ∷ 100 ∷ 98 ∷ 56 ∷ 58 ∷ 58 ∷ 47 ∷ 51 ∷ 50 ∷ []
  -- fade of 0 is 1, of 1,400,000 is 0
  pub fade_0 : fade 0 ≡ fin false 1 (pos 0)
  pub fade_1400000 : fade 1400000 ≡ fin false 0 (pos 0)
  -- rate 10, fresh cost 20, tokens 10: want 1, RelayRate; at any stamp and for any rank
  pub tokens_10 : (opened 10 0).tokens ≡ whole 10
  pub want_1 : (clock : ℕ) → fresh_want clock ≡ one
  pub relay_rate : (clock : ℕ) (rank : Float) → (judged buckets (flow.added clock) clock 0 cost (fills rate rate) rate rank).verdict ≡ RelayRate
