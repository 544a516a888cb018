-- An IPv6 address as a text by RFC 5952, section 4: of eight fields of 16 bits, given as numbers. Definitions only.
use Rattle.std.specs.Prelude.{ℕ, zero, suc, ◌+◌, cond, List, [], ◌∷◌, ◌++◌, ltb, take, drop}
use Rattle.text.specs.Number.{hexadecimal}

-- fields of zero side by side: the place of the first, and how many
pub record Run : Type 0 where
  pub place : ℕ
  pub count : ℕ

abbrev pub run : ℕ → ℕ → Run
run place count = record { place = place; count = count }

-- how many fields of zero stand in front
unfoldable pub zeros : List ℕ → ℕ
zeros [] = 0
zeros (zero ∷ fields) = suc (zeros fields)
zeros (suc n ∷ fields) = 0

-- 4.2.3: the longest run of the fields, which begin at `place`, where it is longer than `best`; of equal ones the first
unfoldable pub longest : List ℕ → ℕ → Run → Run
longest [] place best = best
longest (field ∷ fields) place best =
    longest fields (place + 1) (cond (ltb best.count (zeros (field ∷ fields))) (run place (zeros (field ∷ fields))) best)

-- 4.1, 4.3: each field in lower case without a zero in front, which a field of zero alone has; `:` between
unfoldable pub colons : List ℕ → List ℕ
colons [] = []
colons (field ∷ []) = hexadecimal field
colons (field ∷ next ∷ fields) = hexadecimal field ++ (58 ∷ colons (next ∷ fields))

-- 4.2.1: `::` stands for the whole run
unfoldable pub shortened : List ℕ → Run → List ℕ
shortened fields r = colons (take r.place fields) ++ (58 ∷ 58 ∷ colons (drop (r.place + r.count) fields))

-- 4.2.2: no `::` for one field alone
unfoldable pub address : List ℕ → List ℕ
address fields =
    let r : Run = longest fields 0 (run 0 0) in
    cond (ltb r.count 2) (colons fields) (shortened fields r)
