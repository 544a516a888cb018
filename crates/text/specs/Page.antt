-- Text in a lent buffer: a page is the buffer's bytes and the place where the next text goes. Definitions only.
use Rattle.std.specs.Prelude.{ℕ, ◌+◌, cond, List, [], ◌∷◌, ◌++◌, leb, length, take, drop}

pub record Page : Type 0 where
  pub out : List ℕ
  pub at : ℕ

abbrev pub page : List ℕ → ℕ → Page
page out at = record { out = out; at = at }

-- the text stands at the place, every other byte is as it was, and the next place is behind the text
unfoldable pub placed : Page → List ℕ → Page
placed p text = page (take p.at p.out ++ text ++ drop (p.at + length text) p.out) (p.at + length text)

-- a text that does not fit leaves the page as it is
unfoldable pub write : Page → List ℕ → Page
write p text = cond (leb (p.at + length text) (length p.out)) (placed p text) p

-- one text after the other
unfoldable pub writes : Page → List (List ℕ) → Page
writes p [] = p
writes p (text ∷ more) = writes (write p text) more

-- the texts as one
unfoldable pub joined : List (List ℕ) → List ℕ
joined [] = []
joined (text ∷ more) = text ++ joined more
