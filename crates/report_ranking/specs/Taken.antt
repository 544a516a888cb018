-- Sources taken for the keys that their words name, whatever their tags are: a search compares them so, since a tag is told by a hash. Definitions only.
use Rattle.std.specs.Prelude.{ℕ, zero, suc, ◌≡◌, Bool, cond, List, [], ◌∷◌, eqb, get_or}
use Rattle.sender.specs.Sender.{tag_of_hash, hash_of}
use Rattle.sender.specs.declared.PublicKey.{PublicKey}
use Rattle.sender.specs.declared.Unit.TheVariants.{Corroborated}
use Rattle.sender.specs.declared.Words.{Words}
use Rattle.store.specs.Store.{unit_at}
use Rattle.report_ranking.specs.Sources.{is_after, earlier}

-- the key that words of its kind name
abbrev pub key_in : Words → PublicKey
key_in w = record { a = w.a; b = w.b; c = w.c; d = w.d }

-- the tag of the key that the words of a row name, where they name one
unfoldable pub key_tag : ℕ → List ℕ → ℕ
key_tag tag row =
    cond (eqb (get_or row 0 0) 0)
    (tag_of_hash (hash_of (Corroborated (record { a = get_or row 1 0; b = get_or row 2 0; c = get_or row 3 0; d = get_or row 4 0 })))) tag

unfoldable pub key_tags : List ℕ → List (List ℕ) → List ℕ
key_tags [] rows = []
key_tags (tag ∷ tags) [] = []
key_tags (tag ∷ tags) (row ∷ rows) = key_tag tag row ∷ key_tags tags rows

-- the tags that sources are compared by
unfoldable pub taken : Bool → List ℕ → List (List ℕ) → List ℕ
taken tagged tags rows = cond tagged tags (key_tags tags rows)

-- source i reads by the tags `by` as by its own
abbrev pub IsOwn : List ℕ → List ℕ → List (List ℕ) → ℕ → Type 0
IsOwn by tags rows i = unit_at by rows i ≡ unit_at tags rows i

-- the selection of specs/Sources, where those after p are compared by the tags `by`
unfoldable pub better_taken : List ℕ → List ℕ → List (List ℕ) → ℕ → ℕ → ℕ → ℕ → ℕ
better_taken by tags rows n p best i = cond (is_after tags rows n p i) (earlier by rows n best i) best

unfoldable pub first_taken : List ℕ → List ℕ → List (List ℕ) → ℕ → ℕ → ℕ → ℕ
first_taken by tags rows n p zero = n
first_taken by tags rows n p (suc m) = better_taken by tags rows n p (first_taken by tags rows n p m) m
