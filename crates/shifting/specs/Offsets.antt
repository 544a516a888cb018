-- The offsets at which the parts of a list of entries begin. Definitions only.
use Rattle.std.specs.Prelude.{ℕ, zero, suc, ◌+◌, ◌<◌, ◌≤◌, ◌≡◌, Bool, true, ◌&&◌, List, map, drop, ◌==◌, nat_le, get_or}
use Rattle.shifting.specs.Shifting.{over}

-- parts of the entries, one for each table
abbrev pub «PARTS» : ℕ
«PARTS» = 64

-- each from i on by f
unfoldable pub from_on : (ℕ → ℕ) → List ℕ → ℕ → List ℕ
from_on f os i = over os i (map f (drop i os))

-- they begin at 0, never fall and end at n
pub record Whole (os : List ℕ) (n : ℕ) : Type 0 where
  pub begins : get_or os 0 0 ≡ 0
  pub rises : (k : ℕ) → k < «PARTS» → get_or os k 0 ≤ get_or os (k + 1) 0
  pub ends : get_or os «PARTS» 0 ≡ n

-- none of the first k falls
unfoldable pub rising : List ℕ → ℕ → Bool
rising os zero = true
rising os (suc k) = rising os k && nat_le (get_or os k 0) (get_or os (k + 1) 0)

-- Whole, as a test
unfoldable pub is_whole : List ℕ → ℕ → Bool
is_whole os n = (get_or os 0 0 == 0) && (get_or os «PARTS» 0 == n) && rising os «PARTS»
