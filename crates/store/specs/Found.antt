-- A place that a search over the first n gives, as an Option: none where it came to n. Definitions only.
use Rattle.std.specs.Prelude.{ℕ, cond, ltb, Option, Some, None}

unfoldable pub found : ℕ → ℕ → Option ℕ
found n i = cond (ltb i n) (Some i) None
