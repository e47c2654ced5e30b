-- The description that the words of `ti compile` ask for.
-- Assumes nothing.
use Rattle.std.specs.Prelude.{List, [], ℕ, Option, Some, None}
use Rattle.text.specs.Building as B

-- "the program: the text's first"; with -n, the one that has the name n
abbrev pub asked : Option (List ℕ) → B.Wanted
asked None = B.first
asked (Some n) = B.named n
