-- Which description is wanted.
-- Assumes nothing.
use Rattle.std.specs.Prelude.{Bool, true, List, ℕ, Option, Some, None}
use Rattle.std.specs.Borrow.{Bor}
use Rattle.text.specs.Building.{Wanted, first, named, has_name}

-- the one that has the name, or the text's first
abbrev pub wanted_by : Option (Bor (List ℕ)) → Wanted
wanted_by None = first
wanted_by (Some n) = named n.now

-- the text's first description, which has these names, is the wanted one
unfoldable pub wants : Wanted → List ℕ → Bool
wants first names = true
wants (named n) names = has_name n names
