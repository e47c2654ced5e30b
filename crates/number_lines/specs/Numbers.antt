-- The line of a number, as `ti show` prints it.
-- Assumes nothing.
use Rattle.std.specs.Prelude.{List, ◌∷◌, ℕ}
use Rattle.edition.specs.declared.Edition.{Edition}
use Rattle.edition.specs.declared.Kind.TheVariants.{Number}
use Rattle.edition.specs.declared.Place.{Place}
use Rattle.entry.specs.Asking.{asking_number}
use Rattle.show_names.specs.Line.{line_of}
use Rattle.show_names.specs.Naming.{decimal, name_of}

-- a number stands after `#` (35)
unfoldable pub number_line : Edition → List ℕ → Place → List ℕ
number_line e f p = line_of (name_of Number p) (λ n. 35 ∷ decimal n) (asking_number e f p)
