-- The lines of counts that `ti show` prints: the edition's, and that of the slots of a file beyond it.
-- Assumes nothing.
use Rattle.std.specs.Prelude.{List, [], ◌++◌, ℕ}
use Rattle.base.specs.Answer.{Answer, refused, gives}
use Rattle.edition.specs.declared.Edition.{Edition}
use Rattle.entry.specs.Asking.{opening}
use Rattle.entry.specs.declared.Opening.{Opening}
use Rattle.names.specs.Names.{ascii}
use Rattle.show_names.specs.Line.{line_end}
use Rattle.show_names.specs.Naming.{decimal}

-- words, and a count for each list
unfoldable pub counts_line : List ℕ → ℕ → ℕ → ℕ → List ℕ
counts_line words booleans numbers strings =
    words ++ (decimal booleans ++ (ascii " booleans, "
    ++ (decimal numbers ++ (ascii " numbers, " ++ (decimal strings ++ (ascii " strings" ++ line_end))))))

-- how many places of each list the edition knows
abbrev pub edition_line : Edition → List ℕ
edition_line e = counts_line (ascii "edition: ") e.booleans e.numbers e.strings

-- how many slots of each list lie beyond the edition; a refused file has no such line
abbrev pub beyond_in : Answer Opening → List ℕ
beyond_in (refused n v) = []
beyond_in (gives o) =
    counts_line (ascii "beyond the edition: ") o.beyond.booleans o.beyond.numbers o.beyond.strings

unfoldable pub beyond_line : Edition → List ℕ → List ℕ
beyond_line e f = beyond_in (opening e f)
