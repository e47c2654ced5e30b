-- Blank lines and comment lines (document 01: Source text). Here the text's end is a line end, and a NUL byte is a
-- byte like any other.
-- Assumes nothing.
use Rattle.std.specs.Prelude.{List, ℕ, ◌+◌, ◌-◌, eqb, leb, length, get_or}
use Rattle.base.specs.If.{when◌then◌else◌}
use Rattle.base.specs.Loop.{Turn, go, stop, loop}
use Rattle.text.specs.declared.ByteClass.TheVariants as C
use Rattle.text.specs.declared.Line.{Line}
use Rattle.text.specs.declared.Line.TheVariants.{End, Column, Indented}
use Rattle.text.specs.Bytes.{◌is◌, run_end}

-- a line that starts at i, whose first nonblank is at j: "blank lines and lines whose first nonblank is `#` are
-- skipped"
abbrev pub line_turn_at : List ℕ → ℕ → ℕ → Turn ℕ Line
line_turn_at t i j =
    when leb (length t) j then stop End
    else when get_or t j 0 is "\n" then go (j + 1)
    else when get_or t j 0 is "#" then go (run_end C.Line t j + 1)
    else when eqb j i then stop (Column i)
    else stop (Indented j)

unfoldable pub line_turn : List ℕ → ℕ → Turn ℕ Line
line_turn t i = line_turn_at t i (run_end C.Blank t i)

-- from the start of a line
unfoldable pub line_at : List ℕ → ℕ → Line
line_at t i = loop (λ (j : ℕ). length t - j) (line_turn t) End i

-- from the place past a comma, where the first nonblank is at j: the line may end here, or hold another field
abbrev pub next_from : List ℕ → ℕ → Line
next_from t j =
    when leb (length t) j then End
    else when get_or t j 0 is "\n" then line_at t (j + 1)
    else Indented j

unfoldable pub next_at : List ℕ → ℕ → Line
next_at t i = next_from t (run_end C.Blank t i)
