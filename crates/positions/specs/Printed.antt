-- A position as it is printed.
-- Assumes nothing.
use Prim.Native.Char.{code}
use Rattle.std.specs.Prelude.{List, ℕ, ◌∷◌, ◌++◌}
use Rattle.std.specs.Fmt.{decimal}
use Rattle.positions.specs.declared.Position.{Position}

-- the line, a colon and the column
abbrev pub printed : Position → List ℕ
printed p = decimal p.line ++ (code ":" ∷ decimal p.column)
