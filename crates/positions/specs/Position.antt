-- A place in a text as people count it.
-- Assumes nothing.
use Rattle.std.specs.Prelude.{List, ℕ, zero, suc, eqb, get_or}
use Rattle.base.specs.If.{when◌then◌else◌}

-- the line of a place, counted from 1: one more for each line end (byte 10) before it
unfoldable pub line_of : List ℕ → ℕ → ℕ
line_of t zero = 1
line_of t (suc i) = when eqb (get_or t i 0) 10 then suc (line_of t i) else line_of t i

-- the column of a place, counted from 1: 1 at the text's start and past each line end, one more past any other byte
unfoldable pub column_of : List ℕ → ℕ → ℕ
column_of t zero = 1
column_of t (suc i) = when eqb (get_or t i 0) 10 then 1 else suc (column_of t i)
