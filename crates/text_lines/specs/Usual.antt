-- The usual line with a field, for which the code has a short way.
-- Assumes nothing.
use Rattle.std.specs.Prelude.{Bool, ◌&&◌, List, ℕ, ◌+◌, eqb, leb, get_or}

-- a line end stands at i, then one tab, then a byte above white space, the line end and `#`, which is 35
unfoldable pub is_usual : List ℕ → ℕ → Bool
is_usual t i = eqb (get_or t i 0) 10 && (eqb (get_or t (i + 1) 0) 9 && leb 36 (get_or t (i + 2) 0))
