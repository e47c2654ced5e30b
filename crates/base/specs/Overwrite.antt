-- A list with other elements from a place on.
-- Assumes nothing.
use Rattle.std.specs.Prelude.{List, ◌++◌, ℕ, ◌+◌, length, take, drop}

-- b with xs in place of its elements from at on
unfoldable pub put_at : {A : Type 0} → List A → ℕ → List A → List A
put_at b at xs = take at b ++ (xs ++ drop (at + length xs) b)
