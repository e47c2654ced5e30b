-- The targets of uses in an array: the number of the description that has the name, or a number for none.
-- Assumes nothing.
use Rattle.std.specs.Prelude.{ℕ}

-- the target of a use whose name no description has
abbrev pub no_target : ℕ
no_target = 255
