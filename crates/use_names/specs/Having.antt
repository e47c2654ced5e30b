-- What looking for a description's name answers.
-- Assumes nothing.
use Rattle.std.specs.Prelude.{ℕ, Option, None, Some}
use Rattle.text.specs.Building.{Having, nobody, numbered}

abbrev pub says_named : Option ℕ → Having
says_named None = nobody
says_named (Some d) = numbered d
