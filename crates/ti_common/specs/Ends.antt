-- What the ends of ti's commands are as numbers.
-- Assumes nothing.
use Rattle.std.specs.Prelude.{ℕ, Result, Ok, Err}
use Rattle.ti_common.specs.declared.Stop.{Stop}
use Rattle.ti_common.specs.declared.Stop.TheVariants.{Refused, Failed}

-- 0 done, 1 refused, 2 wrong usage or failed input or output
abbrev pub status_number : Result (Unit {0}) Stop → ℕ
status_number (Ok x) = 0
status_number (Err Refused) = 1
status_number (Err Failed) = 2
