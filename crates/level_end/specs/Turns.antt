-- What passing does at an item, as the code says it.
-- Assumes nothing.
use Rattle.std.specs.Prelude.{Bool, ℕ, ◌^◌, Option, Some, None}
use Rattle.expansion.specs.declared.Class.{Class}
use Rattle.expansion.specs.Machine.{Passing, stops, opens, passing}

-- the number of conditionals open inside a level is below this one
abbrev pub inner_most : ℕ
inner_most = 2 ^ 63

-- the number of conditionals then open; none: passing stops
abbrev pub as_turn : Passing → Option ℕ
as_turn stops = None
as_turn (opens d) = Some d

abbrev pub turn_of : Bool → Class → ℕ → Option ℕ
turn_of elses c d = as_turn (passing elses c d)
