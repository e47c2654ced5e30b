-- A machine by its stack, its arguments and its variables.
-- Assumes nothing.
use Rattle.std.specs.Prelude.{List, ℤ}
use Rattle.expansion.specs.Values.{Value}
use Rattle.expansion.specs.Machine.{Machine}

abbrev pub machine : List Value → List Value → List ℤ → List ℤ → Machine
machine stack arguments locals lasting =
    record { stack = stack; arguments = arguments; locals = locals; lasting = lasting }
