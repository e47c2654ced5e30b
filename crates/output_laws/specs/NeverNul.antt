-- Document 02, 2026-04: "After this an expansion contains no NUL at all, and we want that shown"; 2026-07: "2026-04's
-- claim of no NUL then needs texts without NUL". `expanding_no_nul` of `proofs/NoNul.antt` says that this is so for all
-- strings, arguments and variables, and `numbers_no_nul` that it is so for all numbers.
-- Assumes nothing.
use Rattle.std.specs.Prelude.{◌≡◌, List, ℕ, ℤ}
use Rattle.base.specs.Answer.{gives}
use Rattle.base.specs.Tabulate.{Each}
use Rattle.word.specs.Nul.{NoNul}
use Rattle.expansion.specs.declared.Argument.{Argument}
use Rattle.expansion.specs.Values.{Value, number, text}
use Rattle.expansion.specs.Arguments.{values_of}
use Rattle.expansion.specs.Expanding.{Expanding, expanding}

-- a number, or a text no byte of which is 0
abbrev pub FreeValue : Value → Type 0
FreeValue (number v) = Unit {0}
FreeValue (text bytes) = NoNul bytes

-- if a string is expanded with these arguments and variables, whatever the buffer and the place, no byte of the output
-- is 0
abbrev pub NeverNul : List ℕ → List Argument → List ℕ → List ℤ → Type 0
NeverNul s arguments lent lasting =
    (size at : ℕ) (x : Expanding) → expanding s arguments lent lasting size at ≡ gives x → NoNul x.output

-- where no text among the arguments holds a NUL
abbrev pub FreeTexts : List Argument → List ℕ → Type 0
FreeTexts arguments lent = Each FreeValue (values_of lent arguments)
