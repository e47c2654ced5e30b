-- Values (document 02, 2026-07): "each of the nine arguments is now either a number or a text lent by the caller, and
-- a stack place holds either kind".
-- Assumes nothing.
use Rattle.std.specs.Prelude.{Bool, true, false, List, [], ℕ, ℤ, pos}

pub data Value : Type 0 where
  number : ℤ → Value
  text : List ℕ → Value

-- stands for a value where there is none
abbrev pub no_value : Value
no_value = number (pos 0)

abbrev pub is_text : Value → Bool
is_text (number v) = false
is_text (text bytes) = true

-- the number, or the bytes, of a value. An item asks for neither of a value of the other kind: that is refused (21)
abbrev pub number_in : Value → ℤ
number_in (number v) = v
number_in (text bytes) = pos 0

abbrev pub text_in : Value → List ℕ
text_in (number v) = []
text_in (text bytes) = bytes
