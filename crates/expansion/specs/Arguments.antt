-- The nine arguments as they are lent (document 02, 2026-07).
-- Assumes nothing.
use Rattle.std.specs.Prelude.{Bool, true, false, List, map, ℕ, ◌+◌, leb, ℤ, pos, length, get_or, take, drop}
use Rattle.base.specs.Scan.{every}
use Rattle.expansion.specs.Limits.{text_most}
use Rattle.expansion.specs.Values.{Value, number, text}
use Rattle.expansion.specs.declared.Operand.{Operand}
use Rattle.expansion.specs.declared.Operand.TheVariants as O
use Rattle.expansion.specs.declared.Argument.{Argument}

-- "A text that doesn't lie in what was lent is 17": a text that is empty lies in it from its first byte to its end. A
-- sum that the code's numbers cannot hold is larger than what was lent
abbrev pub lies_in : List ℕ → Operand → Bool
lies_in lent (O.Number v) = true
lies_in lent (O.Text start n) = leb (start + n) (length lent)

-- "at most 1,000 each, else 1"
abbrev pub is_short : Operand → Bool
is_short (O.Number v) = true
is_short (O.Text start n) = leb n text_most

-- every argument passes a test, used or not
abbrev pub each_passes : (Operand → Bool) → List Argument → Bool
each_passes ok arguments =
    every (λ i. ok (get_or arguments i (record { operand = O.Number (pos 0) })).operand) (length arguments)

-- what an operand means
abbrev pub meant : List ℕ → Operand → Value
meant lent (O.Number v) = number v
meant lent (O.Text start n) = text (take n (drop start lent))

-- the values of the arguments
abbrev pub values_of : List ℕ → List Argument → List Value
values_of lent arguments = map (λ (a : Argument). meant lent a.operand) arguments

-- arguments that are all numbers
abbrev pub numbers_given : List ℤ → List Argument
numbers_given vs = map (λ (v : ℤ). record { operand = O.Number v }) vs
