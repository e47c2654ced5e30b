-- What `%i` makes of an argument as it is lent. `raised_meant` of proofs/Laws.antt says that it means what `raised` of
-- expansion/specs makes of its value.
-- Assumes nothing.
use Rattle.std.specs.Prelude.{pos}
use Rattle.signed.specs.Signed.{add}
use Rattle.expansion.specs.declared.Argument.{Argument}
use Rattle.expansion.specs.declared.Operand.{Operand}
use Rattle.expansion.specs.declared.Operand.TheVariants as O

-- "`%i` leaves a text among the first two as it is"
abbrev pub raised_operand : Operand → Operand
raised_operand (O.Number v) = O.Number (add v (pos 1))
raised_operand (O.Text start n) = O.Text start n

abbrev pub raised_of : Argument → Argument
raised_of a = record { operand = raised_operand a.operand }
