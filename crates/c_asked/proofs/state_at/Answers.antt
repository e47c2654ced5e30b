-- `c_asked::state_at` meets its contract, kind by kind.
use mathlib.Core.Path.{ap, ◌∙◌}
use Rattle.c_numbers.specs.Numbers.{boolean_number, number_number, string_number}
use Rattle.c_asked.proofs.Laws.{string_within}
use Rattle.c_asked.proofs.state_at.Goals as goal

pub returns-in-Boolean : goal.returns-in-Boolean
returns-in-Boolean c =
    rw c.in-Boolean.is (c.state_number.ensures ∙ ap boolean_number c.boolean_if_opened.ensures)

pub returns-in-Number : goal.returns-in-Number
returns-in-Number c =
    rw c.in-Number.is (c.state_number-in-Number.ensures ∙ ap number_number c.number_if_opened.ensures)

pub state_number-requires-in-String : goal.state_number-requires-in-String
state_number-requires-in-String c = string_within _ _ _ c.string_if_opened.result c.string_if_opened.ensures

pub returns-in-String : goal.returns-in-String
returns-in-String c =
    rw c.in-String.is (c.state_number-in-String.ensures ∙ ap string_number c.string_if_opened.ensures)
