-- `terminfo_c::terminfo_boolean` meets its contract: the state's number.
use mathlib.Core.Path.{ap, ◌∙◌}
use Rattle.c_numbers.specs.Numbers.{boolean_number}
use Rattle.terminfo_c.proofs.terminfo_boolean.Goals as goal

pub returns : goal.returns
returns c =
    let s = rw c.edition_of.ensures at c.boolean-s.ensures in
    c.state_number.ensures ∙ ap boolean_number s
