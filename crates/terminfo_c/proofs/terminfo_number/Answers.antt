-- `terminfo_c::terminfo_number` meets its contract: the state's number.
use mathlib.Core.Path.{ap, ◌∙◌}
use Rattle.c_numbers.specs.Numbers.{number_number}
use Rattle.terminfo_c.proofs.terminfo_number.Goals as goal

pub returns : goal.returns
returns c =
    let s = rw c.edition_of.ensures at c.number-s.ensures in
    c.state_number.ensures ∙ ap number_number s
