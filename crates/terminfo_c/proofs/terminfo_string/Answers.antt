-- `terminfo_c::terminfo_string` meets its contract: the state's number.
use mathlib.Core.Path.{ap, ◌∙◌}
use Rattle.c_numbers.specs.Numbers.{string_number}
use Rattle.c_asked.proofs.Laws.{string_within}
use Rattle.terminfo_c.proofs.terminfo_string.Goals as goal

pub state_number-requires : goal.state_number-requires
state_number-requires c = string_within _ _ _ c.string-s.result c.string-s.ensures

pub returns : goal.returns
returns c =
    let s = rw c.edition_of.ensures at c.string-s.ensures in
    c.state_number.ensures ∙ ap string_number s
