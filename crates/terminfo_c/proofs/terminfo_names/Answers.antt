-- `terminfo_c::terminfo_names` meets its contract: the part's number.
use mathlib.Core.Path.{ap, ◌∙◌}
use Rattle.c_numbers.specs.Numbers.{numbered, part_code}
use Rattle.c_asked.proofs.Laws.{names_within}
use Rattle.terminfo_c.proofs.terminfo_names.Goals as goal

pub names_number-requires : goal.names_number-requires
names_number-requires c = names_within _ _ c.names-n.result c.names-n.ensures

pub returns : goal.returns
returns c =
    let n = rw c.edition_of.ensures at c.names-n.ensures in
    c.names_number.ensures ∙ ap (numbered part_code) n
