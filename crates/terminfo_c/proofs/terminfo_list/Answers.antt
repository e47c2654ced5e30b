-- `terminfo_c::terminfo_list` meets its contract: what listing answers, as a number.
use mathlib.Core.Path.{ap, ◌∙◌}
use Rattle.c_numbers.specs.Numbers.{numbered, none}
use Rattle.terminfo_c.proofs.Laws.{numbered_done}
use Rattle.terminfo_c.proofs.terminfo_list.Goals as goal

pub returns : goal.returns
returns c =
    let r = rw c.edition_of.ensures at c.list-l.ensures in
    record {
      number = c.listed_number.ensures ∙ ap (numbered none) r.0.answer ∙ numbered_done _;
      lent = r.0.lent;
    }
