-- `c_asked::find` meets its contract: the capability's number.
use mathlib.Core.Path.{sym, ap, subst, ◌∙◌}
use Rattle.names.specs.Finding.{says_found}
use Rattle.c_numbers.specs.Numbers.{capability_number, FoundWithin}
use Rattle.c_asked.proofs.Laws.{found_within}
use Rattle.c_asked.proofs.find.Goals as goal

pub found_number-requires : goal.found_number-requires
found_number-requires c = subst FoundWithin (sym c.find.ensures) (found_within _ _)

pub returns : goal.returns
returns c = c.found_number.ensures ∙ ap (λ f. capability_number (says_found f)) c.find.ensures
