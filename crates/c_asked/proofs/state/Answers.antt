-- `c_asked::state` meets its contract: the state of what is found, or 11.
use mathlib.Core.Path.{sym, ap, ◌∙◌}
use Rattle.c_asked.specs.Asked.{found_state}
use Rattle.c_asked.proofs.state.Goals as goal

pub returns-in-Some : goal.returns-in-Some
returns-in-Some c =
    c.state_of.ensures ∙ ap (found_state _ _) (sym c.in-Some.is ∙ c.find-found.ensures)

pub returns-in-None : goal.returns-in-None
returns-in-None c =
    c.refused_number.ensures ∙ rw (c.of_found.ensures, c.in-None.is)
    (ap (found_state _ _) (sym c.in-None.is ∙ c.find-found.ensures))
