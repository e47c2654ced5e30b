-- `states::names` meets its contract: by what opening answers.
use Rattle.opened_file.proofs.Laws.{opened_ok, opened_err}
use Rattle.states.proofs.names.Goals as goal

pub names_opened-requires : goal.names_opened-requires
names_opened-requires c = opened_ok _ _ _ c.«open».ensures _ c.in_ok-opened.ensures.value

pub returns-in_err-opened : goal.returns-in_err-opened
returns-in_err-opened c = rw c.from_residual.ensures (opened_err _ _ _ c.«open».ensures _ _ c.in_err-opened.ensures.value)
