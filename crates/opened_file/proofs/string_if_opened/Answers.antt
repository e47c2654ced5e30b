-- `opened_file::string_if_opened` meets its contract: by what opening answered.
use Rattle.opened_file.proofs.Laws.{opened_ok, opened_err}
use Rattle.opened_file.proofs.string_if_opened.Goals as goal

pub string_opened-requires : goal.string_opened-requires
string_opened-requires c = opened_ok _ _ c.args.o c.requires _ c.in_ok-opened.ensures.value

pub returns-in_err-opened : goal.returns-in_err-opened
returns-in_err-opened c = rw c.from_residual.ensures (opened_err _ _ c.args.o c.requires _ _ c.in_err-opened.ensures.value)
