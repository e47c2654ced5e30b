-- `entry_numbers::beyond_in` meets its contract: 17 where opening gives other numbers, else what opening gives.
use mathlib.Core.Path.{sym, ap, ◌∙◌}
use Rattle.opened_file.proofs.Laws.{opened_err}
use Rattle.entry_numbers.proofs.Laws.{asked_opened, asked_other, beyond_given, given_by}
use Rattle.entry_numbers.proofs.beyond_in.Goals as goal

pub returns-in_err-opened_as : goal.returns-in_err-opened_as
returns-in_err-opened_as c = rw c.from_residual.ensures (sym (asked_other _ _ _ c.in_err-opened_as.ensures))

pub returns-in_err-opening : goal.returns-in_err-opening
returns-in_err-opening c =
    rw c.from_residual-in_err-opening.ensures
    (opened_err _ _ _ c.in_ok-opened_as.ensures.0 _ _ c.in_err-opening.ensures.value
    ∙ sym (asked_opened _ _ _ _ c.in_ok-opened_as.ensures))

pub returns : goal.returns
returns c =
    beyond_given _ _ _ _ (given_by _ _ _ c.in_ok-opened_as.ensures.0 _ c.in_ok-opening.ensures.value)
    ∙ sym (asked_opened _ _ _ _ c.in_ok-opened_as.ensures)
