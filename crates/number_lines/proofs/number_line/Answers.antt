-- `number_lines::number_line` meets its contract, by the state.
-- Assumes nothing.
use native.Mathlib.Omega.{arith}
use Rattle.shown.proofs.PutsLaws.{puts_first}
use Rattle.number_lines.specs.Numbers.{number_line}
use Rattle.show_names.proofs.LineLaws.{holds_none}
use Rattle.number_lines.proofs.number_line.Goals as goal

pub number_if_opened-requires : goal.number_if_opened-requires
number_if_opened-requires c = c.args.opened.opened

pub returns-in-Some-Present : goal.returns-in-Some-Present
unfolding number_line
returns-in-Some-Present c =
    let e = rw c.in-Some-Present.field-0-is at c.in-Some-Present.ensures in
    rw (← e) (puts_first c.put_value.ensures (omega (arith, c.requires)))

pub returns-in-Some-Cancelled : goal.returns-in-Some-Cancelled
unfolding number_line
returns-in-Some-Cancelled c =
    let e = rw c.in-Some-Cancelled.field-0-is at c.in-Some-Cancelled.ensures in
    rw (← e) (puts_first c.put_named.ensures (omega (arith, c.requires)))

pub returns-in-Some-Absent : goal.returns-in-Some-Absent
unfolding number_line
returns-in-Some-Absent c =
    let e = rw c.in-Some-Absent.field-0-is at c.in-Some-Absent.ensures in
    rw (← e) (holds_none c.args.out.now)

pub returns-in-None : goal.returns-in-None
unfolding number_line
returns-in-None c =
    let e = c.in-None.ensures in
    rw (← e) (holds_none c.args.out.now)
