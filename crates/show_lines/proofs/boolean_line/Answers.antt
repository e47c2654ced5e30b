-- `show_lines::boolean_line` meets its contract, by the state.
-- Assumes nothing.
use native.Mathlib.Omega.{arith}
use Rattle.shown.proofs.PutsLaws.{puts_first}
use Rattle.show_lines.specs.Lines.{boolean_line}
use Rattle.show_names.proofs.LineLaws.{holds_none}
use Rattle.show_lines.proofs.boolean_line.Goals as goal

pub boolean_if_opened-requires : goal.boolean_if_opened-requires
boolean_if_opened-requires c = c.args.opened.opened

pub returns-in-Some-Present : goal.returns-in-Some-Present
unfolding boolean_line
returns-in-Some-Present c =
    let e = rw c.in-Some-Present.field-0-is at c.in-Some-Present.ensures in
    rw (← e) (puts_first c.put_named.ensures (omega (arith, c.requires)))

pub returns-in-Some-Cancelled : goal.returns-in-Some-Cancelled
unfolding boolean_line
returns-in-Some-Cancelled c =
    let e = rw c.in-Some-Cancelled.field-0-is at c.in-Some-Cancelled.ensures in
    rw (← e) (puts_first c.put_named-in-Some-Cancelled.ensures (omega (arith, c.requires)))

pub returns-in-Some-Absent : goal.returns-in-Some-Absent
unfolding boolean_line
returns-in-Some-Absent c =
    let e = rw c.in-Some-Absent.field-0-is at c.in-Some-Absent.ensures in
    rw (← e) (holds_none c.args.out.now)

pub returns-in-None : goal.returns-in-None
unfolding boolean_line
returns-in-None c =
    let e = c.in-None.ensures in
    rw (← e) (holds_none c.args.out.now)
