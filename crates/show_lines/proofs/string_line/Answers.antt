-- `show_lines::string_line` meets its contract, by the state.
-- Assumes nothing.
use native.Mathlib.Omega.{arith}
use Rattle.shown.proofs.PutsLaws.{puts_first}
use Rattle.show_lines.specs.Lines.{string_line}
use Rattle.show_names.proofs.LineLaws.{holds_none}
use Rattle.opened_file.proofs.Laws.{string_inside}
use Rattle.show_lines.proofs.Laws.{part_short}
use Rattle.show_lines.proofs.string_line.Goals as goal

pub string_if_opened-requires : goal.string_if_opened-requires
string_if_opened-requires c = c.args.opened.opened

pub part-requires : goal.part-requires
part-requires c =
    let e = rw c.in-Some-Present.field-0-is at c.in-Some-Present.ensures in
    string_inside _ _ c.args.place _ e

pub put_content-requires : goal.put_content-requires
put_content-requires c = omega (arith, c.requires, part_short c.part.ensures)

pub returns-in-Some-Present : goal.returns-in-Some-Present
unfolding string_line
returns-in-Some-Present c =
    let e = rw c.in-Some-Present.field-0-is at c.in-Some-Present.ensures in
    rw (← e, ← c.part.ensures.bytes) (puts_first c.put_content.ensures (omega (arith, c.requires, part_short c.part.ensures)))

pub returns-in-Some-Cancelled : goal.returns-in-Some-Cancelled
unfolding string_line
returns-in-Some-Cancelled c =
    let e = rw c.in-Some-Cancelled.field-0-is at c.in-Some-Cancelled.ensures in
    rw (← e) (puts_first c.put_named.ensures (omega (arith, c.requires)))

pub returns-in-Some-Absent : goal.returns-in-Some-Absent
unfolding string_line
returns-in-Some-Absent c =
    let e = rw c.in-Some-Absent.field-0-is at c.in-Some-Absent.ensures in
    rw (← e) (holds_none c.args.out.now)

pub returns-in-None : goal.returns-in-None
unfolding string_line
returns-in-None c =
    let e = c.in-None.ensures in
    rw (← e) (holds_none c.args.out.now)
