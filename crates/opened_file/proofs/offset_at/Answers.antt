-- `opened_file::offset_at` meets its contract: what the slot says, as an offset.
use mathlib.Core.Path.{sym, ap, ◌∙◌}
use native.Mathlib.Omega.{arith}
use Rattle.file_tables.proofs.Laws.{at_strings, in_strings_lem}
use Rattle.entry.specs.Says.{state_meant}
use Rattle.opened_file.proofs.Laws.{framed, opened_offset}
use Rattle.opened_file.proofs.offset_at.Goals as goal

pub slot_at-requires : goal.slot_at-requires
slot_at-requires c =
    let k = framed c.requires in
    let a = at_strings k in
    let n = in_strings_lem k in
    let l = k.size in
    omega arith

pub returns-in-Absent : goal.returns-in-Absent
returns-in-Absent c = opened_offset c.requires c.args.place _ (ap state_meant (sym c.in-Absent.is) ∙ c.slot_at.ensures.0)

pub returns-in-Cancelled : goal.returns-in-Cancelled
returns-in-Cancelled c = opened_offset c.requires c.args.place _ (ap state_meant (sym c.in-Cancelled.is) ∙ c.slot_at.ensures.0)

pub returns-in-Present : goal.returns-in-Present
returns-in-Present c = opened_offset c.requires c.args.place _ (ap state_meant (sym c.in-Present.is) ∙ c.slot_at.ensures.0)
