-- `opened_file::number_opened` meets its contract: a place beyond the edition, and what the slot says.
use mathlib.Core.Path.{sym, ap, ◌∙◌, subst}
use native.Mathlib.Omega.{arith}
use borrow.Author.Tests.{le-ltb}
use Rattle.file_tables.proofs.Laws.{at_numbers, in_numbers_lem}
use Rattle.entry.specs.Says.{state_meant}
use Rattle.opened_file.specs.Opened.{CodeFits}
use Rattle.opened_file.proofs.Laws.{asking_unknown, framed, asked_number}
use Rattle.opened_file.proofs.number_opened.Goals as goal

pub returns-then-edition-place : goal.returns-then-edition-place
returns-then-edition-place c = asking_unknown _ _ _ _ (le-ltb _ _ c.if-edition-place.true)

pub slot_at-requires : goal.slot_at-requires
slot_at-requires c =
    let k = framed c.requires in
    let a = at_numbers k in
    let n = in_numbers_lem k in
    let l = k.size in
    omega arith

pub overflow_cast-result : goal.overflow_cast-result
overflow_cast-result c = let h = subst CodeFits c.in-Present.is c.slot_at.ensures.1 in omega arith

pub returns-in-Absent : goal.returns-in-Absent
returns-in-Absent c = asked_number c.requires c.args.place _ c.if-edition-place.false (ap state_meant (sym c.in-Absent.is) ∙ c.slot_at.ensures.0)

pub returns-in-Cancelled : goal.returns-in-Cancelled
returns-in-Cancelled c = asked_number c.requires c.args.place _ c.if-edition-place.false (ap state_meant (sym c.in-Cancelled.is) ∙ c.slot_at.ensures.0)

pub returns-in-Present : goal.returns-in-Present
returns-in-Present c = asked_number c.requires c.args.place _ c.if-edition-place.false (ap state_meant (sym c.in-Present.is) ∙ c.slot_at.ensures.0)
