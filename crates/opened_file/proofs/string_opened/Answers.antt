-- `opened_file::string_opened` meets its contract: a place beyond the edition, and what the slot's offset gives.
use mathlib.Core.Path.{sym, ap, ◌∙◌}
use borrow.Author.Tests.{le-ltb}
use Rattle.entry.specs.declared.Part.{Part}
use Rattle.entry.specs.State.{present}
use Rattle.base.specs.Answer.{gives}
use Rattle.entry.specs.Says.{state_meant}
use Rattle.opened_file.proofs.Laws.{asking_unknown, asked_string, string_ends}
use Rattle.opened_file.proofs.string_opened.Goals as goal

pub returns-then-edition-place : goal.returns-then-edition-place
returns-then-edition-place c = asking_unknown _ _ _ _ (le-ltb _ _ c.if-edition-place.true)

pub content_at-requires : goal.content_at-requires
content_at-requires c =
    let q = ap state_meant (sym c.in-Present.is) ∙ c.offset_at.ensures in
    (c.requires, string_ends c.requires c.args.place _ q)

pub returns-in-Absent : goal.returns-in-Absent
returns-in-Absent c = asked_string c.requires c.args.place _ c.if-edition-place.false (ap state_meant (sym c.in-Absent.is) ∙ c.offset_at.ensures)

pub returns-in-Cancelled : goal.returns-in-Cancelled
returns-in-Cancelled c = asked_string c.requires c.args.place _ c.if-edition-place.false (ap state_meant (sym c.in-Cancelled.is) ∙ c.offset_at.ensures)

pub returns-in-Present : goal.returns-in-Present
returns-in-Present c =
    ap (λ (r : Part). gives (present r)) c.content_at.ensures
    ∙ asked_string c.requires c.args.place _ c.if-edition-place.false (ap state_meant (sym c.in-Present.is) ∙ c.offset_at.ensures)
