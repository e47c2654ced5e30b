-- `opened_file::slot_at` meets its contract: past the table, and by the code in it.
use mathlib.Core.Path.{sym}
use Rattle.entry_laws.specs.Slots.{slot_past}
use Rattle.opened_file.proofs.Laws.{slot_absent, slot_cancelled, slot_present}
use Rattle.opened_file.proofs.slot_at.Goals as goal

pub returns-then-n-place : goal.returns-then-n-place
returns-then-n-place c = (sym (slot_past 2 _ _ _ _ c.if-n-place.true), tt)

pub returns-then-c-eq-ABSENT_MARK : goal.returns-then-c-eq-ABSENT_MARK
returns-then-c-eq-ABSENT_MARK c = (slot_absent _ _ _ _ c.if-n-place.false _ c.short_at-c.ensures.0 c.if-c-eq-ABSENT_MARK.true, tt)

pub returns-then-c-eq-CANCELLED_MARK : goal.returns-then-c-eq-CANCELLED_MARK
returns-then-c-eq-CANCELLED_MARK c = (slot_cancelled _ _ _ _ c.if-n-place.false _ c.short_at-c.ensures.0 c.if-c-eq-ABSENT_MARK.false c.if-c-eq-CANCELLED_MARK.true, tt)

pub returns : goal.returns
returns c = (slot_present _ _ _ _ c.if-n-place.false _ c.short_at-c.ensures.0 c.if-c-eq-ABSENT_MARK.false c.if-c-eq-CANCELLED_MARK.false, c.short_at-c.ensures.1)
