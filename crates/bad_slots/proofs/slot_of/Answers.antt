-- `bad_slots::slot_of` meets its contract, case by case.
use Rattle.entry.specs.Layout.{tables_of}
use Rattle.bad_slots.proofs.slot_of.Goals as goal

pub returns-in-Boolean : goal.returns-in-Boolean
unfolding tables_of
returns-in-Boolean c =
    rw (
      c.in-Boolean.is,
      c.boolean_slot.ensures,
      c.saturating_sub.ensures,
      c.tables_for-t.ensures,
    )

pub returns-in-Number : goal.returns-in-Number
unfolding tables_of
returns-in-Number c =
    rw (
      c.in-Number.is,
      c.saturating_sub-index.ensures,
      c.tables_for-t.ensures,
    )

pub returns-in-Slot : goal.returns-in-Slot
unfolding tables_of
returns-in-Slot c =
    rw (
      c.in-Slot.is,
      c.saturating_sub-index-in-Slot.ensures,
      c.tables_for-t.ensures,
    )
