-- `bad_slots::boolean_slot` meets its contract.
use borrow.Author.Tests.{lt-ltb, le-ltb}
use Rattle.bad_slots.proofs.boolean_slot.Goals as goal

pub returns-then-index-s : goal.returns-then-index-s
returns-then-index-s c = rw (lt-ltb _ _ c.if-index-s.true)

pub returns : goal.returns
returns c = rw (le-ltb _ _ c.if-index-s.false)
