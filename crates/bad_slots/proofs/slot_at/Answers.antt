-- `bad_slots::slot_at` meets its contract: by the sizes in the header.
use borrow.Author.Tests.{lt-ltb, le-ltb}
use Rattle.bad_slots.proofs.slot_at.Goals as goal

pub returns-then-file-lt-HEADER_SIZE : goal.returns-then-file-lt-HEADER_SIZE
returns-then-file-lt-HEADER_SIZE c = rw (lt-ltb _ _ c.if-file-lt-HEADER_SIZE.true)

pub returns : goal.returns
returns c =
    rw (c.slot_of.ensures, c.sizes.ensures.0, le-ltb _ _ c.if-file-lt-HEADER_SIZE.false)
