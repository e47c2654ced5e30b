-- `variables::store` meets its contract: capital letters are the lasting variables.
-- Assumes nothing.
use mir.Facts.{to_z-of_z}
use borrow.Author.Tests.{le-leb, lt-leb}
use Rattle.expansion.specs.Machine.{stored}
use Rattle.variables.proofs.store.Goals as goal

pub returns-then-c-le90 : goal.returns-then-c-le90
unfolding stored
returns-then-c-le90 c st a =
    rw (c.set_value.ensures, to_z-of_z c.ranges.v, c.letter_place.ensures, le-leb c.args.c 90 c.if-c-le90.true)

pub returns-else-c-le90 : goal.returns-else-c-le90
unfolding stored
returns-else-c-le90 c st a =
    rw (c.set_value-else-c-le90.ensures, to_z-of_z c.ranges.v, c.letter_place-else-c-le90.ensures, lt-leb c.args.c 90 c.if-c-le90.false)
