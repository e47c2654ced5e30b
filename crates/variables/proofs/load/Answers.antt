-- `variables::load` meets its contract: capital letters are the lasting variables.
-- Assumes nothing.
use mathlib.Core.Path.{◌∙◌}
use borrow.Author.Tests.{le-leb, lt-leb}
use Rattle.signed.proofs.Laws.{again}
use Rattle.expansion.specs.Machine.{loaded}
use Rattle.variables.proofs.load.Goals as goal

pub returns-then-c-le90 : goal.returns-then-c-le90
unfolding loaded
returns-then-c-le90 c st a =
    again _ c.value_at.type_inv ∙ c.value_at.ensures ∙ rw (c.letter_place.ensures, le-leb c.args.c 90 c.if-c-le90.true)

pub returns-else-c-le90 : goal.returns-else-c-le90
unfolding loaded
returns-else-c-le90 c st a =
    again _ c.value_at-else-c-le90.type_inv ∙ c.value_at-else-c-le90.ensures ∙ rw (c.letter_place-else-c-le90.ensures, lt-leb c.args.c 90 c.if-c-le90.false)
