use native.Mathlib.Omega.{arith}
use Rattle.std.proofs.lemmas.Bool.Decides.{nat_tests}
use Rattle.std.proofs.lemmas.Grind.{common_steps}
use Rattle.text.specs.Strings.{string_item_at}
use Rattle.escapes.proofs.item_at.Goals as goal

pub returns-in-44 : goal.returns-in-44
unfolding string_item_at
returns-in-44 c = rw c.in-44.is

pub returns-in-92 : goal.returns-in-92
unfolding string_item_at
returns-in-92 c = rw (c.in-92.is, c.escape_at.ensures)

pub returns-in-94 : goal.returns-in-94
unfolding string_item_at
returns-in-94 c = rw (c.in-94.is, c.caret_at.ensures)

pub returns-in-10 : goal.returns-in-10
unfolding string_item_at
returns-in-10 c = rw (c.in-10.is, c.line_end_at.ensures)

pub returns-in_default : goal.returns-in_default
unfolding string_item_at
returns-in_default c = grind (arith, nat_tests, common_steps)

pub returns-in_default-2 : goal.returns-in_default-2
unfolding string_item_at
returns-in_default-2 c = grind (arith, nat_tests, common_steps)

pub returns-in-32-to-126 : goal.returns-in-32-to-126
unfolding string_item_at
returns-in-32-to-126 c = grind (arith, nat_tests, common_steps)
