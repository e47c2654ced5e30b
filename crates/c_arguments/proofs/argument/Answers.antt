-- `c_arguments::argument` meets its contract, by the kind.
-- Assumes nothing.
use mir.Facts.{to_z-of_z}
use borrow.Author.Tests.{eq-eqb, ne_eqb}
use Rattle.c_arguments.proofs.argument.Goals as goal

pub returns-then-kind-eq0 : goal.returns-then-kind-eq0
returns-then-kind-eq0 c = rw (eq-eqb c.args.kind 0 c.if-kind-eq0.true, to_z-of_z c.ranges.number)

pub returns-else-kind-eq0 : goal.returns-else-kind-eq0
returns-else-kind-eq0 c = rw (ne_eqb c.args.kind 0 c.if-kind-eq0.false)
