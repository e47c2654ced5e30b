-- `conditionals::nest` meets its contract: the tests are the definition's.
-- Assumes nothing.
use Prim.Native.Nat.{◌%◌}
use borrow.Author.Tests.{lt-ltb, le-ltb, eq-eqb, ne_eqb}
use Rattle.conditionals.specs.Walk.{nested}
use Rattle.conditionals.proofs.nest.Goals as goal

pub returns-in-Plain : goal.returns-in-Plain
unfolding nested
returns-in-Plain c = rw c.in-Plain.is

pub returns-then-kept-lt-NEST_FULL : goal.returns-then-kept-lt-NEST_FULL
unfolding nested
returns-then-kept-lt-NEST_FULL c = rw (c.in-If.is, lt-ltb c.args.kept 1073741824 c.if-kept-lt-NEST_FULL.true)

pub returns-else-kept-lt-NEST_FULL : goal.returns-else-kept-lt-NEST_FULL
unfolding nested
returns-else-kept-lt-NEST_FULL c = rw (c.in-If.is, le-ltb c.args.kept 1073741824 c.if-kept-lt-NEST_FULL.false)

pub returns-then-kept-eq1 : goal.returns-then-kept-eq1
unfolding nested
returns-then-kept-eq1 c = rw (c.in-Then.is, eq-eqb (c.args.kept % 2) 1 c.if-kept-eq1.true)

pub returns-else-kept-eq1 : goal.returns-else-kept-eq1
unfolding nested
returns-else-kept-eq1 c = rw (c.in-Then.is, ne_eqb (c.args.kept % 2) 1 c.if-kept-eq1.false)

pub returns-then-kept-eq2 : goal.returns-then-kept-eq2
unfolding nested
returns-then-kept-eq2 c = rw (c.in-Else.is, eq-eqb (c.args.kept % 4) 2 c.if-kept-eq2.true)

pub returns-else-kept-eq2 : goal.returns-else-kept-eq2
unfolding nested
returns-else-kept-eq2 c = rw (c.in-Else.is, ne_eqb (c.args.kept % 4) 2 c.if-kept-eq2.false)

pub returns-then-kept-lt2 : goal.returns-then-kept-lt2
unfolding nested
returns-then-kept-lt2 c = rw (c.in-End.is, lt-ltb (c.args.kept % 4) 2 c.if-kept-lt2.true)

pub returns-else-kept-lt2 : goal.returns-else-kept-lt2
unfolding nested
returns-else-kept-lt2 c = rw (c.in-End.is, le-ltb (c.args.kept % 4) 2 c.if-kept-lt2.false)

pub returns-in-Wrong : goal.returns-in-Wrong
unfolding nested
returns-in-Wrong c = rw c.in-Wrong.is
