-- `opened_file::boolean_of` meets its contract.
use borrow.Author.Tests.{eq-eqb, ne_eqb}
use Rattle.entry.specs.State.{boolean_of}
use Rattle.opened_file.proofs.boolean_of.Goals as goal

pub returns-then-c-eq0 : goal.returns-then-c-eq0
unfolding boolean_of
returns-then-c-eq0 c = rw (eq-eqb _ _ c.if-c-eq0.true)

pub returns-then-c-eq-CANCELLED_BYTE : goal.returns-then-c-eq-CANCELLED_BYTE
unfolding boolean_of
returns-then-c-eq-CANCELLED_BYTE c = rw (ne_eqb _ _ c.if-c-eq0.false, eq-eqb _ _ c.if-c-eq-CANCELLED_BYTE.true)

pub returns : goal.returns
unfolding boolean_of
returns c = rw (ne_eqb _ _ c.if-c-eq0.false, ne_eqb _ _ c.if-c-eq-CANCELLED_BYTE.false)
