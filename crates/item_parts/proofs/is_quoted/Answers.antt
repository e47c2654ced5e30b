-- `item_parts::is_quoted` meets its contract: the tests are the definition's, at the bytes read.
-- Assumes nothing.
use borrow.Author.Tests.{eq-eqb, ne_eqb}
use Rattle.item_parts.proofs.is_quoted.Goals as goal

pub returns-then-byte_at-eq0 : goal.returns-then-byte_at-eq0
returns-then-byte_at-eq0 c = rw (← c.byte_at.ensures, eq-eqb c.byte_at.result 0 c.if-byte_at-eq0.true)

pub returns : goal.returns
returns c = rw (← c.byte_at.ensures, ne_eqb c.byte_at.result 0 c.if-byte_at-eq0.false, ← c.byte_at-2.ensures)
