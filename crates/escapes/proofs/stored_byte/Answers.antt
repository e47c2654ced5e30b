use borrow.Author.Tests.{eq-eqb, ne_eqb}
use Rattle.text.specs.Strings.{stored_byte}
use Rattle.escapes.proofs.stored_byte.Goals as goal

pub returns-then-b-eq0 : goal.returns-then-b-eq0
unfolding stored_byte
returns-then-b-eq0 c = simp (eq-eqb _ _ c.if-b-eq0.true)

pub returns-else-b-eq0 : goal.returns-else-b-eq0
unfolding stored_byte
returns-else-b-eq0 c = simp (ne_eqb _ _ c.if-b-eq0.false)
