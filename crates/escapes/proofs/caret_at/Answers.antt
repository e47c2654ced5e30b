use borrow.Author.Tests.{eq-eqb, ne_eqb}
use Rattle.text.specs.Strings.{caret_at}
use Rattle.escapes.proofs.caret_at.Goals as goal

pub returns-then-b-eq63 : goal.returns-then-b-eq63
unfolding caret_at
returns-then-b-eq63 c = rw (← c.byte_at-b.ensures) (simp (eq-eqb _ _ c.if-b-eq63.true))

pub returns-then-is_control : goal.returns-then-is_control
unfolding caret_at
returns-then-is_control c = rw (← c.byte_at-b.ensures) (simp (ne_eqb _ _ c.if-b-eq63.false, ← c.is_control.ensures, c.if-is_control.true))

pub returns : goal.returns
unfolding caret_at
returns c = rw (← c.byte_at-b.ensures) (simp (ne_eqb _ _ c.if-b-eq63.false, ← c.is_control.ensures, c.if-is_control.false))
