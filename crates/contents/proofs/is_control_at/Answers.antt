use borrow.Author.Tests.{eq-eqb, ne_eqb}
use Rattle.contents.specs.Usual.{is_control_at}
use Rattle.contents.proofs.is_control_at.Goals as goal

pub returns-then-text-at-eq94 : goal.returns-then-text-at-eq94
unfolding is_control_at
returns-then-text-at-eq94 c = rw (eq-eqb _ 94 c.if-text-at-eq94.true, c.is_control.ensures, c.byte_at.ensures)

pub returns : goal.returns
unfolding is_control_at
returns c = rw (ne_eqb _ 94 c.if-text-at-eq94.false)
