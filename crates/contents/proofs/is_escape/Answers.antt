use borrow.Author.Tests.{eq-eqb, ne_eqb}
use Rattle.contents.specs.Usual.{is_escape}
use Rattle.contents.proofs.is_escape.Goals as goal

pub returns-then-text-at-eq92 : goal.returns-then-text-at-eq92
unfolding is_escape
returns-then-text-at-eq92 c = rw (eq-eqb _ 92 c.if-text-at-eq92.true, c.byte_at.ensures)

pub returns : goal.returns
unfolding is_escape
returns c = rw (ne_eqb _ 92 c.if-text-at-eq92.false)
