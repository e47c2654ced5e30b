use borrow.Author.Tests.{eq-eqb, ne_eqb}
use Rattle.contents.specs.Usual.{pair_of}
use Rattle.contents.proofs.pair.Goals as goal

pub returns-then-text-at-eq94 : goal.returns-then-text-at-eq94
unfolding pair_of
returns-then-text-at-eq94 c = rw (eq-eqb _ 94 c.if-text-at-eq94.true, c.byte_at.ensures)

pub returns : goal.returns
unfolding pair_of
returns c = rw (ne_eqb _ 94 c.if-text-at-eq94.false)
