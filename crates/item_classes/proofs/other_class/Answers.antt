-- `item_classes::other_class` meets its contract: the tests are the definition's, at the byte read.
-- Assumes nothing.
use borrow.Author.Tests.{eq-eqb, ne_eqb}
use mathlib.Core.Path.{sym, ◌∙◌}
use mathlib.Core.Bool.{true, false}
use Rattle.expansion.specs.Form.{class_of}
use Rattle.item_classes.proofs.other_class.Goals as goal

pub returns-then-c-eq48 : goal.returns-then-c-eq48
returns-then-c-eq48 c = rw (← c.byte_at-c.ensures, eq-eqb c.byte_at-c.result 48 c.if-c-eq48.true) (c.width_class.ensures true)

pub returns-then-is_nonzero : goal.returns-then-is_nonzero
returns-then-is_nonzero c = rw (← c.byte_at-c.ensures, ne_eqb c.byte_at-c.result 48 c.if-c-eq48.false, sym c.is_nonzero.ensures ∙ c.if-is_nonzero.true) (c.width_class-then-is_nonzero.ensures false)

pub returns : goal.returns
unfolding class_of
returns c = rw (← c.byte_at-c.ensures, ne_eqb c.byte_at-c.result 48 c.if-c-eq48.false, sym c.is_nonzero.ensures ∙ c.if-is_nonzero.false)
