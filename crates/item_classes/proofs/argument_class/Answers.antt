-- `item_classes::argument_class` meets its contract: the test is the definition's, at the byte read.
-- Assumes nothing.
use mathlib.Core.Path.{sym, ◌∙◌}
use Rattle.expansion.specs.Items.{argument_at}
use Rattle.expansion.specs.Form.{class_of}
use Rattle.item_classes.proofs.argument_class.Goals as goal

pub returns-then-is_nonzero : goal.returns-then-is_nonzero
unfolding argument_at class_of
returns-then-is_nonzero c = rw (← c.byte_at.ensures, sym c.is_nonzero.ensures ∙ c.if-is_nonzero.true)

pub returns-else-is_nonzero : goal.returns-else-is_nonzero
unfolding argument_at class_of
returns-else-is_nonzero c = rw (← c.byte_at.ensures, sym c.is_nonzero.ensures ∙ c.if-is_nonzero.false)
