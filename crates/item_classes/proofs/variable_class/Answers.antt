-- `item_classes::variable_class` meets its contract: the test is that of both definitions, at the byte read.
-- Assumes nothing.
use mathlib.Core.Path.{sym, ◌∙◌}
use Rattle.expansion.specs.Items.{store_at, load_at}
use Rattle.expansion.specs.Form.{class_of}
use Rattle.item_classes.proofs.variable_class.Goals as goal

pub returns-then-is_letter : goal.returns-then-is_letter
unfolding store_at load_at class_of
returns-then-is_letter c = let e = sym c.is_letter.ensures ∙ c.if-is_letter.true in (rw (← c.byte_at.ensures, e), rw (← c.byte_at.ensures, e))

pub returns-else-is_letter : goal.returns-else-is_letter
unfolding store_at load_at class_of
returns-else-is_letter c = let e = sym c.is_letter.ensures ∙ c.if-is_letter.false in (rw (← c.byte_at.ensures, e), rw (← c.byte_at.ensures, e))
