-- `item_classes::quoted_class` meets its contract: the test is the definition's.
-- Assumes nothing.
use mathlib.Core.Path.{sym, ◌∙◌}
use Rattle.expansion.specs.Items.{quoted_at}
use Rattle.expansion.specs.Form.{class_of}
use Rattle.item_classes.proofs.quoted_class.Goals as goal

pub returns-then-is_quoted : goal.returns-then-is_quoted
unfolding quoted_at class_of
returns-then-is_quoted c = rw (sym c.is_quoted.ensures ∙ c.if-is_quoted.true)

pub returns-else-is_quoted : goal.returns-else-is_quoted
unfolding quoted_at class_of
returns-else-is_quoted c = rw (sym c.is_quoted.ensures ∙ c.if-is_quoted.false)
