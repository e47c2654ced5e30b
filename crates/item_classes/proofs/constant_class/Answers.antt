-- `item_classes::constant_class` meets its contract: the constant that was found is the definition's.
-- Assumes nothing.
use mathlib.Core.Path.{sym, ap, ◌∙◌}
use Rattle.expansion.specs.Form.{class_of}
use Rattle.item_parts.specs.Classes.{item_class, lexed_constant}
use Rattle.item_classes.proofs.constant_class.Goals as goal

pub returns-in-Some : goal.returns-in-Some
unfolding class_of
returns-in-Some c = ap (λ b. item_class (lexed_constant b c.args.j)) (sym c.in-Some.is) ∙ ap item_class c.braced_at.ensures

pub returns-in-None : goal.returns-in-None
unfolding class_of
returns-in-None c = ap (λ b. item_class (lexed_constant b c.args.j)) (sym c.in-None.is) ∙ ap item_class c.braced_at.ensures
