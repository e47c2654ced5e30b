-- `right_classes::class_at` meets its contract: the byte read tells whether the item starts with `%`.
-- Assumes nothing.
use mathlib.Core.Path.{◌∙◌}
use Rattle.right_classes.proofs.PartLaws.{percent_right, percent_class, item_byte}
use Rattle.right_classes.proofs.class_at.Goals as goal

pub percent_class-requires : goal.percent_class-requires
percent_class-requires c = percent_right _ _ c.requires c.if-s-i-eq37.true

pub returns-then-s-i-eq37 : goal.returns-then-s-i-eq37
returns-then-s-i-eq37 c =
    c.percent_class.ensures ∙ percent_class _ _ c.requires c.if-s-i-eq37.true

pub returns : goal.returns
returns c = c.classed.ensures ∙ item_byte _ _ c.requires c.if-s-i-eq37.false
