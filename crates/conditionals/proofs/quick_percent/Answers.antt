-- `conditionals::quick_percent` meets its contract: each arm's byte is a case of the definition.
-- Assumes nothing.
use mathlib.Core.Path.{refl}
use mathlib.Core.List.{[], ◌∷◌}
use Rattle.expansion.specs.declared.Class.TheVariants.{Then, Else, End}
use Rattle.expansion.specs.Items.{singles, found}
use Rattle.expansion.specs.Form.{class_of}
use Rattle.conditionals.proofs.ScanLaws.{pair_told, plain_told}
use Rattle.conditionals.proofs.quick_percent.Goals as goal

pub returns-in-112 : goal.returns-in-112
unfolding singles found class_of
returns-in-112 c = c.quick_argument.ensures c.args.i c.requires.percent c.in-112.is refl

pub returns-in-123 : goal.returns-in-123
unfolding singles found class_of
returns-in-123 c = c.quick_braced.ensures c.args.i c.requires.percent c.in-123.is refl

pub returns-in-37 : goal.returns-in-37
unfolding singles found class_of
returns-in-37 c =
    plain_told _ _ (33 ∷ 37 ∷ 88 ∷ 99 ∷ 105 ∷ 111 ∷ 120 ∷ 126 ∷ []) c.quick_item.ensures c.requires.percent c.in-37.is
    (refl, (refl, (refl, (refl, (refl, (refl, (refl, (refl, tt))))))))

pub returns-in-43 : goal.returns-in-43
unfolding singles found class_of
returns-in-43 c =
    plain_told _ _ (43 ∷ 45 ∷ 47 ∷ 61 ∷ 94 ∷ 109 ∷ 115 ∷ 124 ∷ []) c.quick_item-in-43.ensures c.requires.percent c.in-43.is
    (refl, (refl, (refl, (refl, (refl, (refl, (refl, (refl, tt))))))))

pub returns-in-42 : goal.returns-in-42
unfolding singles found class_of
returns-in-42 c =
    plain_told _ _ (38 ∷ 42 ∷ 60 ∷ 62 ∷ 65 ∷ 79 ∷ 100 ∷ 108 ∷ []) c.quick_item-in-42.ensures c.requires.percent c.in-42.is
    (refl, (refl, (refl, (refl, (refl, (refl, (refl, (refl, tt))))))))

pub returns-in-63 : goal.returns-in-63
unfolding singles found class_of
returns-in-63 c = c.quick_if.ensures c.args.i c.requires.percent c.in-63.is refl

pub returns-in-116 : goal.returns-in-116
unfolding singles found class_of
returns-in-116 c = pair_told _ _ 116 Then c.quick_item-in-116.ensures c.requires.percent c.in-116.is refl

pub returns-in-101 : goal.returns-in-101
unfolding singles found class_of
returns-in-101 c = pair_told _ _ 101 Else c.quick_item-in-101.ensures c.requires.percent c.in-101.is refl

pub returns-in-59 : goal.returns-in-59
unfolding singles found class_of
returns-in-59 c = pair_told _ _ 59 End c.quick_item-in-59.ensures c.requires.percent c.in-59.is refl
