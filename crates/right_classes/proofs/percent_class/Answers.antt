-- `right_classes::percent_class` meets its contract: each arm is a case of the definition, and what that tests for
-- holds in a right item.
-- Assumes nothing.
use mathlib.Core.Path.{refl, ap, ◌∙◌}
use mathlib.Core.Bool.{true, false}
use mathlib.Core.Logic.{◌⊎◌, inl, inr}
use Prim.Native.Nat.{◌<◌, ◌≤◌}
use native.Mathlib.Omega.{arith}
use borrow.Author.Rules.{rules}
use Rattle.expansion.specs.Items.{byte_at, singles, found}
use Rattle.expansion.specs.Form.{class_of}
use Rattle.item_parts.specs.Classes.{item_class}
use Rattle.item_parts.proofs.Cases.{percent_byte}
use Rattle.right_classes.proofs.PartLaws.{argument_plain, quoted_plain, store_plain, load_plain, braced_plain}
use Rattle.right_classes.proofs.PartLaws.{braced_closed, plain_to, plain_as, width_plain, right_as, digit_width}
use Rattle.right_classes.proofs.PartLaws.{single_plain, percent_inside}
use Rattle.right_classes.proofs.percent_class.Goals as goal

pub bounds-s-j : goal.bounds-s-j
bounds-s-j c = percent_inside _ _ c.requires

pub overflow_add-j : goal.overflow_add-j
overflow_add-j c = omega (arith, percent_inside _ _ c.requires)

pub overflow_add-j-in-116 : goal.overflow_add-j-in-116
overflow_add-j-in-116 c = omega (arith, percent_inside _ _ c.requires)

pub overflow_add-j-in-101 : goal.overflow_add-j-in-101
overflow_add-j-in-101 c = omega (arith, percent_inside _ _ c.requires)

pub overflow_add-j-in-59 : goal.overflow_add-j-in-59
overflow_add-j-in-59 c = omega (arith, percent_inside _ _ c.requires)

pub overflow_add-j-in-112 : goal.overflow_add-j-in-112
overflow_add-j-in-112 c = omega (arith, percent_inside _ _ c.requires)

pub overflow_add-j-in-80 : goal.overflow_add-j-in-80
overflow_add-j-in-80 c = omega (arith, percent_inside _ _ c.requires)

pub overflow_add-j-in-103 : goal.overflow_add-j-in-103
overflow_add-j-in-103 c = omega (arith, percent_inside _ _ c.requires)

pub overflow_add-j-in-39 : goal.overflow_add-j-in-39
overflow_add-j-in-39 c = omega (arith, percent_inside _ _ c.requires)

pub overflow_add-j-in-123 : goal.overflow_add-j-in-123
overflow_add-j-in-123 c = omega (arith, percent_inside _ _ c.requires)

pub braced_end-requires : goal.braced_end-requires
braced_end-requires c =
    let e = percent_byte _ _ refl 123 c.in-123.is in
    braced_closed _ _ (right_as e c.requires)

pub overflow_add-j-in-48 : goal.overflow_add-j-in-48
overflow_add-j-in-48 c = omega (arith, percent_inside _ _ c.requires)

pub width_end-requires : goal.width_end-requires
width_end-requires c =
    let e = percent_byte _ _ refl 48 c.in-48.is in
    (true, right_as e c.requires)

pub width_end-requires-in-49-to-57 : goal.width_end-requires-in-49-to-57
width_end-requires-in-49-to-57 c =
    let e = digit_width _ _ (search rules) (omega arith) (omega arith) in
    (false, right_as e c.requires)

pub overflow_add-j-in_default : goal.overflow_add-j-in_default
overflow_add-j-in_default c = omega (arith, percent_inside _ _ c.requires)

pub returns-in-63 : goal.returns-in-63
unfolding singles found class_of
returns-in-63 c = c.classed.ensures ∙ ap item_class (percent_byte _ _ refl 63 c.in-63.is)

pub returns-in-116 : goal.returns-in-116
unfolding singles found class_of
returns-in-116 c = c.classed-in-116.ensures ∙ ap item_class (percent_byte _ _ refl 116 c.in-116.is)

pub returns-in-101 : goal.returns-in-101
unfolding singles found class_of
returns-in-101 c = c.classed-in-101.ensures ∙ ap item_class (percent_byte _ _ refl 101 c.in-101.is)

pub returns-in-59 : goal.returns-in-59
unfolding singles found class_of
returns-in-59 c = c.classed-in-59.ensures ∙ ap item_class (percent_byte _ _ refl 59 c.in-59.is)

pub returns-in-112 : goal.returns-in-112
returns-in-112 c =
    let e = percent_byte _ _ refl 112 c.in-112.is in
    c.classed-in-112.ensures ∙ plain_as _ e c.requires (argument_plain _ _)

pub returns-in-80 : goal.returns-in-80
returns-in-80 c =
    let e = percent_byte _ _ refl 80 c.in-80.is in
    c.classed-in-80.ensures ∙ plain_as _ e c.requires (store_plain _ _)

pub returns-in-103 : goal.returns-in-103
returns-in-103 c =
    let e = percent_byte _ _ refl 103 c.in-103.is in
    c.classed-in-103.ensures ∙ plain_as _ e c.requires (load_plain _ _)

pub returns-in-39 : goal.returns-in-39
returns-in-39 c =
    let e = percent_byte _ _ refl 39 c.in-39.is in
    c.classed-in-39.ensures ∙ plain_as _ e c.requires (quoted_plain _ _)

pub returns-in-123 : goal.returns-in-123
returns-in-123 c =
    let e = percent_byte _ _ refl 123 c.in-123.is in
    c.classed-in-123.ensures ∙ ap plain_to c.braced_end.ensures
    ∙ plain_as _ e c.requires (braced_plain _ _)

pub returns-in-48 : goal.returns-in-48
returns-in-48 c =
    let e = percent_byte _ _ refl 48 c.in-48.is in
    c.classed-in-48.ensures
    ∙ width_plain _ _ true _ e c.requires c.width_end.ensures

pub returns-in-49-to-57 : goal.returns-in-49-to-57
returns-in-49-to-57 c =
    let e = digit_width _ _ (search rules) (omega arith) (omega arith) in
    c.classed-in-49-to-57.ensures
    ∙ width_plain _ _ false _ e c.requires
    c.width_end-in-49-to-57.ensures

pub returns-in_default : goal.returns-in_default
returns-in_default c =
    let h : (byte_at c.args.s.now c.args.j < 48) ⊎ (58 ≤ byte_at c.args.s.now c.args.j) =
    elim c.in_default.branch [
      | goal.in_default-via-then-c-lt48 w ↦ inl (omega arith)
      | goal.in_default-via-else-c-lt48+else-c-lt58 w ↦ inr (omega arith)
    ] in
    c.classed-in_default.ensures
    ∙ single_plain _ _ (search rules) h c.requires
