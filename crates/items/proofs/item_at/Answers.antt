-- `items::item_at` meets its contract: each arm's byte is a case of the definition, whose tests hold, since the item is right.
-- Assumes nothing.
use mathlib.Core.Path.{◌≡◌, refl, ◌∙◌}
use Prim.Native.Nat.{◌+◌, ◌≤◌, ◌<◌}
use native.Mathlib.Omega.{arith}
use lib.ListN.{length}
use mir.Syntax.{w32}
use mir.Facts.{to_z_pos}
use Rattle.expansion.specs.declared.Item.TheVariants as I
use Rattle.expansion.specs.Items.{byte_at, singles, found, argument_at, quoted_at, percent_at, item_at}
use Rattle.item_parts.proofs.Cases.{percent_byte}
use Rattle.items.specs.Parts.{Right, LeftToOther}
use Rattle.items.proofs.Laws.{right_as, percent_inside, braced_known, percent_known, item_byte, item_percent, read_other, single_read, argument_digit, argument_inside, argument_read, quoted_inside, quoted_read}
use Rattle.items.proofs.item_at.Goals as goal

pub returns-then-c-ne37 : goal.returns-then-c-ne37
returns-then-c-ne37 c =
    (item_byte c.args.s.now c.args.i c.requires c.if-c-ne37.true, tt)

-- the item behind a `%`
pub bounds-s-i-2 : goal.bounds-s-i-2
bounds-s-i-2 c =
    let percent : percent_at c.args.s.now (c.args.i + 1) ≡ item_at c.args.s.now c.args.i = item_percent c.args.s.now c.args.i c.requires c.if-c-ne37.false in
    let right : Right (percent_at c.args.s.now (c.args.i + 1)) = right_as percent c.requires.right in
    percent_inside c.args.s.now (c.args.i + 1) right

pub bounds-s-i-in-112 : goal.bounds-s-i-in-112
bounds-s-i-in-112 c =
    let percent : percent_at c.args.s.now (c.args.i + 1) ≡ item_at c.args.s.now c.args.i = item_percent c.args.s.now c.args.i c.requires c.if-c-ne37.false in
    let right : Right (percent_at c.args.s.now (c.args.i + 1)) = right_as percent c.requires.right in
    let argument : Right (argument_at c.args.s.now (c.args.i + 1)) = right_as (percent_byte c.args.s.now (c.args.i + 1) refl 112 c.in-112.is) right in
    argument_inside c.args.s.now c.args.i argument

pub overflow_sub-result : goal.overflow_sub-result
overflow_sub-result c =
    let percent : percent_at c.args.s.now (c.args.i + 1) ≡ item_at c.args.s.now c.args.i = item_percent c.args.s.now c.args.i c.requires c.if-c-ne37.false in
    let right : Right (percent_at c.args.s.now (c.args.i + 1)) = right_as percent c.requires.right in
    let argument : Right (argument_at c.args.s.now (c.args.i + 1)) = right_as (percent_byte c.args.s.now (c.args.i + 1) refl 112 c.in-112.is) right in
    let digit : (49 ≤ byte_at c.args.s.now (c.args.i + 2)) × (byte_at c.args.s.now (c.args.i + 2) ≤ 57) = argument_digit c.args.s.now c.args.i argument in
    digit.0

pub overflow_cast-result : goal.overflow_cast-result
overflow_cast-result c =
    let percent : percent_at c.args.s.now (c.args.i + 1) ≡ item_at c.args.s.now c.args.i = item_percent c.args.s.now c.args.i c.requires c.if-c-ne37.false in
    let right : Right (percent_at c.args.s.now (c.args.i + 1)) = right_as percent c.requires.right in
    let argument : Right (argument_at c.args.s.now (c.args.i + 1)) = right_as (percent_byte c.args.s.now (c.args.i + 1) refl 112 c.in-112.is) right in
    let digit : (49 ≤ byte_at c.args.s.now (c.args.i + 2)) × (byte_at c.args.s.now (c.args.i + 2) ≤ 57) = argument_digit c.args.s.now c.args.i argument in
    let h = digit in omega arith

pub bounds-s-i-in-39 : goal.bounds-s-i-in-39
bounds-s-i-in-39 c =
    let percent : percent_at c.args.s.now (c.args.i + 1) ≡ item_at c.args.s.now c.args.i = item_percent c.args.s.now c.args.i c.requires c.if-c-ne37.false in
    let right : Right (percent_at c.args.s.now (c.args.i + 1)) = right_as percent c.requires.right in
    let quoted : Right (quoted_at c.args.s.now (c.args.i + 1)) = right_as (percent_byte c.args.s.now (c.args.i + 1) refl 39 c.in-39.is) right in
    let quote-in : c.args.i + 3 < length c.args.s.now = quoted_inside c.args.s.now c.args.i quoted in
    omega (arith, quote-in)

pub overflow_cast-result-in-39 : goal.overflow_cast-result-in-39
overflow_cast-result-in-39 c =
    let h = c.type_inv.s (c.args.i + 2) in
    record { sfits = omega arith }

pub overflow_add-result-in-39-2 : goal.overflow_add-result-in-39-2
overflow_add-result-in-39-2 c =
    let percent : percent_at c.args.s.now (c.args.i + 1) ≡ item_at c.args.s.now c.args.i = item_percent c.args.s.now c.args.i c.requires c.if-c-ne37.false in
    let right : Right (percent_at c.args.s.now (c.args.i + 1)) = right_as percent c.requires.right in
    let quoted : Right (quoted_at c.args.s.now (c.args.i + 1)) = right_as (percent_byte c.args.s.now (c.args.i + 1) refl 39 c.in-39.is) right in
    let quote-in : c.args.i + 3 < length c.args.s.now = quoted_inside c.args.s.now c.args.i quoted in
    omega (arith, quote-in)

pub braced_at-requires : goal.braced_at-requires
braced_at-requires c =
    let percent : percent_at c.args.s.now (c.args.i + 1) ≡ item_at c.args.s.now c.args.i = item_percent c.args.s.now c.args.i c.requires c.if-c-ne37.false in
    let right : Right (percent_at c.args.s.now (c.args.i + 1)) = right_as percent c.requires.right in
    right_as (percent_byte c.args.s.now (c.args.i + 1) refl 123 c.in-123.is) right

pub condition-requires : goal.condition-requires
condition-requires c =
    let percent : percent_at c.args.s.now (c.args.i + 1) ≡ item_at c.args.s.now c.args.i = item_percent c.args.s.now c.args.i c.requires c.if-c-ne37.false in
    let right : Right (percent_at c.args.s.now (c.args.i + 1)) = right_as percent c.requires.right in
    record { right = c.requires; percent = c.if-c-ne37.false; question = c.in-63.is }

pub other_at-requires : goal.other_at-requires
other_at-requires c =
    let percent : percent_at c.args.s.now (c.args.i + 1) ≡ item_at c.args.s.now c.args.i = item_percent c.args.s.now c.args.i c.requires c.if-c-ne37.false in
    let right : Right (percent_at c.args.s.now (c.args.i + 1)) = right_as percent c.requires.right in
    let left : LeftToOther (byte_at c.args.s.now (c.args.i + 1)) = (c.in_default.in_default-own.rest.0.0.0.0.0.0.0.0.0.1, (c.in_default.in_default-own.rest.0.0.0.0.0.0.0.0.1, (c.in_default.in_default-own.rest.0.0.0.0.0.0.0.1, (c.in_default.in_default-own.rest.0.0.0.0.0.0.1, (c.in_default.in_default-own.rest.0.0.0.0.0.1, (c.in_default.in_default-own.rest.0.0.0.0.1, (c.in_default.in_default-own.rest.0.0.0.1, (c.in_default.in_default-own.rest.0.0.1, (c.in_default.in_default-own.rest.0.1, (c.in_default.in_default-own.rest.1, tt)))))))))) in
    (left, right)

pub returns-in-112 : goal.returns-in-112
returns-in-112 c =
    let percent : percent_at c.args.s.now (c.args.i + 1) ≡ item_at c.args.s.now c.args.i = item_percent c.args.s.now c.args.i c.requires c.if-c-ne37.false in
    let right : Right (percent_at c.args.s.now (c.args.i + 1)) = right_as percent c.requires.right in
    let argument : Right (argument_at c.args.s.now (c.args.i + 1)) = right_as (percent_byte c.args.s.now (c.args.i + 1) refl 112 c.in-112.is) right in
    (argument_read c.args.s.now c.args.i argument ∙ percent_byte c.args.s.now (c.args.i + 1) refl 112 c.in-112.is ∙ percent, tt)

pub returns-in-39 : goal.returns-in-39
returns-in-39 c =
    let percent : percent_at c.args.s.now (c.args.i + 1) ≡ item_at c.args.s.now c.args.i = item_percent c.args.s.now c.args.i c.requires c.if-c-ne37.false in
    let right : Right (percent_at c.args.s.now (c.args.i + 1)) = right_as percent c.requires.right in
    let quoted : Right (quoted_at c.args.s.now (c.args.i + 1)) = right_as (percent_byte c.args.s.now (c.args.i + 1) refl 39 c.in-39.is) right in
    let h = c.type_inv.s (c.args.i + 2) in
    (rw (to_z_pos w32 {n = byte_at c.args.s.now (c.args.i + 2)} (omega arith)) (quoted_read c.args.s.now c.args.i quoted ∙ percent_byte c.args.s.now (c.args.i + 1) refl 39 c.in-39.is ∙ percent), tt)

pub returns-in-123 : goal.returns-in-123
returns-in-123 c =
    let percent : percent_at c.args.s.now (c.args.i + 1) ≡ item_at c.args.s.now c.args.i = item_percent c.args.s.now c.args.i c.requires c.if-c-ne37.false in
    read_other c.args.s.now c.args.i c.braced_at.ensures (percent_byte c.args.s.now (c.args.i + 1) refl 123 c.in-123.is ∙ percent) (braced_known c.args.s.now c.args.i (c.args.i + 1))

pub returns-in-63 : goal.returns-in-63
returns-in-63 c = c.condition.ensures

pub returns-in-116 : goal.returns-in-116
unfolding singles found
returns-in-116 c =
    let percent : percent_at c.args.s.now (c.args.i + 1) ≡ item_at c.args.s.now c.args.i = item_percent c.args.s.now c.args.i c.requires c.if-c-ne37.false in
    (single_read I.Then c.args.i ∙ percent_byte c.args.s.now (c.args.i + 1) refl 116 c.in-116.is ∙ percent, tt)

pub returns-in-101 : goal.returns-in-101
unfolding singles found
returns-in-101 c =
    let percent : percent_at c.args.s.now (c.args.i + 1) ≡ item_at c.args.s.now c.args.i = item_percent c.args.s.now c.args.i c.requires c.if-c-ne37.false in
    (single_read I.Else c.args.i ∙ percent_byte c.args.s.now (c.args.i + 1) refl 101 c.in-101.is ∙ percent, tt)

pub returns-in-59 : goal.returns-in-59
unfolding singles found
returns-in-59 c =
    let percent : percent_at c.args.s.now (c.args.i + 1) ≡ item_at c.args.s.now c.args.i = item_percent c.args.s.now c.args.i c.requires c.if-c-ne37.false in
    (single_read I.End c.args.i ∙ percent_byte c.args.s.now (c.args.i + 1) refl 59 c.in-59.is ∙ percent, tt)

pub returns-in-105 : goal.returns-in-105
unfolding singles found
returns-in-105 c =
    let percent : percent_at c.args.s.now (c.args.i + 1) ≡ item_at c.args.s.now c.args.i = item_percent c.args.s.now c.args.i c.requires c.if-c-ne37.false in
    (single_read I.Increment c.args.i ∙ percent_byte c.args.s.now (c.args.i + 1) refl 105 c.in-105.is ∙ percent, tt)

pub returns-in-115 : goal.returns-in-115
unfolding singles found
returns-in-115 c =
    let percent : percent_at c.args.s.now (c.args.i + 1) ≡ item_at c.args.s.now c.args.i = item_percent c.args.s.now c.args.i c.requires c.if-c-ne37.false in
    (single_read I.Text c.args.i ∙ percent_byte c.args.s.now (c.args.i + 1) refl 115 c.in-115.is ∙ percent, tt)

pub returns-in-108 : goal.returns-in-108
unfolding singles found
returns-in-108 c =
    let percent : percent_at c.args.s.now (c.args.i + 1) ≡ item_at c.args.s.now c.args.i = item_percent c.args.s.now c.args.i c.requires c.if-c-ne37.false in
    (single_read I.Length c.args.i ∙ percent_byte c.args.s.now (c.args.i + 1) refl 108 c.in-108.is ∙ percent, tt)

pub returns-in_default : goal.returns-in_default
returns-in_default c =
    let percent : percent_at c.args.s.now (c.args.i + 1) ≡ item_at c.args.s.now c.args.i = item_percent c.args.s.now c.args.i c.requires c.if-c-ne37.false in
    let left : LeftToOther (byte_at c.args.s.now (c.args.i + 1)) = (c.in_default.in_default-own.rest.0.0.0.0.0.0.0.0.0.1, (c.in_default.in_default-own.rest.0.0.0.0.0.0.0.0.1, (c.in_default.in_default-own.rest.0.0.0.0.0.0.0.1, (c.in_default.in_default-own.rest.0.0.0.0.0.0.1, (c.in_default.in_default-own.rest.0.0.0.0.0.1, (c.in_default.in_default-own.rest.0.0.0.0.1, (c.in_default.in_default-own.rest.0.0.0.1, (c.in_default.in_default-own.rest.0.0.1, (c.in_default.in_default-own.rest.0.1, (c.in_default.in_default-own.rest.1, tt)))))))))) in
    read_other c.args.s.now c.args.i c.other_at.ensures percent (percent_known c.args.s.now c.args.i (c.args.i + 1) left)
