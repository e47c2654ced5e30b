use mathlib.Core.Path.{◌∙◌}
use Rattle.contents.proofs.UsualLaws.{digit_told}
use borrow.Author.Tests.{eq-eqb, ne_eqb}
use Rattle.contents.specs.Usual.{is_octal}
use Rattle.contents.proofs.is_octal.Goals as goal

pub returns-then-is_digit-2 : goal.returns-then-is_digit-2
unfolding is_octal
returns-then-is_digit-2 c =
    rw (eq-eqb _ 92 c.if-text-at-eq92.true, digit_told 51 c.is_digit.ensures c.byte_at.ensures ∙ c.if-is_digit.true, digit_told 55 c.is_digit-then-is_digit.ensures c.byte_at-then-is_digit.ensures ∙ c.if-is_digit-2.true, digit_told 55 c.is_digit-then-is_digit-2.ensures c.byte_at-then-is_digit-2.ensures)

pub returns-else-is_digit-2 : goal.returns-else-is_digit-2
unfolding is_octal
returns-else-is_digit-2 c =
    rw (eq-eqb _ 92 c.if-text-at-eq92.true, digit_told 51 c.is_digit.ensures c.byte_at.ensures ∙ c.if-is_digit.true, digit_told 55 c.is_digit-then-is_digit.ensures c.byte_at-then-is_digit.ensures ∙ c.if-is_digit-2.false)

pub returns-else-is_digit : goal.returns-else-is_digit
unfolding is_octal
returns-else-is_digit c =
    rw (eq-eqb _ 92 c.if-text-at-eq92.true, digit_told 51 c.is_digit.ensures c.byte_at.ensures ∙ c.if-is_digit.false)

pub returns-else-text-at-eq92 : goal.returns-else-text-at-eq92
unfolding is_octal
returns-else-text-at-eq92 c = rw (ne_eqb _ 92 c.if-text-at-eq92.false)
