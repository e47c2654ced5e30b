-- `item_classes::width_class` meets its contract: the tests are the definition's, at the bytes read.
-- Assumes nothing.
use mathlib.Core.Path.{sym, ◌∙◌}
use Rattle.expansion.specs.Items.{width_at}
use Rattle.expansion.specs.Form.{class_of}
use Rattle.item_classes.proofs.width_class.Goals as goal

pub returns-then-not-is_nonzero : goal.returns-then-not-is_nonzero
unfolding width_at class_of
returns-then-not-is_nonzero c = λ zero. rw (← c.byte_at.ensures, sym c.is_nonzero.ensures ∙ c.if-not-is_nonzero.true)

pub returns-then-is_digit : goal.returns-then-is_digit
unfolding width_at
returns-then-is_digit c =
    let z = sym c.is_nonzero.ensures ∙ c.if-not-is_nonzero.false in
    let d = sym c.is_digit.ensures ∙ c.if-is_digit.true in
    λ zero. rw (← c.byte_at.ensures, z, ← c.byte_at-2.ensures, d) (c.format_class.ensures zero _)

pub returns-else-is_digit : goal.returns-else-is_digit
unfolding width_at
returns-else-is_digit c =
    let z = sym c.is_nonzero.ensures ∙ c.if-not-is_nonzero.false in
    let d = sym c.is_digit.ensures ∙ c.if-is_digit.false in
    λ zero. rw (← c.byte_at.ensures, z, ← c.byte_at-2.ensures, d) (c.format_class-else-is_digit.ensures zero _)
