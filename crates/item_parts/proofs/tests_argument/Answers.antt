-- `item_parts::tests_argument` meets its contract: the five bytes are an argument and `%t`.
-- Assumes nothing.
use mathlib.Core.Path.{sym, ◌∙◌}
use Rattle.base.proofs.IfLaws.{true_false}
use Rattle.item_parts.proofs.Cases.{argument_tested}
use Rattle.item_parts.proofs.tests_argument.Goals as goal

pub returns-then-s-i : goal.returns-then-s-i
returns-then-s-i c = λ e. true_false (sym e)

pub returns-then-s-i-ne116 : goal.returns-then-s-i-ne116
returns-then-s-i-ne116 c = λ e. true_false (sym e)

pub returns-then-s-i-ne37 : goal.returns-then-s-i-ne37
returns-then-s-i-ne37 c = λ e. true_false (sym e)

pub returns-then-s-i-ne112 : goal.returns-then-s-i-ne112
returns-then-s-i-ne112 c = λ e. true_false (sym e)

pub returns-then-s-i-ne37-2 : goal.returns-then-s-i-ne37-2
returns-then-s-i-ne37-2 c = λ e. true_false (sym e)

pub returns : goal.returns
returns c =
    λ e. argument_tested c.args.s.now c.args.i c.if-s-i.false c.if-s-i-ne37.false c.if-s-i-ne112.false (sym c.is_nonzero.ensures ∙ e) c.if-s-i-ne37-2.false c.if-s-i-ne116.false
