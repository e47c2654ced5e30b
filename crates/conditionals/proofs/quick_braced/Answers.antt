-- `conditionals::quick_braced` meets its contract: one or two digits and `}` make the item a constant.
-- Assumes nothing.
use mathlib.Core.Path.{sym, ◌∙◌}
use native.Mathlib.Omega.{arith}
use Rattle.conditionals.proofs.ScanLaws.{one_digit_told, two_digits_told}
use Rattle.conditionals.proofs.quick_braced.Goals as goal

pub returns-then-s-j-eq125 : goal.returns-then-s-j-eq125
returns-then-s-j-eq125 c =
    one_digit_told c.args.s.now c.args.j c.quick_item.ensures (omega arith) (sym c.is_digit.ensures ∙ c.if-not-is_digit.false) c.if-s-j-eq125.true

pub returns-then-s-j-eq125-2 : goal.returns-then-s-j-eq125-2
returns-then-s-j-eq125-2 c =
    two_digits_told c.args.s.now c.args.j c.quick_item-then-s-j-eq125-2.ensures (omega arith) (sym c.is_digit.ensures ∙ c.if-not-is_digit.false) (sym c.is_digit-2.ensures ∙ c.if-not-is_digit-2.false) c.if-s-j-eq125-2.true
