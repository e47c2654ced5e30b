-- `conditionals::quick_argument` meets its contract: a digit from 1 on makes the item an argument.
-- Assumes nothing.
use mathlib.Core.Path.{sym, ◌∙◌}
use Rattle.conditionals.proofs.ScanLaws.{argument_told}
use Rattle.conditionals.proofs.quick_argument.Goals as goal

pub returns-then-is_nonzero : goal.returns-then-is_nonzero
returns-then-is_nonzero c = argument_told c.args.s.now c.args.k c.quick_item.ensures (sym c.is_nonzero.ensures ∙ c.if-is_nonzero.true)
