-- `conditionals::quick_if` meets its contract: the `%?` before the place is an item, and what is tested behind it two more.
-- Assumes nothing.
use Rattle.conditionals.proofs.ScanLaws.{if_told, test_told}
use Rattle.conditionals.proofs.quick_if.Goals as goal

pub returns-then-tests_argument : goal.returns-then-tests_argument
returns-then-tests_argument c = test_told c.args.s.now c.args.i (c.tests_argument.ensures c.if-tests_argument.true)

pub returns-else-tests_argument : goal.returns-else-tests_argument
returns-else-tests_argument c = if_told c.args.s.now c.args.i c.quick_item.ensures
