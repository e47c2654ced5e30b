-- `arguments::lies_in` meets its contract, by the operand's kind.
-- Assumes nothing.
use Rattle.arguments.proofs.Laws.{lies_not, lies_by}
use Rattle.arguments.proofs.lies_in.Goals as goal

pub returns-then-lent-start : goal.returns-then-lent-start
returns-then-lent-start c block e =
    rw c.in-Text.is (lies_not c.args.lent block c.in-Text.start c.in-Text.length e c.if-lent-start.true)

pub returns-in-Number : goal.returns-in-Number
returns-in-Number c block e = rw c.in-Number.is

pub returns-else-lent-start : goal.returns-else-lent-start
returns-else-lent-start c block e =
    rw c.in-Text.is (lies_by c.args.lent block c.in-Text.start c.in-Text.length e c.if-lent-start.false)
