-- `item_classes::class_at` meets its contract: the tests are the definition's, at the byte read.
-- Assumes nothing.
use borrow.Author.Tests.{ne_eqb}
use Rattle.expansion.specs.Items.{byte_at, item_at}
use Rattle.expansion.specs.Form.{class_of, class_at}
use Rattle.item_classes.proofs.class_at.Goals as goal

pub returns-then-c-eq0 : goal.returns-then-c-eq0
unfolding item_at class_at class_of
returns-then-c-eq0 c = rw c.if-c-eq0.true

pub returns-then-c-eq37 : goal.returns-then-c-eq37
unfolding item_at class_at
returns-then-c-eq37 c = rw c.if-c-eq37.true c.percent_class.ensures

pub returns : goal.returns
unfolding item_at class_at class_of
returns c =
    let x = byte_at c.args.s.now c.args.i in
    rw (ne_eqb x 0 c.if-c-eq0.false, ne_eqb x 37 c.if-c-eq37.false)
