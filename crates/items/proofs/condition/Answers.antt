-- `items::condition` meets its contract: the `%?` is an item, and what is tested behind it two more.
-- Assumes nothing.
use native.Mathlib.Omega.{arith}
use Prim.Native.Nat.{◌+◌}
use Rattle.item_parts.specs.Right.{ArgumentTested}
use Rattle.items.proofs.Laws.{if_inside, if_read, test_digit, test_read}
use Rattle.items.proofs.condition.Goals as goal

pub tests_argument-requires : goal.tests_argument-requires
tests_argument-requires c = if_inside c.args.s.now c.args.i c.requires

pub bounds-s-i : goal.bounds-s-i
bounds-s-i c =
    let tested : ArgumentTested c.args.s.now (c.args.i + 2) = c.tests_argument.ensures c.if-tests_argument.true in
    omega (arith, tested.inside)

pub overflow_sub-result : goal.overflow_sub-result
overflow_sub-result c =
    let tested : ArgumentTested c.args.s.now (c.args.i + 2) = c.tests_argument.ensures c.if-tests_argument.true in
    (test_digit c.args.s.now c.args.i tested).0

pub overflow_cast-result : goal.overflow_cast-result
overflow_cast-result c =
    let tested : ArgumentTested c.args.s.now (c.args.i + 2) = c.tests_argument.ensures c.if-tests_argument.true in
    let h = test_digit c.args.s.now c.args.i tested in
    omega arith

pub returns-then-tests_argument : goal.returns-then-tests_argument
returns-then-tests_argument c =
    let tested : ArgumentTested c.args.s.now (c.args.i + 2) = c.tests_argument.ensures c.if-tests_argument.true in
    (if_read c.args.s.now c.args.i c.requires, test_read c.args.s.now c.args.i tested)

pub returns-else-tests_argument : goal.returns-else-tests_argument
returns-else-tests_argument c =
    (if_read c.args.s.now c.args.i c.requires, tt)
