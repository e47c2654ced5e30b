-- `right_classes::width_end` meets its contract: in a right width the byte behind the first digit is a digit exactly if
-- it is at most '9'.
-- Assumes nothing.
use native.Mathlib.Omega.{arith}
use Rattle.right_classes.proofs.PartLaws.{width_right}
use Rattle.right_classes.proofs.width_end.Goals as goal

pub overflow_add-k : goal.overflow_add-k
overflow_add-k c = omega (arith, (width_right _ _ c.requires.0 c.requires.1).inside)

pub bounds-s-k : goal.bounds-s-k
bounds-s-k c = (width_right _ _ c.requires.0 c.requires.1).inside

pub overflow_add-result : goal.overflow_add-result
overflow_add-result c = omega (arith, (width_right _ _ c.requires.0 c.requires.1).inside)

pub overflow_add-result-else-s-k-le57 : goal.overflow_add-result-else-s-k-le57
overflow_add-result-else-s-k-le57 c = omega (arith, (width_right _ _ c.requires.0 c.requires.1).inside)

pub returns-then-s-k-le57 : goal.returns-then-s-k-le57
returns-then-s-k-le57 c = λ zero r. (width_right _ _ zero r).two c.if-s-k-le57.true

pub returns-else-s-k-le57 : goal.returns-else-s-k-le57
returns-else-s-k-le57 c = λ zero r. (width_right _ _ zero r).one c.if-s-k-le57.false
