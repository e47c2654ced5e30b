-- `operators::applied` meets its contract, operator by operator.
-- Assumes nothing.
use mir.Facts.{to_z-of_z}
use Rattle.signed.specs.Signed.{add, subtract, multiply, divide, remainder}
use Rattle.signed.proofs.Laws.{called_two, zero_yes, zero_no, zero_bits}
use Rattle.expansion.specs.Machine.{applied}
use Rattle.operators.proofs.Laws.{equal_bits, truth_of}
use Rattle.operators.proofs.applied.Goals as goal
use Rattle.operators.proofs.applied.Goals.{then-a-ne0, else-a-ne0, then-a-ne0-2, else-a-ne0-2}

pub returns-in-Add : goal.returns-in-Add
unfolding applied
returns-in-Add c =
    rw c.in-Add.is (called_two add c.ranges.a c.ranges.b c.wrapping_add.type_inv c.wrapping_add.ensures)

pub returns-in-Subtract : goal.returns-in-Subtract
unfolding applied
returns-in-Subtract c =
    rw c.in-Subtract.is (called_two subtract c.ranges.a c.ranges.b c.wrapping_subtract.type_inv c.wrapping_subtract.ensures)

pub returns-in-Multiply : goal.returns-in-Multiply
unfolding applied
returns-in-Multiply c =
    rw c.in-Multiply.is (called_two multiply c.ranges.a c.ranges.b c.wrapping_multiply.type_inv c.wrapping_multiply.ensures)

pub returns-in-Divide : goal.returns-in-Divide
unfolding applied
returns-in-Divide c =
    rw c.in-Divide.is (called_two divide c.ranges.a c.ranges.b c.quotient.type_inv c.quotient.ensures)

pub returns-in-Remainder : goal.returns-in-Remainder
unfolding applied
returns-in-Remainder c =
    rw c.in-Remainder.is (called_two remainder c.ranges.a c.ranges.b c.remainder_of.type_inv c.remainder_of.ensures)

pub returns-in-BitAnd : goal.returns-in-BitAnd
unfolding applied
returns-in-BitAnd c = rw c.in-BitAnd.is

pub returns-in-BitOr : goal.returns-in-BitOr
unfolding applied
returns-in-BitOr c = rw c.in-BitOr.is

pub returns-in-BitXor : goal.returns-in-BitXor
unfolding applied
returns-in-BitXor c = rw c.in-BitXor.is

pub returns-in-Equal : goal.returns-in-Equal
unfolding applied
returns-in-Equal c =
    rw c.in-Equal.is (truth_of _ c.from.ensures (equal_bits c.args.a c.args.b c.ranges.a c.ranges.b))

pub returns-in-Greater : goal.returns-in-Greater
unfolding applied
returns-in-Greater c =
    rw c.in-Greater.is (truth_of _ c.from-in-Greater.ensures (rw (to_z-of_z c.ranges.a, to_z-of_z c.ranges.b)))

pub returns-in-Less : goal.returns-in-Less
unfolding applied
returns-in-Less c =
    rw c.in-Less.is (truth_of _ c.from-in-Less.ensures (rw (to_z-of_z c.ranges.a, to_z-of_z c.ranges.b)))

pub returns-after-a-ne0 : goal.returns-after-a-ne0
unfolding applied
returns-after-a-ne0 c =
    rw c.in-And.is
    (truth_of _ c.from-in-And.ensures
    (elim c.if-a-ne0.branch [
      | then-a-ne0 w ↦ rw (w.from-is, zero_bits c.args.b c.ranges.b, zero_no c.args.a w.if-a-ne0.true)
      | else-a-ne0 w ↦ rw (w.from-is, zero_bits c.args.a c.ranges.a, zero_yes c.args.a c.ranges.a w.if-a-ne0.false)
    ]))

pub returns-after-a-ne0-2 : goal.returns-after-a-ne0-2
unfolding applied
returns-after-a-ne0-2 c =
    rw c.in-Or.is
    (truth_of _ c.from-in-Or.ensures
    (elim c.if-a-ne0-2.branch [
      | then-a-ne0-2 w ↦ rw (w.from-is, zero_bits c.args.a c.ranges.a, zero_no c.args.a w.if-a-ne0-2.true)
      | else-a-ne0-2 w ↦ rw (w.from-is, zero_bits c.args.b c.ranges.b, zero_yes c.args.a c.ranges.a w.if-a-ne0-2.false)
    ]))
