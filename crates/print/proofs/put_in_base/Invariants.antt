-- `print::put_in_base` meets its contract: each turn puts the last digit of what is left before the digits put so far.
-- Assumes nothing.
use Rattle.print.proofs.DigitLaws.{Placed}
use Rattle.print.proofs.put_in_base.Given as goal

abbrev pub invariant-loop-left : goal.invariant-loop-left
invariant-loop-left l = Placed l.radix l.letters l.n l.left l.at l.end l.initial.out l.out

abbrev pub decreases-loop-left : goal.decreases-loop-left
decreases-loop-left l = l.left
