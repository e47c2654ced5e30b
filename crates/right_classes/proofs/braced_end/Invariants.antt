-- `right_classes::braced_end` meets its contract. The loop's invariant: the digits from `i` on end where those from `j`
-- on do. The measure is what is left of the string.
-- Assumes nothing.
use mathlib.Core.Path.{◌≡◌}
use Prim.Native.Nat.{◌-◌}
use lib.ListN.{length}
use Rattle.expansion.specs.Items.{digits_end}
use Rattle.right_classes.proofs.braced_end.Given as goal

abbrev pub invariant-loop-i : goal.invariant-loop-i
invariant-loop-i l = digits_end l.s l.i ≡ digits_end l.s l.j

abbrev pub decreases-loop-i : goal.decreases-loop-i
decreases-loop-i l = length l.s - l.i
