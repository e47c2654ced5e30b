-- `items::braced_at` meets its contract. The loop's invariant: the digits from here on, behind the value so far, are the constant.
-- Since it is right, it has a digit or `}` here, and the value is no larger than a constant. The measure is what is left of the string.
-- Assumes nothing.
use mathlib.Core.Path.{◌≡◌}
use Prim.Native.Nat.{◌-◌}
use lib.ListN.{length}
use Rattle.expansion.specs.Items.{braced_at}
use Rattle.item_parts.proofs.Cases.{braced_from}
use Rattle.items.proofs.braced_at.Given as goal

abbrev pub invariant-loop-i : goal.invariant-loop-i
invariant-loop-i l = braced_at l.s l.j ≡ braced_from l.s l.j l.i l.v

abbrev pub decreases-loop-i : goal.decreases-loop-i
decreases-loop-i l = length l.s - l.i
