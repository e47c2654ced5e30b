use Prim.Native.Nat.{◌-◌}
use lib.ListN.{length}
use Rattle.contents.proofs.Putting.{Filled}
use Rattle.contents.proofs.put_read.Given as goal

abbrev pub invariant-loop-p : goal.invariant-loop-p
invariant-loop-p l = Filled l.text l.from l.i l.initial.b l.b l.at l.p

abbrev pub decreases-loop-p : goal.decreases-loop-p
decreases-loop-p l = length l.text - l.i
