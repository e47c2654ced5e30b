-- `level_end::pass` meets its contract. The loop's invariant is `Along` of Laws. The measure is what is left of the
-- string.
-- Assumes nothing.
use Prim.Native.Nat.{◌-◌}
use lib.ListN.{length}
use Rattle.level_end.proofs.Laws.{Along}
use Rattle.level_end.proofs.pass.Given as goal

abbrev pub invariant-loop-n : goal.invariant-loop-n
invariant-loop-n l = Along l.s l.from l.elses l.i l.inner

abbrev pub decreases-loop-n : goal.decreases-loop-n
decreases-loop-n l = length l.s - l.i
