-- `conditionals::scan` meets its contract. The loop's invariant: what is left from here has the form of what is left from the start.
-- The measure is what is left of the string. Assumes nothing.
use Prim.Native.Nat.{◌-◌}
use lib.ListN.{length}
use Rattle.conditionals.specs.Scan.{ScannedAs}
use Rattle.conditionals.proofs.scan.Given as goal

abbrev pub invariant-loop-i : goal.invariant-loop-i
invariant-loop-i l = ScannedAs l.s l.from l.before record { at = l.i; kept = l.kept }

abbrev pub decreases-loop-i : goal.decreases-loop-i
decreases-loop-i l = length l.s - l.i
