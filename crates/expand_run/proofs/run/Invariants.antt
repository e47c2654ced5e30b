-- `expand_run::run` meets its contract: each turn of its loop is a step of the definition's run, or three of them.
-- Assumes nothing.
use mathlib.Core.List.{List}
use Prim.Native.Nat.{ℕ, ◌-◌}
use lib.ListN as L
use Rattle.expansion.specs.Machine.{run}
use Rattle.expansion.specs.Arguments.{values_of}
use Rattle.expand_run.proofs.TurnLaws.{Running}
use Rattle.expand_run.proofs.run.Given as goal

abbrev pub invariant-loop-i : goal.invariant-loop-i
invariant-loop-i l =
    (o : List ℕ) × Running l.texts l.s (run l.s (values_of l.texts l.initial.given) l.initial.lasting) l.initial.out l.initial.given l.given l.locals l.lasting l.stack l.depth l.i l.steps l.length l.out o

abbrev pub decreases-loop-i : goal.decreases-loop-i
decreases-loop-i l = L.length l.s - l.i
